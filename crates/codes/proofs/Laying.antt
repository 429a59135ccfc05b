-- The laws of the tables that codes are laid into, and of the loop over the rules.
use mathlib.Core.Path.{◌≡◌, refl, sym, ap, ap₂, ◌∙◌, subst}
use mathlib.Core.Bool.{Bool, true, false, cond}
use mathlib.Core.List.{List, [], ◌∷◌, ◌++◌}
use Prim.Native.Nat.{ℕ, zero, suc, ◌+◌, ◌*◌, ◌≤◌, ◌<◌}
use native.Mathlib.Nat.{add-zero}
use native.Mathlib.Omega.{arith}
use borrow.Author.Tests.{lt-ltb, le-ltb}
use lib.Dec.{ltb}
use lib.ListN.{length, get_or, set, take, drop, length-set, length-take, length-drop, length-append}
use borrow.Rule.Slice.PartMut.{put_mid}
use lib.Seq.{take-length, sets, sets-eq, paste, length-sets, get_or-set_same, get_or-set_other}
use Rattle.std.proofs.lemmas.Slice.{put_mid-paste}
use Rattle.sheet.specs.Data.{Rule}
use Rattle.rules.specs.declared.Ask.{Ask}
use Rattle.rules.specs.Rules.{member_of}
use Rattle.codes.specs.Codes as codes
use Rattle.codes.specs.Codes.{bits, sets_of, code_of, picked, Sound, AllSound}
use Rattle.codes.specs.Table.{width, InSlot, Stand, Encoded}
use Rattle.codes.specs.Laid.{written, laid, encoded, after}
use Rattle.codes.proofs.Body.{code_length, sets_length}

-- ---- a run of stores: before it, behind it and in it
pub sets_below : (vs l : List ℕ) (i j : ℕ) → j < i → get_or (sets l i vs) j 0 ≡ get_or l j 0
sets_below [] l i j h = refl
sets_below (a ∷ vs) l i j h = sets_below vs (set l i a) (suc i) j (omega arith) ∙ get_or-set_other l i j a 0 (λ e. omega arith)

pub sets_above : (vs l : List ℕ) (i j : ℕ) → i + length vs ≤ j → get_or (sets l i vs) j 0 ≡ get_or l j 0
sets_above [] l i j h = refl
sets_above (a ∷ vs) l i j h = sets_above vs (set l i a) (suc i) j (omega arith) ∙ get_or-set_other l i j a 0 (λ e. omega arith)

pub sets_at_lem : (vs l : List ℕ) (i j : ℕ) → j < length vs → i + length vs ≤ length l → get_or (sets l i vs) (i + j) 0 ≡ get_or vs j 0
sets_at_lem [] l i j h k = absurd (omega arith)
sets_at_lem (a ∷ vs) l i zero h k =
    sets_below vs (set l i a) (suc i) (i + 0) (omega arith) ∙ ap (λ (n : ℕ). get_or (set l i a) n 0) (add-zero i) ∙ get_or-set_same l i a 0 (omega arith)
sets_at_lem (a ∷ vs) l i (suc j) h k =
    let e : i + suc j ≡ suc i + j = omega arith in
    ap (λ (n : ℕ). get_or (sets (set l i a) (suc i) vs) n 0) e ∙ sets_at_lem vs (set l i a) (suc i) j (omega arith) (omega (arith, length-set l i a))

-- ---- one slot
-- a list of five, and six stores
five : (w : List ℕ) → length w ≡ 5 → w ≡ get_or w 0 0 ∷ get_or w 1 0 ∷ get_or w 2 0 ∷ get_or w 3 0 ∷ get_or w 4 0 ∷ []
five [] h = absurd (omega arith)
five (x ∷ []) h = absurd (omega arith)
five (x ∷ y ∷ []) h = absurd (omega arith)
five (x ∷ y ∷ z ∷ []) h = absurd (omega arith)
five (x ∷ y ∷ z ∷ u ∷ []) h = absurd (omega arith)
five (x ∷ y ∷ z ∷ u ∷ v ∷ []) h = refl
five (x ∷ y ∷ z ∷ u ∷ v ∷ t ∷ w) h = absurd (omega arith)

take_all : (l : List ℕ) → length l ≡ 6 → take 6 l ≡ l
take_all l e = ap (λ (i : ℕ). take i l) (sym e) ∙ take-length l

-- the sets over five of the slot's numbers, and a number over the sixth
over_six : (w r : List ℕ) (m : ℕ) → length w ≡ 5 → length r ≡ 1 → set (w ++ r) 5 m ≡ w ++ (m ∷ [])
over_six w [] m h k = absurd (omega arith)
over_six w (x ∷ y ∷ r) m h k = absurd (omega arith)
over_six w (x ∷ []) m h k = ap (λ (l : List ℕ). set (l ++ (x ∷ [])) 5 m) (five w h) ∙ sym (ap (λ (l : List ℕ). l ++ (m ∷ [])) (five w h))

pub write_is : (code w x : List ℕ) (c k m n : ℕ) → length w ≡ 5 → width * c + width ≤ length code → k ≡ width → x ≡ w → n ≡ m
    → put_mid (6 * c) k code (set (x ++ drop 5 (take k (drop (6 * c) code))) 5 n) ≡ written code c (w ++ (m ∷ []))
unfolding written
write_is code w x c k m n h room e f g =
    let r = drop 5 (take k (drop (6 * c) code)) in
    let one : length r ≡ 1 = omega (arith, length-drop 5 (take k (drop (6 * c) code)), length-take k (drop (6 * c) code), length-drop (6 * c) code) in
    let v : set (x ++ r) 5 n ≡ w ++ (m ∷ []) = ap₂ (λ (l : List ℕ) (i : ℕ). set (l ++ r) 5 i) f g ∙ over_six w r m h one in
    let six : length (w ++ (m ∷ [])) ≡ 6 = omega (arith, length-append w (m ∷ [])) in
    put_mid-paste (6 * c) k code (set (x ++ r) 5 n) (w ++ (m ∷ [])) k v refl (omega arith)
    ∙ ap (λ (i : ℕ). paste code (6 * c) (w ++ (m ∷ [])) i) e
    ∙ ap (λ (l : List ℕ). take (6 * c) code ++ l ++ drop (6 * c + 6) code) (take_all (w ++ (m ∷ [])) six)
    ∙ ap (λ (i : ℕ). take (6 * c) code ++ (w ++ (m ∷ [])) ++ drop (6 * c + i) code) (sym six)
    ∙ sym (sets-eq (w ++ (m ∷ [])) code (6 * c) (omega arith))

module _ (q : Ask) (r : Rule) (code : List ℕ) (c : ℕ) where
  abbrev put : List ℕ
  put = written code c (code_of q r)

  slot_length : length put ≡ length code
  unfolding written
  slot_length = length-sets code (width * c) (code_of q r)

  slot_below : (j : ℕ) → j < width * c → get_or put j 0 ≡ get_or code j 0
  unfolding written
  slot_below j h = sets_below (code_of q r) code (width * c) j h

  slot_above : (j : ℕ) → width * (c + 1) ≤ j → get_or put j 0 ≡ get_or code j 0
  unfolding written
  slot_above j h = sets_above (code_of q r) code (width * c) j (omega (arith, code_length q r))

  slot_in : width * (c + 1) ≤ length code → InSlot put c (code_of q r)
  unfolding written
  slot_in h j k = sets_at_lem (code_of q r) code (width * c) j (omega (arith, code_length q r)) (omega (arith, code_length q r))

-- ---- slots one after another
module _ (q : Ask) where
  laid_length : (rs : List Rule) (code : List ℕ) (c : ℕ) → length (laid q rs code c) ≡ length code
  laid_length [] code c = refl
  laid_length (r ∷ rs) code c = laid_length rs (put q r code c) (c + 1) ∙ slot_length q r code c

  laid_below : (rs : List Rule) (code : List ℕ) (c j : ℕ) → j < width * c → get_or (laid q rs code c) j 0 ≡ get_or code j 0
  laid_below [] code c j h = refl
  laid_below (r ∷ rs) code c j h = laid_below rs (put q r code c) (c + 1) j (omega arith) ∙ slot_below q r code c j h

  laid_above : (rs : List Rule) (code : List ℕ) (c j : ℕ) → width * (c + length rs) ≤ j → get_or (laid q rs code c) j 0 ≡ get_or code j 0
  laid_above [] code c j h = refl
  laid_above (r ∷ rs) code c j h = laid_above rs (put q r code c) (c + 1) j (omega arith) ∙ slot_above q r code c j (omega arith)

  laid_stand : (rs : List Rule) (code : List ℕ) (c : ℕ) → width * (c + length rs) ≤ length code → Stand q rs (laid q rs code c) c
  laid_stand [] code c h = tt
  laid_stand (r ∷ rs) code c h = (
    λ j k. laid_below rs (put q r code c) (c + 1) (width * c + j) (omega arith) ∙ slot_in q r code c (omega arith) j k,
    laid_stand rs (put q r code c) (c + 1) (omega (arith, slot_length q r code c)),
  )

  -- what stands in a table stands in one that is the same up to the last slot
  pub stand_kept : (rs : List Rule) (code other : List ℕ) (c : ℕ) → ((j : ℕ) → j < width * (c + length rs) → get_or other j 0 ≡ get_or code j 0)
      → Stand q rs code c → Stand q rs other c
  stand_kept [] code other c h k = tt
  stand_kept (r ∷ rs) code other c h k = (
    λ j l. h (width * c + j) (omega arith) ∙ k.0 j l,
    stand_kept rs code other (c + 1) (λ j l. h j (omega arith)) k.1,
  )

-- ---- the rules that add to the set that is asked for
module _ (q : Ask) (rs : List Rule) where
  pub after_is : (c : ℕ) → after q rs c ≡ c + length (picked q rs)
  unfolding after
  after_is c = refl

  pub encoded_length : (code : List ℕ) (c : ℕ) → length (encoded q rs code c) ≡ length code
  unfolding encoded
  encoded_length code c = laid_length q (picked q rs) code c

  -- the slots before them are kept
  pub encoded_below : (code : List ℕ) (c j : ℕ) → j < width * c → get_or (encoded q rs code c) j 0 ≡ get_or code j 0
  unfolding encoded
  encoded_below code c j h = laid_below q (picked q rs) code c j h

  -- and those behind them
  pub encoded_above : (code : List ℕ) (c j : ℕ) → width * after q rs c ≤ j → get_or (encoded q rs code c) j 0 ≡ get_or code j 0
  unfolding encoded after
  encoded_above code c j h = laid_above q (picked q rs) code c j h

  -- and they stand there
  pub encoded_stand : (code : List ℕ) (c : ℕ) → width * after q rs c ≤ length code → Encoded q rs (encoded q rs code c) c (after q rs c)
  unfolding encoded after
  encoded_stand code c h = record { count = refl; stand = laid_stand q (picked q rs) code c h }

  pub encoded_kept : (code other : List ℕ) (c e : ℕ) → ((j : ℕ) → j < width * e → get_or other j 0 ≡ get_or code j 0) → Encoded q rs code c e → Encoded q rs other c e
  encoded_kept code other c e h k = record {
    count = k.count;
    stand = stand_kept q (picked q rs) code other c (λ j l. h j (omega (arith, k.count))) k.stand;
  }

-- ---- one rule, and the rest
module _ (q : Ask) (r : Rule) where
  abbrev is : Bool
  is = ltb (member_of q r.head) bits

  pub after_yes : (c : ℕ) → member_of q r.head < bits → after q (r ∷ []) c ≡ c + 1
  unfolding after
  after_yes c h = simp (lt-ltb _ _ h)

  pub after_no : (c : ℕ) → bits ≤ member_of q r.head → after q (r ∷ []) c ≡ c
  unfolding after
  after_no c h = simp (le-ltb _ _ h, add-zero)

  pub encoded_yes : (code : List ℕ) (c : ℕ) → member_of q r.head < bits → encoded q (r ∷ []) code c ≡ written code c (code_of q r)
  unfolding encoded
  encoded_yes code c h = simp (lt-ltb _ _ h)

  pub encoded_no : (code : List ℕ) (c : ℕ) → bits ≤ member_of q r.head → encoded q (r ∷ []) code c ≡ code
  unfolding encoded
  encoded_no code c h = simp (le-ltb _ _ h)

  -- the code from its sets and its member
  pub encoded_from : (code w z : List ℕ) (c m : ℕ) → m ≡ member_of q r.head → m < bits → w ≡ sets_of r.body → z ≡ written code c (w ++ (m ∷ [])) → z ≡ encoded q (r ∷ []) code c
  unfolding code_of
  encoded_from code w z c m e h g k =
      k ∙ ap (λ (x : List ℕ). written code c (x ++ (m ∷ []))) g ∙ ap (λ (n : ℕ). written code c (sets_of r.body ++ (n ∷ []))) e
      ∙ sym (encoded_yes code c (subst (λ (n : ℕ). n < bits) e h))

  module _ (rs : List Rule) (c : ℕ) where
    pub after_cons : after q (r ∷ rs) c ≡ after q rs (after q (r ∷ []) c)
    unfolding after
    after_cons = go is
      where
        go : (t : Bool) → c + length (cond t (r ∷ picked q rs) (picked q rs)) ≡ (c + length (cond t (r ∷ []) [])) + length (picked q rs)
        go true = omega arith
        go false = omega arith

    pub encoded_cons : (code : List ℕ) → encoded q (r ∷ rs) code c ≡ encoded q rs (encoded q (r ∷ []) code c) (after q (r ∷ []) c)
    unfolding encoded after
    encoded_cons code = go is
      where
        go : (t : Bool) → laid q (cond t (r ∷ picked q rs) (picked q rs)) code c ≡ laid q (picked q rs) (laid q (cond t (r ∷ []) []) code c) (c + length (cond t (r ∷ []) []))
        go true = refl
        go false = ap (laid q (picked q rs) code) (sym (add-zero c))

-- what one rule does
pub ruleset one_slot = (after_yes, after_no, encoded_from, encoded_no, sets_length)

pub after_above : (q : Ask) (rs : List Rule) (c : ℕ) → c ≤ after q rs c
after_above q rs c = omega (arith, after_is q rs c)

-- ---- THE loop over the rules: those that are left are sound, and from the present slot and table they lead to the last slot (e) and the whole table (z)
pub record Laying (q : Ask) (e : ℕ) (z : List ℕ) (rs : List Rule) (c : ℕ) (code : List ℕ) : Type 0 where
  pub sound : AllSound rs
  pub slot : after q rs c ≡ e
  pub gives : encoded q rs code c ≡ z
  pub room : width * e ≤ length code

module _ {q : Ask} {e : ℕ} {z : List ℕ} {r : Rule} {rs : List Rule} {c : ℕ} {code : List ℕ} (v : Laying q e z (r ∷ rs) c code) where
  -- the rule at hand is sound, and has a slot
  pub laying_sound : Sound r.body
  laying_sound = go v.sound
    where
      go : AllSound (r ∷ rs) → Sound r.body
      go (codes.one this rest) = this

  pub laying_slot : width * after q (r ∷ []) c ≤ length code
  laying_slot = omega (arith, after_cons q r rs c, after_above q rs (after q (r ∷ []) c), v.slot, v.room)

  -- the next turn
  pub laying_on : {d : ℕ} {next : List ℕ} → d ≡ after q (r ∷ []) c → next ≡ encoded q (r ∷ []) code c → Laying q e z rs d next
  laying_on {d} {next} h k = record {
    sound = go v.sound;
    slot = ap (after q rs) h ∙ sym (after_cons q r rs c) ∙ v.slot;
    gives = ap (λ (l : List ℕ). encoded q rs l d) k ∙ ap (encoded q rs (encoded q (r ∷ []) code c)) h ∙ sym (encoded_cons q r rs c code) ∙ v.gives;
    room = omega (arith, v.room, ap length k, encoded_length q (r ∷ []) code c);
  }
    where
      go : AllSound (r ∷ rs) → AllSound rs
      go (codes.one this rest) = rest

-- the end
pub laying_out : {q : Ask} {e : ℕ} {z : List ℕ} {c : ℕ} {code : List ℕ} → Laying q e z [] c code → (c ≡ e) × (code ≡ z)
unfolding after encoded
laying_out {c = c} v = (sym (add-zero c) ∙ v.slot, v.gives)
