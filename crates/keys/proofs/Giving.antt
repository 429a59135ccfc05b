-- What the gifts have for a joint move is what the live slots give: a slot's moves are made where its home is the place of a key that is looked up.
use Prim.Native.Nat.{ℕ, zero, suc, ◌≤◌, ◌<◌}
use mathlib.Core.Path.{◌≡◌, refl, sym, ap, ap₂, ◌∙◌}
use mathlib.Core.Bool.{Bool, true, false, cond, ◌||◌, false≢true}
use mathlib.Core.Logic.{◌⊎◌, inl, inr, ⊎_elim}
use mathlib.Core.List.{List, [], ◌∷◌, ◌++◌}
use native.Mathlib.Omega.{arith}
use borrow.Author.Tests.{eqb-true, eq-eqb}
use lib.Bits.{bit_and, bit_or}
use lib.Dec.{eqb}
use lib.ListN.{get_or, length, length-append, get_or-append}
use lib.Seq.{get_or_at}
use Rattle.facts.specs.Bits.{bit, insert}
use Rattle.facts.specs.Laws.{bit-or, bit-and, bit_insert}
use Rattle.facts.specs.Sets.{◌⊆◌, same_set, le_or_lt}
use Rattle.facts.specs.Truth.{same_test, or_left, or_right, or_split}
use Rattle.rules.specs.Rules.{over}
use Rattle.meaning.specs.Lists.{place}
use Rattle.lookup.proofs.Place.{place_le}
use Rattle.codes.specs.Codes.{calm, stirs, joint_of}
use Rattle.codes.specs.Table.{sets_in, member_in}
use Rattle.keys.specs.declared.Keys.{Keys}
use Rattle.keys.specs.Keys.{alive, tested, picked_by, next_by, kind_of, key_of, need_in, keys_of, keys_in, Filing, Gathered, place_at, given}
use Rattle.keys.proofs.Homing.{up_to, place_injective, home_inside, mask_there, kind_below}
use Rattle.keys.proofs.Mixing.{key_injective}
use Rattle.keys.proofs.Parts.{kind_low, part_is}

-- ---- what tests pick
module _ (code : List ℕ) where
  -- From any two sets on, the union of what two tests pick is what either picks, from their union on.
  over_either : (p q : ℕ → Bool) (l : List ℕ) (x y : ℕ) → bit_or (over (tested p code) l x) (over (tested q code) l y) ≡ over (tested (λ c. p c || q c) code) l (bit_or x y)
  over_either p q [] x y = refl
  over_either p q (c ∷ l) x y =
      over_either p q l (tested p code c x) (tested q code c y) ∙ ap (over (tested (λ c. p c || q c) code) l) (step (member_in code c) (p c) (q c))
    where
      step : (m : ℕ) (t u : Bool) → bit_or (cond t (insert x m) x) (cond u (insert y m) y) ≡ cond (t || u) (insert (bit_or x y) m) (bit_or x y)
      step m true true = same_set _ _ (λ i. omega (arith, bit-or (insert x m) (insert y m) i, bit_insert x m i, bit_insert y m i, bit_insert (bit_or x y) m i, bit-or x y i))
      step m true false = same_set _ _ (λ i. omega (arith, bit-or (insert x m) y i, bit_insert x m i, bit_insert (bit_or x y) m i, bit-or x y i))
      step m false true = same_set _ _ (λ i. omega (arith, bit-or x (insert y m) i, bit_insert y m i, bit_insert (bit_or x y) m i, bit-or x y i))
      step m false false = refl

  -- The union of what two tests pick is what either picks.
  pub picked_either : (p q : ℕ → Bool) (l : List ℕ) → bit_or (picked_by p code l) (picked_by q code l) ≡ picked_by (λ c. p c || q c) code l
  unfolding picked_by
  picked_either p q l = over_either p q l 0 0

  -- From any set on, two tests that agree on every slot of a list pick the same.
  over_same : (p q : ℕ → Bool) (l : List ℕ) (x : ℕ) → ((j : ℕ) → j < length l → p (get_or l j 0) ≡ q (get_or l j 0)) → over (tested p code) l x ≡ over (tested q code) l x
  over_same p q [] x h = refl
  over_same p q (c ∷ l) x h =
      over_same p q l (tested p code c x) (λ j k. h (suc j) (omega arith))
      ∙ ap (λ (t : Bool). over (tested q code) l (cond t (insert x (member_in code c)) x)) (h 0 (omega arith))

  -- Two tests that agree on every slot of a list pick the same.
  pub picked_same : (p q : ℕ → Bool) (l : List ℕ) → ((j : ℕ) → j < length l → p (get_or l j 0) ≡ q (get_or l j 0)) → picked_by p code l ≡ picked_by q code l
  unfolding picked_by
  picked_same p q l h = over_same p q l 0 h

  -- From any set on, a test that is false everywhere picks nothing.
  over_none : (l : List ℕ) (x : ℕ) → over (tested (λ c. false) code) l x ≡ x
  over_none [] x = refl
  over_none (c ∷ l) x = over_none l x

  -- A test that is false everywhere picks nothing.
  pub picked_none : (l : List ℕ) → picked_by (λ c. false) code l ≡ 0
  unfolding picked_by
  picked_none l = over_none l 0

-- ---- slots with their home at one of some places
-- Does slot c have its home at one of the first k places?
abbrev hit : List ℕ → (ℕ → ℕ) → ℕ → ℕ → Bool
hit homes at zero c = false
hit homes at (suc k) c = hit homes at k c || eqb (get_or homes c 0) (at k)

module _ (homes : List ℕ) (at : ℕ → ℕ) where
  -- A slot with its home at one of the places is hit.
  hit_at : (k j c : ℕ) → j < k → get_or homes c 0 ≡ at j → hit homes at k c ≡ true
  hit_at zero j c h e = absurd (omega arith)
  hit_at (suc k) j c h e =
      up_to (λ i. get_or homes c 0 ≡ at i → hit homes at (suc k) c ≡ true) k j
      (λ e. or_right (hit homes at k c) (eq-eqb (get_or homes c 0) (at k) e))
      (λ l e. or_left (eqb (get_or homes c 0) (at k)) (hit_at k j c l e))
      h e

  -- A slot that is hit has its home at one of the places.
  hit_some : (k c : ℕ) → hit homes at k c ≡ true → (j : ℕ) × (get_or homes c 0 ≡ at j)
  hit_some zero c e = absurd (false≢true e)
  hit_some (suc k) c e = ⊎_elim (hit_some k c) (λ q. (k, eqb-true (get_or homes c 0) (at k) q)) (or_split (hit homes at k c) (eqb (get_or homes c 0) (at k)) e)

-- What the gifts have is what the slots give that are hit.
given_hit : {code homes : List ℕ} {n : ℕ} {l gifts : List ℕ} (keys masks : List ℕ) → Gathered code homes n l gifts → length keys ≤ n
    → (joint k : ℕ) → given keys masks gifts joint k ≡ picked_by (hit homes (place_at keys masks joint) k) code l
unfolding given
given_hit {code} {homes} {n} {l} {gifts} keys masks g h joint zero = sym (picked_none code l)
given_hit {code} {homes} {n} {l} {gifts} keys masks g h joint (suc k) =
    let x = key_of (bit_and (get_or masks k 0) joint) in
    ap₂ bit_or (given_hit keys masks g h joint k) (g.gifts_are (place_at keys masks joint k) (omega (arith, h, place_le x keys)))
    ∙ picked_either code (hit homes (place_at keys masks joint) k) (λ c. eqb (get_or homes c 0) (place_at keys masks joint k)) l

-- ---- the joint move has the moves of a slot
-- What two sets have is a part of the second.
meet_covered : (x y : ℕ) → bit_and y (bit_and x y) ≡ bit_and x y
meet_covered x y = same_set _ _ (λ i. omega (arith, bit-and y (bit_and x y) i, bit-and x y i))

-- A set that is its own meet with another is a part of it.
covered_part : (x y : ℕ) → bit_and y x ≡ x → x ⊆ y
covered_part x y e i h = omega (arith, h, bit-and y x i, ap (λ (z : ℕ). bit z i) e)

module _ {code : List ℕ} {to : ℕ} {table homes : List ℕ} {filed : Keys} (f : Filing code to table homes filed) (m : List ℕ) where
  -- The place of the key that is looked up for a kind.
  abbrev found : ℕ → ℕ
  found = place_at (keys_in table filed) filed.masks (joint_of m)

  -- It is looked up among the keys of the slots.
  found_is : (x k : ℕ) → bit_and (get_or filed.masks k 0) (joint_of m) ≡ x → found k ≡ place (key_of x) (keys_of code to)
  found_is x k e = ap₂ (λ (y : ℕ) (l : List ℕ). place (key_of y) l) e f.keys_are

  -- A slot whose moves are made is hit.
  made_hit : (c : ℕ) → c < to → stirs (sets_in code c) (joint_of m) ≡ true → hit homes found filed.kinds c ≡ true
  unfolding stirs
  made_hit c h e =
      let d = need_in code c in
      let part : bit_and (get_or filed.masks (kind_of d) 0) (joint_of m) ≡ d =
      ap (λ (x : ℕ). bit_and x (joint_of m)) (f.masks_are (kind_of d) (kind_low d) ∙ mask_there code to c h)
      ∙ part_is d m (covered_part d (joint_of m) (eqb-true (bit_and (joint_of m) d) d e)) in
      hit_at homes found filed.kinds (kind_of d) c (omega (arith, f.kinds_are, kind_below code to c h)) (f.homes_are c h ∙ sym (found_is d (kind_of d) part))

  -- The moves of a slot that is hit are made.
  hit_made : (c : ℕ) → c < to → hit homes found filed.kinds c ≡ true → stirs (sets_in code c) (joint_of m) ≡ true
  unfolding stirs
  hit_made c h e =
      let d = need_in code c in
      let (k, q) = hit_some homes found filed.kinds c e in
      let x = bit_and (get_or filed.masks k 0) (joint_of m) in
      let same : d ≡ x =
      key_injective d x (place_injective (key_of d) (key_of x) (keys_of code to) (home_inside code to c h) (sym (f.homes_are c h) ∙ q ∙ found_is x k refl)) in
      eq-eqb (bit_and (joint_of m) d) d (ap (bit_and (joint_of m)) same ∙ meet_covered (get_or filed.masks k 0) (joint_of m) ∙ sym same)

-- THE theorem: what the gifts have for a joint move, over all kinds, is what the slots give.
pub given_next : {code : List ℕ} {to : ℕ} {table homes : List ℕ} {filed : Keys} {l gifts : List ℕ} → Filing code to table homes filed → Gathered code homes filed.count l gifts → ((j : ℕ) → j < length l → get_or l j 0 < to)
    → (m : List ℕ) → given (keys_in table filed) filed.masks gifts (joint_of m) filed.kinds ≡ next_by code (joint_of m) l
given_next {code} {to} {table} {homes} {filed} {l} f g below m =
    given_hit (keys_in table filed) filed.masks g (omega (arith, f.count, ap length f.keys_are)) (joint_of m) filed.kinds
    ∙ picked_same code (hit homes (found f m) filed.kinds) (λ c. stirs (sets_in code c) (joint_of m)) l
    (λ j k. same_test _ _ (hit_made f m (get_or l j 0) (below j k)) (made_hit f m (get_or l j 0) (below j k)))

-- ---- the live slots
-- A list of slots below c, and c where a test holds.
last_below : (c j : ℕ) (l : List ℕ) (t : Bool) → ((i : ℕ) → i < length l → get_or l i 0 < c) → j < length (l ++ cond t (c ∷ []) []) → get_or (l ++ cond t (c ∷ []) []) j 0 < suc c
last_below c j l t f h = go t h (le_or_lt (length l) j)
  where
    go : (t : Bool) → j < length (l ++ cond t (c ∷ []) []) → (length l ≤ j) ⊎ (j < length l) → get_or (l ++ cond t (c ∷ []) []) j 0 < suc c
    go t h (inr g) = omega (arith, get_or-append l (cond t (c ∷ []) []) 0 j g, f j g)
    go true h (inl g) = let e : length l ≡ j = omega (arith, length-append l (c ∷ [])) in omega (arith, get_or_at l c [] 0 j e)
    go false h (inl g) = absurd (omega (arith, length-append {A = ℕ} l []))

-- Each live slot below `to` is below it.
pub alive_below : (code : List ℕ) (facts views to : ℕ) → (j : ℕ) → j < length (alive code facts views to) → get_or (alive code facts views to) j 0 < to
unfolding alive
alive_below code facts views zero j h = absurd (omega arith)
alive_below code facts views (suc c) j h = last_below c j (alive code facts views c) (calm (sets_in code c) facts views) (alive_below code facts views c) h
