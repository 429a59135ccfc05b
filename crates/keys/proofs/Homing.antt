-- The slots are filed: each slot's key is among the keys, and its place there is the slot's home; the laws of the loop that files them.
use Prim.Native.Nat.{ℕ, zero, suc, ◌+◌, ◌%◌, ◌≤◌, ◌<◌, max}
use mathlib.Core.Path.{◌≡◌, refl, sym, ap, ap₂, ◌∙◌, subst}
use mathlib.Core.Bool.{Bool, true, false, cond}
use mathlib.Core.Logic.{⊎_elim}
use mathlib.Core.List.{List, [], ◌∷◌, ◌++◌}
use native.Mathlib.Nat.{eq-or-lt_of_le}
use native.Mathlib.Numerals.{add-one}
use native.Mathlib.Omega.{arith}
use borrow.Author.Tests.{eqb-true, eqb-false, eq-eqb, ltb-true}
use lib.Dec.{eqb, ltb}
use lib.ListN.{get_or, length, set, replicate, length-append, length-set, length-replicate}
use lib.Seq.{get_or-set_same, get_or-set_other}
use Rattle.tables.specs.Lengths.{state_limit}
use Rattle.sheet.specs.Limits.{most_rules}
use Rattle.meaning.specs.Lists.{place}
use Rattle.meaning.specs.Filling.{grown}
use Rattle.meaning.proofs.Explore.{place_in}
use Rattle.meaning.proofs.Filling.{place_stays, place_end, grown_place, grown_more}
use Rattle.lookup.specs.Tree.{link_limit}
use Rattle.lookup.proofs.Place.{place_le, place_here}
use Rattle.lookup.proofs.Enrolling.{treed_first}
use Rattle.keys.specs.declared.Keys.{Keys}
use Rattle.keys.specs.declared.Memo.{Memo}
use Rattle.keys.specs.Keys.{kind_room, key_room, kind_of, mask_of, key_of, need_in, keys_of, mask_at, kinds_of, upper_stirred, lower_stirred, hint_room, Hinted, keys_in, Findable, Housed, Filing, Remembers}
use Rattle.keys.proofs.Parts.{kind_low}

-- ---- places in a list that grows
-- What has a place keeps it.
pub place_grown : (x t : ℕ) (l : List ℕ) → place x l < length l → place x (grown l t) ≡ place x l
place_grown x t l h = let (r, e) = grown_more l t in ap (place x) e ∙ place_stays x l r (place_in x l h)

-- What comes in has the place where it was not found.
pub place_new : (t : ℕ) (l : List ℕ) → place t (grown l t) ≡ place t l
place_new t l = grown_place l t

-- What comes in is in the list then.
pub grown_has : (t : ℕ) (l : List ℕ) → place t (grown l t) < length (grown l t)
grown_has t l = go (ltb (place t l) (length l)) refl
  where
    go : (b : Bool) → ltb (place t l) (length l) ≡ b → place t (cond b l (l ++ (t ∷ []))) < length (cond b l (l ++ (t ∷ [])))
    go true e = ltb-true _ _ e
    go false e = omega (arith, place_end t l, place_le t l, length-append l (t ∷ []))

-- The list has as many entries as before, or one more.
pub length_grown : (t : ℕ) (l : List ℕ) → (length l ≤ length (grown l t)) × (length (grown l t) ≤ length l + 1)
length_grown t l = go (ltb (place t l) (length l))
  where
    go : (b : Bool) → (length l ≤ length (cond b l (l ++ (t ∷ [])))) × (length (cond b l (l ++ (t ∷ []))) ≤ length l + 1)
    go true = (omega arith, omega arith)
    go false = (omega (arith, length-append l (t ∷ [])), omega (arith, length-append l (t ∷ [])))

-- Two numbers with one place in a list are the same.
pub place_injective : (x y : ℕ) (l : List ℕ) → place x l < length l → place x l ≡ place y l → x ≡ y
place_injective x y l h e =
    sym (place_here x l h) ∙ ap (λ (i : ℕ). get_or l i 0) e ∙ place_here y l (subst (λ (i : ℕ). i < length l) e h)

-- ---- the slots are filed
-- What holds of the last number, and of each below it, holds of each below the next.
pub up_to : (P : ℕ → Type 0) (c i : ℕ) → P c → (i < c → P i) → i < suc c → P i
up_to P c i last below h = ⊎_elim (λ e. subst P (sym e) last) below (eq-or-lt_of_le (omega arith))

-- Either way the same.
cond_same : (t : Bool) {x y : ℕ} → y ≡ x → cond t x y ≡ x
cond_same true e = refl
cond_same false e = e

module _ (code : List ℕ) where
  -- The key of each slot is among the keys.
  pub home_inside : (c i : ℕ) → i < c → place (key_of (need_in code i)) (keys_of code c) < length (keys_of code c)
  unfolding keys_of
  home_inside zero i h = absurd (omega arith)
  home_inside (suc c) i h =
      let key = key_of (need_in code c) in
      up_to (λ j. place (key_of (need_in code j)) (grown (keys_of code c) key) < length (grown (keys_of code c) key)) c i
      (grown_has key (keys_of code c))
      (λ k. omega (arith, home_inside c i k, place_grown (key_of (need_in code i)) key (keys_of code c) (home_inside c i k), (length_grown key (keys_of code c)).0))
      h

  -- The kind of each slot has its mask.
  pub mask_there : (c i : ℕ) → i < c → mask_at code c (kind_of (need_in code i)) ≡ mask_of (kind_of (need_in code i))
  unfolding mask_at
  mask_there zero i h = absurd (omega arith)
  mask_there (suc c) i h =
      let kind = kind_of (need_in code c) in
      up_to (λ j. mask_at code (suc c) (kind_of (need_in code j)) ≡ mask_of (kind_of (need_in code j))) c i
      (ap (λ (t : Bool). cond t (mask_of kind) (mask_at code c kind)) (eq-eqb kind kind refl))
      (λ k. cond_same (eqb kind (kind_of (need_in code i))) (mask_there c i k))
      h

  -- The kind of each slot is below the number of kinds.
  pub kind_below : (c i : ℕ) → i < c → kind_of (need_in code i) < kinds_of code c
  unfolding kinds_of
  kind_below zero i h = absurd (omega arith)
  kind_below (suc c) i h = up_to (λ j. kind_of (need_in code j) < kinds_of code (suc c)) c i (omega arith) (λ k. omega (arith, kind_below c i k)) h

  -- There are few keys, and few kinds.
  pub keys_few : (c : ℕ) → length (keys_of code c) ≤ c + 1
  unfolding keys_of
  keys_few zero = omega arith
  keys_few (suc c) = omega (arith, keys_few c, (length_grown (key_of (need_in code c)) (keys_of code c)).1)

  pub kinds_few : (c : ℕ) → kinds_of code c ≤ kind_room
  unfolding kinds_of
  kinds_few zero = omega arith
  kinds_few (suc c) = omega (arith, kinds_few c, kind_low (need_in code c))

-- ---- the loop that files them
-- An empty table has zero everywhere.
zero_at : (n k : ℕ) → ◌≡◌ {A = ℕ} (get_or (replicate n 0) k 0) 0
zero_at zero k = refl
zero_at (suc n) zero = refl
zero_at (suc n) (suc k) = zero_at n k

-- The first key has its hint.
first_hint : Hinted (0 ∷ []) (set (replicate hint_room 0) 0 1)
first_hint = record { there = λ i h. there i; low = low; hints_long = length-set {A = ℕ} (replicate hint_room 0) 0 1 ∙ length-replicate {A = ℕ} hint_room 0 }
  where
    there : (i : ℕ) → ◌≡◌ {A = ℕ} (get_or (set (replicate hint_room 0) 0 1) (get_or (0 ∷ []) i 0 % hint_room) 0) 0 → ⊥
    there zero z = omega arith
    there (suc i) z = omega arith

    low : (h : ℕ) → get_or {A = ℕ} (set (replicate hint_room 0) 0 1) h 0 ≤ 1
    low zero = omega arith
    low (suc h) = omega (arith, zero_at hint_room (suc h))

-- Nothing is filed in empty tables.
pub filing_start : (code : List ℕ) {table homes : List ℕ} {k : Keys} → table ≡ replicate key_room 0 → homes ≡ replicate most_rules 0 → k.tree.tests ≡ replicate state_limit 0 → k.tree.forks ≡ replicate link_limit 0
    → k.hints ≡ set (replicate hint_room 0) 0 1 → k.masks ≡ replicate kind_room 0 → k.count ≡ 1 → k.kinds ≡ 0 → Filing code 0 table homes k
unfolding keys_of mask_at kinds_of
filing_start code {table} {homes} {k} e o t f h m n z = record {
  found = record { tree = rw (t, f, e, n) (treed_first (replicate key_room 0) (omega arith)); hinted = rw (e, h, n) first_hint };
  keys_are = rw (e, n) refl;
  count = n;
  homes_are = λ i l. absurd (omega arith);
  masks_are = λ j l. ap (λ (t : List ℕ). get_or t j 0) m ∙ zero_at kind_room j;
  kinds_are = z;
  keys_long = ap length e;
  homes_long = ap length o;
  masks_long = ap length m;
}

module _ {code : List ℕ} {c : ℕ} {table homes : List ℕ} {k : Keys} (f : Filing code c table homes k) where
  -- There is room for a key more.
  pub filing_room : k.count ≤ c + 1
  filing_room = omega (arith, f.count, keys_few code c)

  -- The mask and the number of kinds have no part in finding a key.
  pub filing_found : (kind mask kinds : ℕ) → Findable table (record k { masks = set k.masks kind mask; kinds = kinds })
  filing_found kind mask kinds = record { tree = f.found.tree; hinted = f.found.hinted }

  -- One slot more.
  pub filing_on : {d key kind mask kinds : ℕ} {table' homes' : List ℕ} {k' : Keys} → c < most_rules → d ≡ need_in code c → kind ≡ kind_of d → mask ≡ mask_of kind → kinds ≡ max k.kinds (kind + 1)
      → key ≡ key_of d → Housed key c table homes (record k { masks = set k.masks kind mask; kinds = kinds }) table' homes' k' → Filing code (c + 1) table' homes' k'
  unfolding keys_of mask_at kinds_of
  filing_on {d} {key} {kind} {mask} {kinds} {table'} {homes'} {k'} room p q r s v h =
      subst (λ (i : ℕ). Filing code i table' homes' k') (sym (add-one c)) record {
        found = h.found;
        keys_are = h.keys_are ∙ grown_is;
        count = h.count ∙ ap length grown_is;
        homes_are = λ i l. ap (λ (t : List ℕ). get_or t i 0) h.homes_are ∙ home i l;
        masks_are = λ j l. ap (λ (t : List ℕ). get_or t j 0) h.masks_are ∙ at j l (eqb kind j) refl ∙ mask_suc j;
        kinds_are = h.kinds_are ∙ s ∙ kinds_suc;
        keys_long = h.keys_long ∙ f.keys_long;
        homes_long = ap length h.homes_are ∙ length-set homes c _ ∙ f.homes_long;
        masks_long = ap length h.masks_are ∙ length-set k.masks kind mask ∙ f.masks_long;
      }
    where
      need : ℕ
      need = need_in code c

      kind_is : kind ≡ kind_of need
      kind_is = q ∙ ap kind_of p

      -- The keys, the masks and the number of kinds, with the slot.
      key_is : key ≡ key_of need
      key_is = v ∙ ap key_of p

      grown_is : grown (keys_in table k) key ≡ keys_of code (suc c)
      grown_is = ap₂ grown f.keys_are key_is

      mask_suc : (j : ℕ) → cond (eqb kind j) (mask_of j) (mask_at code c j) ≡ mask_at code (suc c) j
      mask_suc j = ap (λ (x : ℕ). cond (eqb x j) (mask_of j) (mask_at code c j)) kind_is

      kinds_suc : max k.kinds (kind + 1) ≡ kinds_of code (suc c)
      kinds_suc = ap₂ (λ (x y : ℕ). max x y) f.kinds_are (add-one kind ∙ ap suc kind_is)

      -- The mask of each kind.
      at : (j : ℕ) → j < kind_room → (t : Bool) → eqb kind j ≡ t → get_or (set k.masks kind mask) j 0 ≡ cond (eqb kind j) (mask_of j) (mask_at code c j)
      at j l true e =
          let o : kind ≡ j = eqb-true kind j e in
          ap (λ (i : ℕ). get_or (set k.masks kind mask) i 0) (sym o)
          ∙ get_or-set_same k.masks kind mask 0 (omega (arith, f.masks_long, kind_is, kind_low need))
          ∙ r
          ∙ ap mask_of o
          ∙ ap (λ (t : Bool). cond t (mask_of j) (mask_at code c j)) (sym e)
      at j l false e =
          get_or-set_other k.masks kind j mask 0 (λ o. eqb-false kind j e (sym o)) ∙ f.masks_are j l ∙ ap (λ (t : Bool). cond t (mask_of j) (mask_at code c j)) (sym e)

      -- The home of each slot.
      place_is : place key (keys_in table k) ≡ place (key_of need) (keys_of code c)
      place_is = ap₂ place key_is f.keys_are

      home : (i : ℕ) → i < suc c → get_or (set homes c (place key (keys_in table k))) i 0 ≡ place (key_of (need_in code i)) (keys_of code (suc c))
      home i l = up_to (λ j. get_or (set homes c (place key (keys_in table k))) j 0 ≡ place (key_of (need_in code j)) (grown (keys_of code c) (key_of need))) c i
          (get_or-set_same homes c _ 0 (omega (arith, f.homes_long)) ∙ place_is ∙ sym (place_new (key_of need) (keys_of code c)))
          (λ j. get_or-set_other homes c i _ 0 (λ e. omega arith) ∙ f.homes_are i j ∙ sym (place_grown (key_of (need_in code i)) (key_of need) (keys_of code c) (home_inside code c i j)))
          l

-- ---- what is remembered
-- The first key stays the first.
first_place : (code : List ℕ) (c : ℕ) → place 0 (keys_of code c) ≡ 0
unfolding keys_of
first_place code zero = refl
first_place code (suc c) =
    place_grown 0 (key_of (need_in code c)) (keys_of code c) (omega (arith, first_place code c, some c)) ∙ first_place code c
  where
    some : (c : ℕ) → 1 ≤ length (keys_of code c)
    some zero = omega arith
    some (suc c) = omega (arith, some c, (length_grown (key_of (need_in code c)) (keys_of code c)).0)

-- Empty tables remember the first key.
pub memo_start : {code : List ℕ} {c : ℕ} {table homes : List ℕ} {k : Keys} {m : Memo} → Filing code c table homes k → m.asked ≡ replicate kind_room 0 → m.places ≡ replicate kind_room 0 → Remembers (keys_in table k) m
unfolding key_of upper_stirred lower_stirred
memo_start {code} {c} {table} {homes} {k} {m} f a p = record {
  places_are = λ j h.
      ap (λ (l : List ℕ). get_or l j 0) p
      ∙ zero_at kind_room j
      ∙ sym (ap (λ (x : ℕ). place (key_of x) (keys_in table k)) (ap (λ (l : List ℕ). get_or l j 0) a ∙ zero_at kind_room j) ∙ ap (place 0) f.keys_are ∙ first_place code c);
  asked_long = ap length a;
  places_long = ap length p;
}
