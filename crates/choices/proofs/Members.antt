-- The members of a set, as a list: they are those that it has, ascending; and such a list is the only one.
use Prim.Native.Nat.{ℕ, zero, suc, ◌+◌, ◌≤◌, ◌<◌}
use mathlib.Core.Path.{◌≡◌, refl, sym, ap, ap₂, ◌∙◌, subst}
use mathlib.Core.Bool.{Bool, true, false, false≢true}
use mathlib.Core.Logic.{◌↔◌, ◌⊎◌, inl, inr}
use mathlib.Core.List.{List, [], ◌∷◌}
use native.Mathlib.Nat.{eq-or-lt_of_le}
use native.Mathlib.Omega.{arith}
use Rattle.facts.specs.Bits.{has}
use Rattle.meaning.specs.Lists.{◌∈◌}
use Rattle.meaning.proofs.Firsts.{Distinct}
use Rattle.choices.specs.Ascending.{Ascending}
use Rattle.choices.specs.Moves.{cons_if, members_from, members}

module _ (n : ℕ) where
  from_in : (d i x : ℕ) → x ∈ members_from d i n → (i ≤ x) × (x < i + d) × (has n x ≡ true)
  unfolding members_from
  from_in zero i x h = absurd h
  from_in (suc d) i x h = go (has n i) refl (from_in d (i + 1) x) h
    where
      go : (t : Bool) → has n i ≡ t → (x ∈ members_from d (i + 1) n → (i + 1 ≤ x) × (x < i + 1 + d) × (has n x ≡ true))
          → x ∈ cons_if t i (members_from d (i + 1) n) → (i ≤ x) × (x < i + suc d) × (has n x ≡ true)
      go true e ih (inl q) = (omega arith, omega arith, subst (λ (k : ℕ). has n k ≡ true) (sym q) e)
      go true e ih (inr m) = let (a, b, c) = ih m in (omega arith, omega arith, c)
      go false e ih m = let (a, b, c) = ih m in (omega arith, omega arith, c)

  in_from : (d i x : ℕ) → i ≤ x → x < i + d → has n x ≡ true → x ∈ members_from d i n
  unfolding members_from
  in_from zero i x a b h = absurd (omega arith)
  in_from (suc d) i x a b h = go (has n i) refl (eq-or-lt_of_le a) (in_from d (i + 1) x)
    where
      go : (t : Bool) → has n i ≡ t → (i ≡ x) ⊎ (i < x) → (i + 1 ≤ x → x < i + 1 + d → has n x ≡ true → x ∈ members_from d (i + 1) n)
          → x ∈ cons_if t i (members_from d (i + 1) n)
      go true e (inl q) ih = inl (sym q)
      go true e (inr k) ih = inr (ih (omega arith) (omega arith) h)
      go false e (inl q) ih = absurd (false≢true (sym e ∙ ap (has n) q ∙ h))
      go false e (inr k) ih = ih (omega arith) (omega arith) h

  from_ascending : (d i : ℕ) → Ascending (members_from d i n)
  unfolding members_from
  from_ascending zero i = tt
  from_ascending (suc d) i = go (has n i) (from_ascending d (i + 1))
    where
      go : (t : Bool) → Ascending (members_from d (i + 1) n) → Ascending (cons_if t i (members_from d (i + 1) n))
      go true ih = (λ y m. let (a, b, c) = from_in d (i + 1) y m in omega arith, ih)
      go false ih = ih

  pub member_is : (x : ℕ) → (x ∈ members n) ↔ ((x < 16) × (has n x ≡ true))
  unfolding members
  member_is x = (λ h. let (a, b, c) = from_in 16 0 x h in (b, c), λ h. in_from 16 0 x (omega arith) h.0 h.1)

  pub members_ascending : Ascending (members n)
  unfolding members
  members_ascending = from_ascending 16 0

-- Two ascending lists with the same members are one list.
pub ascending_unique : (k l : List ℕ) → Ascending k → Ascending l → ((x : ℕ) → (x ∈ k) ↔ (x ∈ l)) → k ≡ l
ascending_unique [] [] a b same = refl
ascending_unique [] (y ∷ l) a b same = absurd ((same y).1 (inl refl))
ascending_unique (x ∷ k) [] a b same = absurd ((same x).0 (inl refl))
ascending_unique (x ∷ k) (y ∷ l) a b same = ap₂ ◌∷◌ first (ascending_unique k l a.1 b.1 rest)
  where
    first : x ≡ y
    first = go ((same x).0 (inl refl)) ((same y).1 (inl refl))
      where
        go : (x ≡ y) ⊎ (x ∈ l) → (y ≡ x) ⊎ (y ∈ k) → x ≡ y
        go (inl e) q = e
        go (inr m) (inl e) = sym e
        go (inr m) (inr q) = absurd (omega (arith, a.0 y q, b.0 x m))

    rest : (z : ℕ) → (z ∈ k) ↔ (z ∈ l)
    rest z = (λ m. there m ((same z).0 (inr m)), λ m. back m ((same z).1 (inr m)))
      where
        there : z ∈ k → (z ≡ y) ⊎ (z ∈ l) → z ∈ l
        there m (inl e) = absurd (omega (arith, a.0 z m, first))
        there m (inr q) = q

        back : z ∈ l → (z ≡ x) ⊎ (z ∈ k) → z ∈ k
        back m (inl e) = absurd (omega (arith, b.0 z m, first))
        back m (inr q) = q

-- No number stands twice in an ascending list.
pub ascending_distinct : (l : List ℕ) → Ascending l → Distinct l
ascending_distinct [] a = tt
ascending_distinct (x ∷ l) a = (λ m. absurd (omega (arith, a.0 x m)), ascending_distinct l a.1)
