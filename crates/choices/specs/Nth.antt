-- The laws of a search for the k-th member of a set.
use Rattle.std.specs.Prelude.{◌≡◌, refl, Bool, true, false, List, [], ℕ, suc, ◌+◌, ◌-◌, ◌≤◌, ◌<◌, Some, slice_get}
use Rattle.std.proofs.Common.{ap, ◌∙◌, arith}
use Rattle.facts.specs.Bits.{has}
use Rattle.choices.specs.Moves.{cons_if, members_from, members}

-- what is left of the set n from i on
abbrev pub rest : ℕ → ℕ → List ℕ
rest n i = members_from (16 - i) i n

pub rest_all : (n : ℕ) → members n ≡ rest n 0
unfolding members
rest_all n = refl

pub rest_none : (n i : ℕ) → 16 ≤ i → rest n i ≡ []
unfolding members_from
rest_none n i h = let e : 16 - i ≡ 0 = omega arith in ap (λ (d : ℕ). members_from d i n) e

pub rest_step : (n i : ℕ) → i < 16 → rest n i ≡ cons_if (has n i) i (rest n (i + 1))
unfolding members_from
rest_step n i h = let e : 16 - i ≡ suc (16 - (i + 1)) = omega arith in ap (λ (d : ℕ). members_from d i n) e

module _ (n i : ℕ) (h : i < 16) where
  stepped : (b : Bool) (k : ℕ) → has n i ≡ b → slice_get (rest n i) k ≡ slice_get (cons_if b i (rest n (i + 1))) k
  stepped b k e = ap (λ (l : List ℕ). slice_get l k) (rest_step n i h ∙ ap (λ (x : Bool). cons_if x i (rest n (i + 1))) e)

  pub here : (k : ℕ) → has n i ≡ true → k ≡ 0 → slice_get (rest n i) k ≡ Some i
  here k e z = ap (slice_get (rest n i)) z ∙ stepped true 0 e

  pub pass : (k : ℕ) → has n i ≡ true → (k ≡ 0 → ⊥) → slice_get (rest n i) k ≡ slice_get (rest n (i + 1)) (k - 1)
  pass k e z = let q : k ≡ suc (k - 1) = omega arith in ap (slice_get (rest n i)) q ∙ stepped true (suc (k - 1)) e

  pub skip : (k : ℕ) → has n i ≡ false → slice_get (rest n i) k ≡ slice_get (rest n (i + 1)) k
  skip k e = stepped false k e
