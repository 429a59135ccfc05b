-- Where a set has 0 and all up to k, its k-th member is k.
use Prim.Native.Nat.{ℕ, zero, suc, ◌+◌, ◌-◌, ◌*◌, ◌/◌, ◌%◌, ◌^◌, ◌≤◌, ◌<◌}
use mathlib.Core.Path.{◌≡◌, refl, sym, ap, ◌∙◌, subst}
use mathlib.Core.Bool.{true}
use mathlib.Core.List.{List}
use native.Mathlib.Nat.{pow-suc, mul_assoc, div-add-mod'}
use native.Mathlib.Omega.{arith}
use lib.Dec.{eqb}
use Rattle.std.specs.Prelude.{Some, slice_get}
use lib.Pow.{pow_pos}
use borrow.Author.Tests.{eqb-true, eq-eqb, ne_eqb}
use Rattle.facts.specs.Bits.{bit, has}
use Rattle.facts.specs.Laws.{bit_zero, bit_suc, one_shifted}
use Rattle.choices.specs.Moves.{members, full}
use Rattle.choices.specs.Nth.{rest, rest_all, rest_none, here, pass, skip}

-- What the code computes.
pub full_is : (n k : ℕ) → k < 16 → eqb ((n + 1) % (1 * 2 ^ (k + 1) % 2 ^ 32)) 0 ≡ full n k
unfolding full
full_is n k h = ap (λ (d : ℕ). eqb ((n + 1) % d) 0) (one_shifted 32 (k + 1) (omega arith))

-- Twice as much.
twice : (q j : ℕ) → q * 2 ^ suc j ≡ q * 2 ^ j * 2
twice q j = ap (λ (p : ℕ). q * p) (pow-suc 2 j) ∙ sym (mul_assoc q (2 ^ j) 2)

-- The divisor is not 0.
pub divisor_pos : (k : ℕ) → k < 16 → 0 < 1 * 2 ^ (k + 1) % 2 ^ 32
divisor_pos k h = subst (λ (d : ℕ). 0 < d) (sym (one_shifted 32 (k + 1) (omega arith))) (pow_pos (k + 1))

-- All bits below j are set where the next number is a multiple of 2 ^ j.
ones_below : (i j n q : ℕ) → n + 1 ≡ q * 2 ^ j → i < j → bit n i ≡ 1
ones_below i zero n q e h = absurd (omega arith)
ones_below zero (suc j) n q e h = bit_zero n ∙ omega (arith, twice q j)
ones_below (suc i) (suc j) n q e h = bit_suc n i ∙ ones_below i j (n / 2) q (omega (arith, twice q j)) (omega arith)

module _ (n k : ℕ) (small : k < 16) (h : full n k ≡ true) where
  has_all : (i : ℕ) → i ≤ k → has n i ≡ true
  unfolding full
  has_all i g =
      eq-eqb (bit n i) 1
      (ones_below i (k + 1) n ((n + 1) / 2 ^ (k + 1)) (omega (arith, div-add-mod' (n + 1) (2 ^ (k + 1)), eqb-true ((n + 1) % 2 ^ (k + 1)) 0 h)) (omega arith))

  -- From place i on, d members before k.
  from : (d i : ℕ) → i + d ≡ k → slice_get (rest n i) d ≡ Some k
  from zero i e = here n i (omega arith) 0 (has_all i (omega arith)) refl ∙ ap Some (omega arith)
  from (suc d) i e =
      let less : suc d - 1 ≡ d = omega arith in
      pass n i (omega arith) (suc d) (has_all i (omega arith)) (λ z. absurd (omega arith)) ∙ ap (slice_get (rest n (i + 1))) less ∙ from d (i + 1) (omega arith)

  pub full_nth : Some k ≡ slice_get (members n) k
  full_nth = sym (ap (λ (l : List ℕ). slice_get l k) (rest_all n) ∙ from k 0 (omega arith))

-- what a search for the k-th member goes by
pub ruleset walk = (full_nth, rest_all, rest_none, here, pass, skip, eq-eqb, ne_eqb)
