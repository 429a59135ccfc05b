-- The lowest fact in which two numbers differ: the zeros below the lowest digit of their exclusive or.
use Prim.Native.Nat.{ℕ, zero, suc, ◌/◌, ◌%◌, ◌^◌, ◌≤◌, ◌<◌}
use mathlib.Core.Path.{◌≡◌, refl, sym, ap, ◌∙◌}
use native.Mathlib.Nat.{le_of_suc-le-suc}
use native.Mathlib.Omega.{arith}
use lib.Bits.{differ, bit_xor}
use lib.Count.{under, count_trailing_zeros, trailing_le}
use Rattle.facts.specs.Bits.{bit}
use Rattle.facts.specs.Laws.{bit_zero, bit_suc, bit-xor, ext}
use Rattle.lookup.specs.Tree.{fact_limit, FirstDifference}

-- two digits differ by 0 exactly where they are the same
differ_same : (a b : ℕ) → differ a b ≡ 0 → a ≡ b
differ_same zero b e = sym e
differ_same (suc a) zero e = e
differ_same (suc a) (suc b) e = ap suc (differ_same a b e)

same_differ : (a : ℕ) → differ a a ≡ 0
same_differ zero = refl
same_differ (suc a) = same_differ a

-- the zeros of a word are few
pub trailing_small : (n : ℕ) → count_trailing_zeros fact_limit n < 2 ^ 8
trailing_small n = omega (arith, trailing_le fact_limit n)

-- below that many zeros no digit is set
zeros_below : (k n f : ℕ) → f < count_trailing_zeros k n → bit n f ≡ 0
unfolding count_trailing_zeros
zeros_below zero n f h = absurd (omega arith)
zeros_below (suc k) n f h = go (n % 2) refl f h (zeros_below k (n / 2))
  where
    go : (b : ℕ) → n % 2 ≡ b → (f : ℕ) → f < under b (count_trailing_zeros k (n / 2)) → ((f : ℕ) → f < count_trailing_zeros k (n / 2) → bit (n / 2) f ≡ 0) → bit n f ≡ 0
    go zero e zero h rec = bit_zero n ∙ e
    go zero e (suc f) h rec = bit_suc n f ∙ rec f (le_of_suc-le-suc h)
    go (suc b) e f h rec = absurd (omega arith)

-- and the digit behind them is
set_behind : (k n : ℕ) → count_trailing_zeros k n < k → bit n (count_trailing_zeros k n) ≡ 1
unfolding count_trailing_zeros
set_behind zero n h = absurd (omega arith)
set_behind (suc k) n h = go (n % 2) refl h (set_behind k (n / 2))
  where
    go : (b : ℕ) → n % 2 ≡ b → under b (count_trailing_zeros k (n / 2)) < suc k → (count_trailing_zeros k (n / 2) < k → bit (n / 2) (count_trailing_zeros k (n / 2)) ≡ 1)
        → bit n (under b (count_trailing_zeros k (n / 2))) ≡ 1
    go zero e h rec = bit_suc n (count_trailing_zeros k (n / 2)) ∙ rec (le_of_suc-le-suc h)
    go (suc b) e h rec = bit_zero n ∙ omega arith

-- so it is the lowest difference
pub first_difference : (a b : ℕ) → a < 2 ^ fact_limit → b < 2 ^ fact_limit → (a ≡ b → ⊥) → FirstDifference a b (count_trailing_zeros fact_limit (bit_xor a b))
first_difference a b p q other =
    let t = count_trailing_zeros fact_limit (bit_xor a b) in
    let agree : (f : ℕ) → f < count_trailing_zeros fact_limit (bit_xor a b) → bit a f ≡ bit b f =
    λ f h. differ_same (bit a f) (bit b f) (sym (bit-xor a b f) ∙ zeros_below fact_limit (bit_xor a b) f h) in
    let late : fact_limit ≤ count_trailing_zeros fact_limit (bit_xor a b) → ⊥ = λ h. other (ext fact_limit a b p q (λ f k. agree f (omega arith))) in
    let inside : count_trailing_zeros fact_limit (bit_xor a b) < fact_limit = omega arith in
    record {
      within = inside;
      differ = λ e.
          let zeros : bit (bit_xor a b) t ≡ 0 = bit-xor a b t ∙ ap (differ (bit a t)) (sym e) ∙ same_differ (bit a t) in
          omega (arith, set_behind fact_limit (bit_xor a b) inside);
      same = agree;
    }
