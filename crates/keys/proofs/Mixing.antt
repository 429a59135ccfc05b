-- The laws of keys: no two sets of moves have the same key.
use Prim.Native.Nat.{ℕ, ◌*◌, ◌/◌, ◌%◌, ◌^◌}
use mathlib.Core.Path.{◌≡◌, refl, sym, ap, ◌∙◌}
use mathlib.Core.Logic.{◌⊎◌, inl, inr}
use native.Mathlib.Omega.{arith}
use lib.Bits.{bit_xor, differ, xor_shr, xor_mod, xor_zero_r}
use Rattle.facts.specs.Bits.{bit}
use Rattle.facts.specs.Laws.{bit-xor, bit_cases}
use Rattle.facts.specs.Sets.{same_set}
use Rattle.keys.specs.Keys.{low_factor, high_factor, upper_stirred, lower_stirred, key_of}

-- The same digits changed twice are as before.
xor_twice : (x g : ℕ) → bit_xor (bit_xor x g) g ≡ x
xor_twice x g = same_set (bit_xor (bit_xor x g) g) x (λ i. bit-xor (bit_xor x g) g i ∙ ap (λ (b : ℕ). differ b (bit g i)) (bit-xor x g i) ∙ go i (bit_cases x i) (bit_cases g i))
  where
    go : (i : ℕ) → (bit x i ≡ 0) ⊎ (bit x i ≡ 1) → (bit g i ≡ 0) ⊎ (bit g i ≡ 1) → differ (differ (bit x i) (bit g i)) (bit g i) ≡ bit x i
    go i (inl p) (inl q) = rw (p, q) refl
    go i (inl p) (inr q) = rw (p, q) refl
    go i (inr p) (inl q) = rw (p, q) refl
    go i (inr p) (inr q) = rw (p, q) refl

-- A round that changes digits by a part of the number, and leaves that part alone, takes different numbers to different numbers.
round_injective : (part change : ℕ → ℕ) → ((x : ℕ) → part (bit_xor x (change (part x))) ≡ part x)
    → (x y : ℕ) → bit_xor x (change (part x)) ≡ bit_xor y (change (part y)) → x ≡ y
round_injective part change same x y e =
    let parts : part x ≡ part y = sym (same x) ∙ ap part e ∙ same y in
    sym (xor_twice x (change (part x)))
    ∙ ap (λ (z : ℕ). bit_xor z (change (part x))) e
    ∙ ap (λ (q : ℕ). bit_xor (bit_xor y (change (part y))) (change q)) parts
    ∙ xor_twice y (change (part y))

-- The round that stirs the upper half leaves the lower one alone.
upper_injective : (x y : ℕ) → upper_stirred x ≡ upper_stirred y → x ≡ y
unfolding upper_stirred
upper_injective = round_injective (λ x. x % 2 ^ 32) change
    (λ x. xor_mod x (change (x % 2 ^ 32)) 32 ∙ ap (bit_xor (x % 2 ^ 32)) (none (x % 2 ^ 32 * low_factor)) ∙ xor_zero_r (x % 2 ^ 32))
  where
    change : ℕ → ℕ
    change q = q * low_factor * 2 ^ 32 % 2 ^ 64

    none : (n : ℕ) → n * 2 ^ 32 % 2 ^ 64 % 2 ^ 32 ≡ 0
    none n = omega arith

-- The round that stirs the lower half leaves the upper one alone.
lower_injective : (x y : ℕ) → lower_stirred x ≡ lower_stirred y → x ≡ y
unfolding lower_stirred
lower_injective = round_injective (λ x. x / 2 ^ 32) change
    (λ x. xor_shr x (change (x / 2 ^ 32)) 32 ∙ ap (bit_xor (x / 2 ^ 32)) (none (x / 2 ^ 32 * high_factor / 2 ^ 32)) ∙ xor_zero_r (x / 2 ^ 32))
  where
    change : ℕ → ℕ
    change q = q * high_factor / 2 ^ 32 % 2 ^ 32

    none : (n : ℕ) → n % 2 ^ 32 / 2 ^ 32 ≡ 0
    none n = omega arith

-- Different sets of moves have different keys.
pub key_injective : (a b : ℕ) → key_of a ≡ key_of b → a ≡ b
unfolding key_of
key_injective a b e = upper_injective a b (lower_injective (upper_stirred a) (upper_stirred b) e)
