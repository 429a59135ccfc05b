-- A number in decimal can be read back: no two numbers have the same text.
use Prim.Native.Nat.{ℕ, zero, suc, ◌+◌, ◌*◌, ◌-◌, ◌/◌, ◌%◌, ◌^◌, ◌<◌}
use mathlib.Core.Path.{◌≡◌, refl, sym, ap, ◌∙◌}
use mathlib.Core.Bool.{Bool, true, false, cond}
use mathlib.Core.List.{List, [], ◌∷◌, ◌++◌}
use native.Mathlib.Nat.{pow-suc}
use native.Mathlib.Omega.{arith}
use lib.Dec.{ltb}
use Rattle.listing.specs.Text.{digit, figures, decimal}
use Rattle.listing.proofs.Digits.{below_ten}

-- What a text of digits says, read from its first byte on behind the number v.
unfoldable pub value : ℕ → List ℕ → ℕ
value v [] = v
value v (d ∷ s) = value (10 * v + (d - digit 0)) s

value_last : (v : ℕ) (s : List ℕ) (d : ℕ) → value v (s ++ (d ∷ [])) ≡ 10 * value v s + (d - digit 0)
unfolding value
value_last v [] d = refl
value_last v (c ∷ s) d = value_last (10 * v + (c - digit 0)) s d

value_figures : (f n : ℕ) → n < 10 ^ f → value 0 (figures f n) ≡ n
unfolding value figures
value_figures zero n h = omega arith
value_figures (suc f) n h = go (ltb n 10) refl (value_figures f (n / 10) (omega (arith, pow-suc 10 f)))
  where
    go : (b : Bool) → ltb n 10 ≡ b → value 0 (figures f (n / 10)) ≡ n / 10
        → value 0 (cond b (digit n ∷ []) (figures f (n / 10) ++ (digit (n % 10) ∷ []))) ≡ n
    go true e ih = omega arith
    go false e ih = value_last 0 (figures f (n / 10)) (digit (n % 10)) ∙ omega (arith, ih)

pub value_decimal : (n : ℕ) → value 0 (decimal n) ≡ n
unfolding decimal
value_decimal n = value_figures (suc n) n (omega (arith, below_ten (suc n)))

pub decimal_injective : (m n : ℕ) → decimal m ≡ decimal n → m ≡ n
decimal_injective m n e = sym (value_decimal m) ∙ ap (value 0) e ∙ value_decimal n
