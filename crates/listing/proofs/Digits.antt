-- A number in decimal: `io::decimal` writes the same digits, and how many there are.
use Prim.Native.Nat.{ℕ, zero, suc, ◌+◌, ◌-◌, ◌/◌, ◌%◌, ◌^◌, ◌≤◌, ◌<◌}
use mathlib.Core.Bool.{Bool, true, false, cond}
use mathlib.Core.Path.{◌≡◌, sym, ap, ◌∙◌, subst}
use mathlib.Core.List.{List, [], ◌∷◌, ◌++◌}
use native.Mathlib.Nat.{pow-suc, one-le-pow, zero-lt-suc}
use native.Mathlib.Omega.{arith}
use lib.Dec.{ltb}
use lib.ListN.{length, take, length-append}
use borrow.Author.Tests.{lt-ltb, le-ltb}
use Rattle.io.specs.Digits.{last_digits, hex_digit_ascii, IsDigitCount}
use Rattle.listing.specs.Text.{figures, decimal}

glyph_ten : (d : ℕ) → d < 10 → hex_digit_ascii d ≡ 48 + d
glyph_ten d h = rw (lt-ltb d 10 h)

-- any fuel from the number of digits on
figures_are : (f k n : ℕ) → k ≤ f → IsDigitCount 10 1 n k → figures f n ≡ last_digits 10 k n
unfolding figures
figures_are f zero n h q = absurd (omega (arith, q.0))
figures_are zero (suc k) n h q = absurd (omega arith)
figures_are (suc f) (suc zero) n h q =
    let low : n < 10 = q.1 in
    let same : n % 10 ≡ n = omega arith in
    rw (lt-ltb n 10 low, same, lt-ltb n 10 low)
figures_are (suc f) (suc (suc k)) n h q =
    let p = pow-suc 10 k in
    let r = pow-suc 10 (suc k) in
    let one : 0 < 10 ^ k = one-le-pow k 10 (zero-lt-suc 9) in
    let e : suc (suc k) - 1 ≡ suc k = omega arith in
    let least : 10 ^ suc k ≤ n = subst (λ (x : ℕ). 10 ^ x ≤ n) e (q.2 (omega arith)) in
    let many : 10 ≤ n = omega arith in
    let most : n < 10 ^ suc (suc k) = q.1 in
    let d : suc k - 1 ≡ k = omega arith in
    let fewer : 10 ^ k ≤ n / 10 = omega arith in
    let low : n % 10 < 10 = omega arith in
    let i = figures_are f (suc k) (n / 10) (omega arith) (omega arith, omega arith, λ m. subst (λ (x : ℕ). 10 ^ x ≤ n / 10) (sym d) fewer) in
    rw (le-ltb n 10 many)
    (ap (λ (l : List ℕ). l ++ ((48 + n % 10) ∷ [])) i ∙ ap (λ (g : ℕ). last_digits 10 (suc k) (n / 10) ++ (g ∷ [])) (sym (glyph_ten (n % 10) low)))

pub below_ten : (k : ℕ) → k < 10 ^ k
below_ten zero = omega arith
below_ten (suc k) = omega (arith, below_ten k, pow-suc 10 k)

pub decimal_is : (k n : ℕ) → IsDigitCount 10 1 n k → decimal n ≡ last_digits 10 k n
unfolding decimal
decimal_is zero n q = absurd (omega (arith, q.0))
decimal_is (suc zero) n q = figures_are (suc n) 1 n (omega arith) q
decimal_is (suc (suc k)) n q =
    let e : suc (suc k) - 1 ≡ suc k = omega arith in
    let least : 10 ^ suc k ≤ n = subst (λ (x : ℕ). 10 ^ x ≤ n) e (q.2 (omega arith)) in
    figures_are (suc n) (suc (suc k)) n (omega (arith, below_ten (suc k))) q

-- a number below 10 ^ k has at most k digits
figures_few : (f k n : ℕ) → 0 < k → n < 10 ^ k → length (figures f n) ≤ k
unfolding figures
figures_few zero k n h g = omega arith
figures_few (suc f) zero n h g = omega arith
figures_few (suc f) (suc zero) n h g = rw (lt-ltb n 10 g) (omega arith)
figures_few (suc f) (suc (suc k)) n h g = pick (ltb n 10) (figures_few f (suc k) (n / 10) (omega arith) (omega (arith, pow-suc 10 (suc k))))
  where
    pick : (b : Bool) → length (figures f (n / 10)) ≤ suc k → length (cond b ((48 + n) ∷ []) (figures f (n / 10) ++ ((48 + n % 10) ∷ []))) ≤ suc (suc k)
    pick true rest = omega arith
    pick false rest = rw length-append (omega arith)

pub decimal_few : (k n : ℕ) → 0 < k → n < 10 ^ k → length (decimal n) ≤ k
unfolding decimal
decimal_few k n h g = figures_few (suc n) k n h g

-- what `io::decimal` ensures of the first k bytes
pub text_is : (k n : ℕ) (o : List ℕ) → IsDigitCount 10 1 n k → take k o ≡ last_digits 10 k n → take k o ≡ decimal n
text_is k n o q e = e ∙ sym (decimal_is k n q)
