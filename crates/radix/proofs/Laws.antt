-- Joint moves agree on the coalition's roles exactly where they have the same class.
use mathlib.Core.Path.{◌≡◌, refl, sym, ap, ap₂, ◌∙◌}
use mathlib.Core.Bool.{Bool, true, false, ◌||◌, not, cond}
use mathlib.Core.List.{List, [], ◌∷◌}
use mathlib.Core.Logic.{◌⊎◌, inl, inr}
use Prim.Native.Nat.{ℕ, suc, ◌+◌, ◌*◌, ◌/◌, ◌%◌, ◌≤◌, ◌<◌, zero-le}
use native.Mathlib.Nat.{mul-zero, eq-zero-or-pos, mod-lt, div-add-mod', mul-le-mul, le_refl, mul-add-div_right, mul-add-mod_self_right, div-eq_of_lt, mod-eq_of_lt}
use native.Mathlib.Omega.{arith}
use lib.Dec.{eqb}
use borrow.Author.Tests.{eq-eqb, eqb-true}
use Rattle.facts.specs.Truth.{same_test, and_left, and_right, and_both, or_cases}
use Rattle.meaning.specs.Radix.{product, digit, alike}
use Rattle.radix.specs.Classes.{rep}

-- a product that something stands below
pub pos : (n t j : ℕ) → j < n * t → 0 < t
pos n t j h = go (eq-zero-or-pos t)
  where
    go : (t ≡ 0) ⊎ (0 < t) → 0 < t
    go (inl z) = absurd (omega (arith, rw (z, mul-zero) at h))
    go (inr k) = k

pub kept : (b : Bool) (q : ℕ) → cond b q 0 ≤ q
kept true q = le_refl q
kept false q = zero-le

-- the representative is no higher
pub rep_le : (ns : List ℕ) (C : ℕ → Bool) (j : ℕ) → rep ns C j ≤ j
unfolding rep
rep_le [] C j = zero-le
rep_le (n ∷ ns) C j =
    let p = mul-le-mul (kept (C 0) (j / product ns)) (le_refl (product ns)) in
    let q = rep_le ns (λ r. C (suc r)) (j % product ns) in
    omega (arith, div-add-mod' j (product ns))

pub rep_lt : (ns : List ℕ) (C : ℕ → Bool) (j : ℕ) → j < product ns → rep ns C j < product ns
rep_lt ns C j h = let l = rep_le ns C j in omega arith

-- a number is taken apart in one way
module _ (t a x : ℕ) (h : x < t) where
  pub high : (a * t + x) / t ≡ a
  high = let e = div-eq_of_lt h in mul-add-div_right {m = t} (omega arith) a x ∙ omega arith

  pub low : (a * t + x) % t ≡ x
  low = mul-add-mod_self_right a t x ∙ mod-eq_of_lt h

-- joint moves that are alike have the same representative, and the other way round
pub alike_rep : (ns : List ℕ) (C : ℕ → Bool) (j k : ℕ) → alike ns C j k ≡ true → rep ns C j ≡ rep ns C k
unfolding alike rep digit
alike_rep [] C j k e = refl
alike_rep (n ∷ ns) C j k e =
    ap₂ (λ (x y : ℕ). x * product ns + y) (go (C 0) refl)
    (alike_rep ns (λ r. C (suc r)) (j % product ns) (k % product ns) (and_right (not (C 0) || eqb (j / product ns) (k / product ns)) _ e))
  where
    go : (b : Bool) → C 0 ≡ b → cond b (j / product ns) 0 ≡ cond b (k / product ns) 0
    go true q = eqb-true _ _ (or_cases (not (C 0)) _ (and_left (not (C 0) || eqb (j / product ns) (k / product ns)) _ e) (ap not q))
    go false q = refl

pub rep_alike : (ns : List ℕ) (C : ℕ → Bool) (j k : ℕ) → j < product ns → k < product ns → rep ns C j ≡ rep ns C k → alike ns C j k ≡ true
unfolding alike rep digit product
rep_alike [] C j k h l e = refl
rep_alike (n ∷ ns) C j k h l e =
    and_both (go (C 0) highs) (rep_alike ns (λ r. C (suc r)) (j % t) (k % t) m o lows)
  where
    t : ℕ
    t = product ns

    p : 0 < product ns
    p = pos n (product ns) j h

    m : j % product ns < product ns
    m = mod-lt j p

    o : k % product ns < product ns
    o = mod-lt k p

    highs : cond (C 0) (j / product ns) 0 ≡ cond (C 0) (k / product ns) 0
    highs =
        sym (high (product ns) (cond (C 0) (j / product ns) 0) _ (rep_lt ns (λ r. C (suc r)) (j % product ns) m))
        ∙ ap (λ x. x / product ns) e ∙ high (product ns) (cond (C 0) (k / product ns) 0) _ (rep_lt ns (λ r. C (suc r)) (k % product ns) o)

    lows : rep ns (λ r. C (suc r)) (j % product ns) ≡ rep ns (λ r. C (suc r)) (k % product ns)
    lows =
        sym (low (product ns) (cond (C 0) (j / product ns) 0) _ (rep_lt ns (λ r. C (suc r)) (j % product ns) m))
        ∙ ap (λ x. x % product ns) e ∙ low (product ns) (cond (C 0) (k / product ns) 0) _ (rep_lt ns (λ r. C (suc r)) (k % product ns) o)

    go : (b : Bool) → cond b (j / product ns) 0 ≡ cond b (k / product ns) 0 → not b || eqb (j / product ns) (k / product ns) ≡ true
    go true q = eq-eqb _ _ q
    go false q = refl

-- so one comparison tells
pub alike_eqb : (ns : List ℕ) (C : ℕ → Bool) (j k : ℕ) → j < product ns → k < product ns → alike ns C j k ≡ eqb (rep ns C j) (rep ns C k)
alike_eqb ns C j k h l =
    same_test _ _ (λ e. eq-eqb _ _ (alike_rep ns C j k e)) (λ e. rep_alike ns C j k h l (eqb-true _ _ e))
