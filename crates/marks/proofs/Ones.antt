-- A role with one choice changes neither the joint moves nor which of them agree.
use mathlib.Core.Path.{◌≡◌, refl, sym, ap, ◌∙◌}
use mathlib.Core.Bool.{Bool, true, ◌&&◌, ◌||◌, not, or-true}
use mathlib.Core.List.{List, [], ◌∷◌, ◌++◌}
use Prim.Native.Nat.{ℕ, zero, suc, ◌+◌, ◌-◌, ◌*◌, ◌/◌, ◌%◌, ◌≤◌, ◌<◌}
use native.Mathlib.Nat.{mod-lt, one-mul, add-zero}
use native.Mathlib.Decide.{dec_lt}
use native.Mathlib.Omega.{arith}
use lib.Dec.{eqb}
use lib.ListN.{get_or, length, replicate, length-append, length-replicate, get_or-replicate, get_or-append}
use lib.Seq.{ext_get_or, get_or-append-add}
use borrow.Author.Tests.{eq-eqb}
use Rattle.atl.proofs.Bounded.{every_intro, length_tabulate, get_d_tabulate}
use Rattle.meaning.specs.Radix.{product, digit, alike, counts}
use Rattle.radix.specs.Classes.{row}
use Rattle.radix.proofs.Laws.{pos}

pub product_ones : (ns : List ℕ) (k : ℕ) → product (ns ++ replicate k 1) ≡ product ns
unfolding product
product_ones [] zero = refl
product_ones [] (suc k) = one-mul _ ∙ product_ones [] k
product_ones (n ∷ ns) k = ap (λ (x : ℕ). n * x) (product_ones ns k)

alike_itself : (ns : List ℕ) (C : ℕ → Bool) (j : ℕ) → alike ns C j j ≡ true
unfolding alike
alike_itself ns C j =
    every_intro (length ns) _ (λ r h. ap (λ (x : Bool). not (C r) || x) (eq-eqb (digit ns j r) (digit ns j r) refl) ∙ or-true (not (C r)))

pub alike_ones : (ns : List ℕ) (k : ℕ) (C : ℕ → Bool) (i j : ℕ) → i < product ns → j < product ns → alike (ns ++ replicate k 1) C i j ≡ alike ns C i j
unfolding alike digit product
alike_ones [] k C i j h g =
    let z : i ≡ j = omega arith in
    ap (λ (x : ℕ). alike (replicate k 1) C x j) z ∙ alike_itself (replicate k 1) C j
alike_ones (n ∷ ns) k C i j h g =
    let p : 0 < product ns = pos n (product ns) i h in
    ap (λ (P : ℕ). (not (C 0) || eqb (i / P) (j / P)) && alike (ns ++ replicate k 1) (λ r. C (suc r)) (i % P) (j % P)) (product_ones ns k)
    ∙ ap (λ (x : Bool). (not (C 0) || eqb (i / product ns) (j / product ns)) && x) (alike_ones ns k (λ r. C (suc r)) (i % product ns) (j % product ns) (mod-lt i p) (mod-lt j p))

-- the entries of a row
row_at : (counting : List ℕ) (i r : ℕ) → r < 4 → get_or (row counting i) r 0 ≡ get_or counting (4 * i + r) 0
row_at counting i zero h = ap (λ (x : ℕ). get_or counting x 0) (sym (add-zero (4 * i)))
row_at counting i (suc zero) h = refl
row_at counting i (suc (suc zero)) h = refl
row_at counting i (suc (suc (suc zero))) h = refl
row_at counting i (suc (suc (suc (suc r)))) h = absurd (omega arith)

-- a row of four is the roles' counts, and then ones
pub row_is : (counting : List ℕ) (i m : ℕ) (c : ℕ → List ℕ) → m ≤ 4 → ((r : ℕ) → r < m → get_or counting (4 * i + r) 0 ≡ length (c r))
    → ((r : ℕ) → m ≤ r → r < 4 → get_or counting (4 * i + r) 0 ≡ 1) → row counting i ≡ counts m c ++ replicate (4 - m) 1
row_is counting i m c few are left = ext_get_or 0 (row counting i) (counts m c ++ replicate (4 - m) 1) (sym long) at
  where
    wide : length (counts m c) ≡ m
    wide = length_tabulate m (λ r. length (c r))

    long : length (counts m c ++ replicate (4 - m) 1) ≡ 4
    long = length-append (counts m c) (replicate (4 - m) 1) ∙ (let e = length-replicate {A = ℕ} (4 - m) 1 in omega (arith, wide))

    at : (r : ℕ) → r < 4 → get_or (row counting i) r 0 ≡ get_or (counts m c ++ replicate (4 - m) 1) r 0
    at r h = row_at counting i r h ∙ go (dec_lt r m)
      where
        go : Dec (r < m) → get_or counting (4 * i + r) 0 ≡ get_or (counts m c ++ replicate (4 - m) 1) r 0
        go (yes k) =
            are r k ∙ sym (get_or-append (counts m c) (replicate (4 - m) 1) 0 r (omega (arith, wide)) ∙ get_d_tabulate m (λ r. length (c r)) 0 r k)
        go (no k) =
            let z : r ≡ length (counts m c) + (r - m) = omega (arith, wide) in
            left r (omega arith) h
            ∙ sym (ap (λ (x : ℕ). get_or (counts m c ++ replicate (4 - m) 1) x 0) z
            ∙ get_or-append-add (counts m c) (replicate (4 - m) 1) (r - m) 0 ∙ get_or-replicate (4 - m) (r - m) 1 0 (omega arith))
