-- A table that holds a list: its length, its list, one entry more.
use Prim.Native.Nat.{ℕ, ◌+◌, ◌<◌}
use mathlib.Core.Path.{◌≡◌, sym, ap, ◌∙◌, subst}
use mathlib.Core.List.{List, [], ◌∷◌, ◌++◌, append_assoc}
use native.Mathlib.Numerals.{add-one}
use native.Mathlib.Omega.{arith}
use lib.ListN.{length, get_or, take, set, length-append}
use lib.Seq.{take-suc}
use Rattle.atl.specs.Bounded.{tabulate}
use Rattle.atl.proofs.Bounded.{length_tabulate, get_d_tabulate}
use Rattle.tables.proofs.Pad.{length_pad, take_pad, get_or_pad, set_pad}
use Rattle.model.specs.Tables.{Holds, Clean}

module _ {size : ℕ} {table : List ℕ} {n : ℕ} {l : List ℕ} (h : Holds size table n l) where
  pub holds_length : length table ≡ size
  holds_length = ap length h.is ∙ length_pad size l (omega (arith, h.count, h.room))

  pub holds_take : take n table ≡ l
  holds_take = rw (h.is, h.count) (take_pad size l)

  pub holds_clean : Clean size table n
  holds_clean = subst (λ (k : List ℕ). Holds size table n k) (sym holds_take) h

  pub holds_entry : (i : ℕ) → get_or table i 0 ≡ get_or l i 0
  holds_entry i = ap (λ (t : List ℕ). get_or t i 0) h.is ∙ get_or_pad size l i

  -- a store behind the list
  pub holds_more : (x : ℕ) → n < size → Holds size (set table n x) (n + 1) (l ++ (x ∷ []))
  holds_more x r = record {
    is = rw (h.is, h.count) (set_pad size l x (omega (arith, h.count)));
    count = rw length-append (omega (arith, h.count));
    room = omega arith;
  }

  -- the number of entries, written in another way
  pub holds_counted : {q : ℕ} → q ≡ n → Holds size table q l
  holds_counted e = subst (λ (k : ℕ). Holds size table k l) (sym e) h

-- a row of m entries is stored behind l, of which the first r are there: one more
pub row_more : {size : ℕ} (m : ℕ) (f : ℕ → ℕ) {table : List ℕ} {n : ℕ} (l : List ℕ) {r : ℕ} → Holds size table n (l ++ take r (tabulate m f)) → {q x : ℕ} → r < m → x ≡ f r → n < size → q ≡ n + 1
    → Holds size (set table n x) q (l ++ take (r + 1) (tabulate m f))
row_more {size} m f {table} {n} l {r} h {q} {x} b e room c =
    let row = tabulate m f in
    let last : take (r + 1) (tabulate m f) ≡ take r (tabulate m f) ++ (x ∷ []) =
    ap (λ (k : ℕ). take k row) (add-one r)
    ∙ take-suc row r 0 (omega (arith, length_tabulate m f))
    ∙ ap (λ (y : ℕ). take r row ++ (y ∷ [])) (get_d_tabulate m f 0 r b ∙ sym e) in
    holds_counted
    (subst (λ (k : List ℕ). Holds size (set table n x) (n + 1) k)
    (append_assoc l (take r row) (x ∷ []) ∙ ap (λ (k : List ℕ). l ++ k) (sym last))
    (holds_more h x room)) c
