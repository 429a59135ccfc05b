-- The padded table of marks against what stands at each position.
use Prim.Native.Nat.{ℕ, zero, suc, ◌+◌, ◌-◌, ◌≤◌, ◌<◌}
use mathlib.Core.Path.{◌≡◌, refl, sym, ap, ◌∙◌}
use mathlib.Core.Bool.{Bool, true, false}
use mathlib.Core.List.{List, [], ◌++◌}
use native.Mathlib.Numerals.{add-one}
use native.Mathlib.Omega.{arith}
use borrow.Author.Tests.{ltb-true, ltb-false}
use lib.Dec.{ltb}
use lib.ListN.{length, get_or, drop, replicate, get_or-eq_default}
use lib.Seq.{ext_get_or}
use Rattle.facts.specs.Pack.{pack}
use Rattle.tables.specs.Lengths.{state_limit}
use Rattle.tables.specs.Pad.{pad}
use Rattle.tables.proofs.Pad.{length_pad, get_or_pad}
use Rattle.sheet.specs.Data.{Sheet}
use Rattle.atl.specs.Bounded.{tabulate}
use Rattle.atl.specs.Game.{States}
use Rattle.atl.proofs.Bounded.{length_tabulate, get_d_tabulate}
use Rattle.meaning.specs.Marks.{is_marked}
use Rattle.position.specs.Meaning.{nodes_of}
use Rattle.position.specs.Position.{rules_of}
use Rattle.radix.proofs.Filling.{filled_length}
use Rattle.marks.specs.Noted.{entry, noted}
use Rattle.marks.specs.Held.{Marked}
use Rattle.marks.proofs.Join.{untouched}
use Rattle.nodes.specs.Asked.{marks_to}

abbrev zeros : ℕ → List ℕ
zeros n = tabulate n (λ i. 0)

zeros_at : (n i : ℕ) → get_or (zeros n) i 0 ≡ 0
zeros_at zero i = refl
zeros_at (suc n) zero = refl
zeros_at (suc n) (suc i) = zeros_at n i

-- a table of zeros alone, however many of them are written
pub pad_zeros : (size n : ℕ) → n ≤ size → pad size [] ≡ pad size (tabulate n (λ i. 0))
pad_zeros size n h =
    let z : length (zeros n) ≡ n = length_tabulate n _ in
    let e = length_pad size (zeros n) (omega arith) in
    ext_get_or 0 _ _ (length_pad size [] (omega arith) ∙ sym e) (λ i b.
    get_or_pad size [] i ∙ sym (get_or_pad size (zeros n) i ∙ zeros_at n i))

abbrev blank : ℕ → List ℕ
blank n = replicate n 0

drop_zeros : (n m : ℕ) → drop n (blank m) ≡ blank (m - n)
drop_zeros zero m = let e : m ≡ m - 0 = omega arith in ap blank e
drop_zeros (suc n) zero = let e : 0 ≡ 0 - suc n = omega arith in ap blank e
drop_zeros (suc n) (suc m) = let e : m - n ≡ suc m - suc n = omega arith in drop_zeros n m ∙ ap blank e

-- a list written over the first entries of an empty table
pub pad_over : (size n : ℕ) (x t : List ℕ) → length x ≡ n → t ≡ pad size [] → x ++ drop n t ≡ pad size x
unfolding pad
pad_over size n x t e f =
    let z : size - 0 - n ≡ size - length x = omega (arith, e) in
    ap (λ (k : List ℕ). x ++ drop n k) f ∙ ap (λ (k : List ℕ). x ++ k) (drop_zeros n (size - 0) ∙ ap blank z)

module _ (d : Sheet) (l : List ℕ) (few : length l ≤ state_limit) where
  abbrev row : ℕ → ℕ → ℕ
  row k i = pack (is_marked (rules_of d) l (nodes_of d) i) k

  pub marks_long : (k : ℕ) → length (marks_to d l k) ≡ state_limit
  unfolding marks_to
  marks_long k = length_pad state_limit (tabulate (length l) (row k)) (omega (arith, length_tabulate (length l) (row k), few))

  -- at a position the table has its marks
  pub marks_at : (k : ℕ) → Marked (rules_of d) l (nodes_of d) k (marks_to d l k)
  unfolding marks_to
  marks_at k i h = get_or_pad state_limit (tabulate (length l) (row k)) i ∙ get_d_tabulate (length l) (row k) 0 i h

  -- behind the positions it has nothing
  marks_behind : (k i : ℕ) → length l ≤ i → get_or (marks_to d l k) i 0 ≡ 0
  unfolding marks_to
  marks_behind k i h = get_or_pad state_limit (tabulate (length l) (row k)) i ∙ get_or-eq_default (tabulate (length l) (row k)) 0 (omega (arith, length_tabulate (length l) (row k)))

  pub marked_is : (k : ℕ) (marks : List ℕ) → marks ≡ marks_to d l k → Marked (rules_of d) l (nodes_of d) k marks
  marked_is k marks e i h = ap (λ (x : List ℕ). get_or x i 0) e ∙ marks_at k i h

  -- before the first node there are no marks
  pub none_marked : (marks : List ℕ) → marks ≡ pad state_limit [] → marks ≡ marks_to d l 0
  unfolding pack marks_to
  none_marked marks e = e ∙ pad_zeros state_limit (length l) few

  -- one node more
  pub one_more : (n k : ℕ) (w : States) (marks marks' : List ℕ) → n ≡ length l → marks ≡ marks_to d l k → marks' ≡ noted n k w marks
      → Marked (rules_of d) l (nodes_of d) (suc k) marks' → marks' ≡ marks_to d l (k + 1)
  one_more n k w marks marks' c e f g =
      let long : length marks' ≡ state_limit = filled_length (entry k w marks) marks n marks' f ∙ ap length e ∙ marks_long k in
      ext_get_or 0 marks' (marks_to d l (k + 1)) (long ∙ sym (marks_long (k + 1))) (λ i h. here i (ltb i (length l)) refl)
    where
      here : (i : ℕ) (t : Bool) → ltb i (length l) ≡ t → get_or marks' i 0 ≡ get_or (marks_to d l (k + 1)) i 0
      here i true b = let h : i < length l = ltb-true i (length l) b in g i h ∙ sym (ap (λ (j : ℕ). get_or (marks_to d l j) i 0) (add-one k) ∙ marks_at (suc k) i h)
      here i false b =
          let h : length l ≤ i = ltb-false i (length l) b in
          untouched n k w marks marks' f i (omega arith) ∙ ap (λ (x : List ℕ). get_or x i 0) e ∙ marks_behind k i h ∙ sym (marks_behind (k + 1) i h)
