-- The nodes of the question: as many as the sheet has, each what its record asks, and each naming earlier ones only.
use Prim.Native.Nat.{ℕ, zero, suc, ◌+◌, ◌<◌}
use mathlib.Core.Path.{◌≡◌, refl, sym, ap, ◌∙◌, subst}
use mathlib.Core.Bool.{true}
use mathlib.Core.List.{List, [], ◌∷◌}
use native.Mathlib.Nat.{not-suc-le-zero, le_of_suc-le-suc, add-zero, zero-add}
use native.Mathlib.Omega.{arith}
use borrow.Author.Tests.{ltb-true}
use lib.Dec.{ltb}
use lib.ListN.{length, get_or}
use Rattle.facts.specs.Truth.{and_left, and_right}
use Rattle.sheet.specs.declared.Sizes.{Sizes}
use Rattle.sheet.specs.declared.Limits.{Limits}
use Rattle.sheet.specs.declared.question.Question.{Question}
use Rattle.sheet.specs.declared.question.Question.TheVariants.{Unknown}
use Rattle.sheet.specs.Data as sheet
use Rattle.sheet.specs.Data.{Sheet}
use Rattle.sheet.specs.Fields.{lim, within, node_table, node_limits, node_fits, NodesFit, Fits}
use Rattle.sheet.specs.Fields as fields
use Rattle.sheet.specs.Question.{question_table, question_of}
use Rattle.meaning.specs.Atl.{TEST, Below, InOrder}
use Rattle.position.specs.Meaning.{asked_by, blank, node_of, nodes_after, nodes_of}

pub nodes_long : (xs : List sheet.Node) (j : ℕ) → length (nodes_after j xs) ≡ length xs
nodes_long [] j = refl
nodes_long (x ∷ xs) j = ap suc (nodes_long xs (j + 1))

after_at : (xs : List sheet.Node) (j i : ℕ) → i < length xs → get_or (nodes_after j xs) i (TEST 0) ≡ node_of (j + i) (question_of (get_or xs i blank))
after_at [] j i h = absurd (not-suc-le-zero h)
after_at (x ∷ xs) j zero h = ap (λ (k : ℕ). node_of k (question_of x)) (sym (add-zero j))
after_at (x ∷ xs) j (suc i) h =
    let e : j + 1 + i ≡ j + suc i = omega arith in
    after_at xs (j + 1) i (le_of_suc-le-suc h) ∙ ap (λ (k : ℕ). node_of k (question_of (get_or xs i blank))) e

-- node j is what the record of number j asks
pub node_at_lem : (d : Sheet) (j : ℕ) → j < length d.nodes → get_or (nodes_of d) j (TEST 0) ≡ node_of j (asked_by d j)
node_at_lem d j h = after_at d.nodes 0 j h ∙ ap (λ (k : ℕ). node_of k (asked_by d j)) (zero-add j)

-- ---- operands
first : (l : Limits) (a b c : ℕ) → within l a b c ≡ true → a < l.a
unfolding within
first l a b c e = ltb-true a l.a (and_left _ _ e)

second : (l : Limits) (a b c : ℕ) → within l a b c ≡ true → b < l.b
unfolding within
second l a b c e = ltb-true b l.b (and_left _ _ (and_right (ltb a l.a) _ e))

-- kind by kind, the limits and what is asked
module _ (z : Sizes) (j a b c : ℕ) where
  abbrev Fine : Limits → Question → Type 0
  Fine l q = within l a b c ≡ true → Below j (node_of j q)

  infixr 20 ◌then◌
  data Each : List Limits → List Question → Type 0 where
    done : Each [] []
    ◌then◌ : {l : Limits} {q : Question} {ls : List Limits} {qs : List Question} → Fine l q → Each ls qs → Each (l ∷ ls) (q ∷ qs)

  each_at : (ls : List Limits) (qs : List Question) → Each ls qs → (k : ℕ) → Fine (get_or ls k (lim 0 0 0)) (get_or qs k Unknown)
  unfolding node_of
  each_at (l ∷ ls) [] x3 k = elim x3 [ ]
  each_at [] (q ∷ qs) x'' k = elim x'' [ ]
  each_at [] [] done k = λ w. tt
  each_at (l ∷ ls) (q ∷ qs) (f then e) zero = f
  each_at (l ∷ ls) (q ∷ qs) (f then e) (suc k) = each_at ls qs e k

  one : (l : Limits) → within l a b c ≡ true → a < l.a
  one l = first l a b c

  two : (l : Limits) → within l a b c ≡ true → (a < l.a) × (b < l.b)
  two l w = (first l a b c w, second l a b c w)

  kinds : Each (node_table z j) (question_table a b c)
  unfolding node_of
  kinds =
      (λ w. tt) then (λ w. tt) then (λ w. tt) then (λ w. tt) then (λ w. tt) then (λ w. tt) then (λ w. tt)
      then one _ then two _ then two _ then one _ then one _ then one _ then two _ then done

node_below : (z : Sizes) (j : ℕ) (x : sheet.Node) → node_fits z j x ≡ true → Below j (node_of j (question_of x))
unfolding node_fits node_limits question_of
node_below z j x e = each_at z j x.a x.b x.coalition (node_table z j) (question_table x.a x.b x.coalition) (kinds z j x.a x.b x.coalition) x.kind e

below_after : (z : Sizes) (xs : List sheet.Node) (j : ℕ) → NodesFit z j xs → (i : ℕ) → i < length xs → Below (j + i) (get_or (nodes_after j xs) i (TEST 0))
below_after z [] j fit i h = absurd (not-suc-le-zero h)
below_after z (x ∷ xs) j (fields.one e rest) zero h = subst (λ (k : ℕ). Below k (node_of j (question_of x))) (sym (add-zero j)) (node_below z j x e)
below_after z (x ∷ xs) j (fields.one e rest) (suc i) h =
    let q : j + 1 + i ≡ j + suc i = omega arith in
    subst (λ (k : ℕ). Below k (get_or (nodes_after (j + 1) xs) i (TEST 0))) q (below_after z xs (j + 1) rest i (le_of_suc-le-suc h))

-- each node names earlier ones
pub nodes_in_order : (d : Sheet) → Fits d → InOrder (nodes_of d)
nodes_in_order d fit j h =
    subst (λ (k : ℕ). Below k (get_or (nodes_of d) j (TEST 0))) (zero-add j)
    (below_after d.sizes d.nodes 0 fit.nodes j (subst (λ (n : ℕ). j < n) (nodes_long d.nodes 0) h))
