-- What is known of the bytes of a sheet that was read: its rules and nodes lie within them, and what each node asks.
use Prim.Native.Nat.{ℕ, zero, suc, ◌+◌, ◌*◌, ◌≤◌, ◌<◌}
use mathlib.Core.Path.{◌≡◌, sym, ap, ◌∙◌}
use mathlib.Core.List.{List}
use native.Mathlib.Omega.{arith}
use native.Mathlib.Nat.{not-suc-le-zero, le_of_suc-le-suc, add-zero}
use lib.ListN.{length, get_or}
use Rattle.sheet.specs.Limits.{most_nodes}
use Rattle.sheet.specs.Data.{node_at, nodes_from, rules_end}
use Rattle.sheet.specs.Fields.{Fits}
use Rattle.sheet.specs.Question.{question_of}
use Rattle.sheet.specs.Reading.{read_sheet, sheet_in}
use Rattle.sheet.specs.declared.Layout.{Layout}
use Rattle.std.specs.Prelude.{Ok}
use Rattle.sheet.specs.declared.question.Question.{Question}
use Rattle.sheet.proofs.Exact.{Exact, exact, nodes_length}
use Rattle.meaning.specs.Atl as atl
use Rattle.meaning.specs.Atl.{InOrder}
use Rattle.position.specs.Meaning.{blank, asked_by, node_of, nodes_of}
use Rattle.position.proofs.Nodes.{node_at_lem, nodes_long, nodes_in_order}

-- node k of the nodes from an offset on
from_at : (s : List ℕ) (n at k : ℕ) → k < n → get_or (nodes_from s at n) k blank ≡ node_at s (at + 6 * k)
from_at s zero at k h = absurd (not-suc-le-zero h)
from_at s (suc n) at zero h = ap (node_at s) (sym (add-zero at))
from_at s (suc n) at (suc k) h = from_at s n (at + 6) k (le_of_suc-le-suc h) ∙ ap (node_at s) (omega arith)

module _ (s : List ℕ) (y : Layout) (read : read_sheet s ≡ Ok y) where
  whole : Exact s y
  whole = exact s y read

  pub fits : Fits (sheet_in s y)
  fits = whole.fits

  pub rules_within : rules_end s y.top y.rules ≤ length s
  rules_within = omega (arith, whole.end, whole.whole)

  pub node_within : (k : ℕ) → k < y.nodes → y.first + 6 * k + 6 ≤ length s
  node_within k h = omega (arith, whole.whole)

  pub nodes_count : length (sheet_in s y).nodes ≡ y.nodes
  nodes_count = nodes_length s y.nodes y.first

  pub count : length (nodes_of (sheet_in s y)) ≡ y.nodes
  count = nodes_long (sheet_in s y).nodes 0 ∙ nodes_count

  pub some_node : 1 ≤ y.nodes
  some_node = omega (arith, nodes_count, fits.some_node)

  pub few_nodes : y.nodes ≤ most_nodes
  few_nodes = omega (arith, nodes_count, fits.few_nodes)

  pub in_order : InOrder (nodes_of (sheet_in s y))
  in_order = nodes_in_order (sheet_in s y) fits

  -- the code's question is that of the sheet's node, and so is the meaning's node
  pub asked_is : (k : ℕ) (q : Question) → k < y.nodes → q ≡ question_of (node_at s (y.first + 6 * k)) → q ≡ asked_by (sheet_in s y) k
  asked_is k q h e = e ∙ sym (ap question_of (from_at s y.nodes y.first k h))

  pub node_is : (k : ℕ) (q : Question) → k < y.nodes → q ≡ question_of (node_at s (y.first + 6 * k)) → atl.node_at (nodes_of (sheet_in s y)) k ≡ node_of k q
  node_is k q h e = node_at_lem (sheet_in s y) k (omega (arith, nodes_count)) ∙ ap (node_of k) (sym (asked_is k q h e))
