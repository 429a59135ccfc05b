-- `nodes::mark_first`: the first k nodes are marked.
use native.Mathlib.Omega.{arith}
use Rattle.nodes.proofs.Sheet.{some_node}
use Rattle.nodes.proofs.Steps.{none_yet}
use Rattle.nodes.proofs.mark_first.Goals as goal

pub overflow_sub-last : goal.overflow_sub-last
overflow_sub-last c = let z = some_node _ _ c.requires.0.asked.sheet in omega arith

pub loop-k-init : goal.loop-k-init
loop-k-init c = none_yet c.requires.0 _ c.requires.1
