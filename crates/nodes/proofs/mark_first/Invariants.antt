-- `nodes::mark_first`: the first k nodes are marked.
use mathlib.Core.Path.{◌≡◌}
use lib.ListN.{take}
use Rattle.nodes.specs.Asked.{marks_to}
use Rattle.nodes.specs.Held.{sheet_of}
use Rattle.nodes.proofs.mark_first.Given as goal

abbrev pub invariant-loop-k : goal.invariant-loop-k
invariant-loop-k l = l.marks ≡ marks_to (sheet_of l.held) (take l.arena.joints.n l.held.states.now) l.k
