-- `choices::nth` meets its contract: what is left to count of the rest of the set is the whole answer.
use Rattle.std.proofs.Common.{◌≡◌, slice_get}
use Rattle.choices.specs.Moves.{members}
use Rattle.choices.specs.Nth.{rest}
use Rattle.choices.proofs.nth.Given as goal

abbrev pub invariant-loop-i : goal.invariant-loop-i
invariant-loop-i l = slice_get (members l.set) l.k ≡ slice_get (rest l.set l.i) l.left
