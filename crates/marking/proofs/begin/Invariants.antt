-- `marking::begin`: the first entries are filled.
use mathlib.Core.Path.{◌≡◌}
use mathlib.Core.Bool.{cond}
use Rattle.atl.specs.Marking.{unset}
use Rattle.radix.specs.Classes.{filled}
use Rattle.marking.specs.Table.{side}
use Rattle.marking.specs.Board.{marked_by}
use Rattle.marking.proofs.begin.Given as goal

abbrev pub invariant-loop-i : goal.invariant-loop-i
invariant-loop-i l = l.rounds ≡ filled (λ i. cond (side l.want (marked_by l.start) i) 0 unset) l.initial.rounds l.i
