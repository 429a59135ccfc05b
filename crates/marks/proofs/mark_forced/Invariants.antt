-- `marks::mark_forced`: bit k is written at the first i positions.
use mathlib.Core.Path.{◌≡◌}
use Rattle.atl.specs.Marking.{force}
use Rattle.radix.specs.Classes.{filled}
use Rattle.marking.specs.Table.{side}
use Rattle.marking.specs.Board.{game_of, aimed}
use Rattle.marks.specs.Noted.{entry}
use Rattle.marks.proofs.mark_forced.Given as goal

abbrev pub invariant-loop-i : goal.invariant-loop-i
invariant-loop-i l =
    l.marks ≡ filled (entry l.k (side l.aim.want (force (game_of l.board) (aimed l.aim))) l.initial.marks) l.initial.marks l.i
