-- `marking::plan`: the first choices are filled.
use mathlib.Core.Path.{◌≡◌}
use Rattle.atl.specs.Marking.{choice}
use Rattle.radix.specs.Classes.{filled}
use Rattle.marking.specs.Board.{game_of}
use Rattle.marking.proofs.plan.Given as goal

abbrev pub invariant-loop-i : goal.invariant-loop-i
invariant-loop-i l = l.choices ≡ filled (choice (game_of l.board) l.rounds) l.initial.choices l.i
