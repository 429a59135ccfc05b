-- `marking::holds_at`: something was found exactly where the set can be secured.
use Rattle.marking.specs.Board.{game_of, aimed}
use Rattle.atl.specs.Marking.{force}
use Rattle.marking.proofs.Position.{found_some}
use Rattle.marking.proofs.Trying.{side_is}
use mathlib.Core.Path.{◌∙◌}
use Rattle.marking.proofs.holds_at.Goals as goal

pub returns : goal.returns
returns c =
    let args = c.args in
    let found = found_some (game_of args.board) (aimed args.aim) args.i c.force_at.result c.force_at.ensures in
    side_is (force (game_of args.board) (aimed args.aim)) args.i c.is_some.result (c.is_some.ensures ∙ found) args.aim.want
