-- `marks::mark_forced`: bit k is written at the first i positions.
use Rattle.radix.proofs.Filling.{filled_none}
use Rattle.atl.specs.Marking.{force}
use Rattle.marking.specs.Table.{side}
use Rattle.marking.specs.Board.{game_of, aimed}
use Rattle.marks.proofs.Noting.{note_more}
use Rattle.marks.proofs.mark_forced.Goals as goal

pub loop-i-init : goal.loop-i-init
loop-i-init c = filled_none _ c.args.marks.now

pub loop-i-preserved : goal.loop-i-preserved
loop-i-preserved c =
    let args = c.args in
    note_more args.k (side args.aim.want (force (game_of args.board) (aimed args.aim))) args.marks.now c.loop-i.i _ _ _ c.loop-i.invariant c.holds_at-on.ensures c.mark.ensures
