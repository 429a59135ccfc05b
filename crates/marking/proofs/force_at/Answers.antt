-- `marking::force_at`: a class that no joint move has struck out is a choice that secures the set.
use Rattle.marking.specs.Board.{aimed}
use Rattle.marking.proofs.Position.{found_is}
use Rattle.marking.proofs.force_at.Goals as goal

pub returns : goal.returns
returns c =
    let args = c.args in
    found_is args.board.tables args.i c.requires.2 _ _ c.places-start.ensures.0 c.places-start.ensures.1 (aimed args.aim) args.flags.now c.strike.new.flags
    c.lowest_clean.result c.requires.1 c.strike.ensures c.lowest_clean.ensures
