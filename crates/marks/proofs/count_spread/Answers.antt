-- `marks::count_spread`: what may be passed through is what the node marks, where there is one.
use mathlib.Core.Path.{ap, ◌∙◌}
use Rattle.atl.specs.Game.{States}
use Rattle.atl.specs.Marking.{swept}
use Rattle.marking.specs.Board.{game_of}
use Rattle.marking.specs.Rule.{bits, rule}
use Rattle.marking.specs.Table.{side}
use Rattle.marks.proofs.count_spread.Goals as goal

pub invariant_of-ground : goal.invariant_of-ground
invariant_of-ground c = record { leads = c.requires.0; few = c.requires.1; covered = c.marked_by-through.ensures.covered _ c.requires.2 }

pub returns : goal.returns
returns c =
    let args = c.args in
    let n = args.board.joints.n in
    c.count_rounds.ensures
    ∙ ap (λ (a : States). swept n (rule (game_of args.board) args.spread.want a) (side args.spread.want (bits args.marks.now args.spread.from)) n) c.marked_by-through.ensures.set
