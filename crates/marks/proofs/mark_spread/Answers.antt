-- `marks::mark_spread`: the table of classes gives the game of the roles' choices.
use mathlib.Core.List.{◌++◌}
use mathlib.Core.Path.{ap, ◌∙◌}
use lib.ListN.{drop}
use Rattle.atl.specs.Marking.{counted}
use Rattle.marking.specs.Rule.{bits}
use Rattle.marking.specs.Table.{side}
use Rattle.marks.specs.Noted.{noted}
use Rattle.marks.specs.Coalition.{reaches}
use Rattle.marks.proofs.Games.{tables, same_counts}
use Rattle.marks.proofs.mark_spread.Goals as goal

pub invariant_of-board : goal.invariant_of-board
invariant_of-board c = record {
  tables = tables c.args.coalition.arena.model c.args.coalition.mask c.args.room.now.classes.now c.args.room.now.classed _ c.classify.ensures;
}

pub returns-clause-counts : goal.returns-clause-counts
returns-clause-counts c =
    let args = c.args in
    ap (λ x. x ++ drop args.coalition.arena.joints.n args.rounds.now)
    (same_counts args.coalition.arena.model args.coalition.mask args.room.now.classes.now args.room.now.classed _ c.classify.ensures
    args.spread.want (reaches args.marks.now args.spread.through) (side args.spread.want (bits args.marks.now args.spread.from)) _ c.count_spread.ensures)

pub returns-clause-marks : goal.returns-clause-marks
returns-clause-marks c =
    let args = c.args in
    let n = args.coalition.arena.joints.n in
    c.mark_aimed.ensures
    ∙ ap (λ x. noted n args.k (side args.spread.want (counted x n)) args.marks.now)
    (same_counts args.coalition.arena.model args.coalition.mask args.room.now.classes.now args.room.now.classed _ c.classify.ensures
    args.spread.want (reaches args.marks.now args.spread.through) (side args.spread.want (bits args.marks.now args.spread.from)) _ c.count_spread.ensures)
