-- `marks::fill_choices`: the table of classes gives the game of the roles' choices.
use mathlib.Core.Path.{ap, ◌∙◌}
use mathlib.Core.List.{◌++◌}
use lib.ListN.{take, drop}
use Rattle.atl.proofs.Same.{plan_same}
use Rattle.marks.proofs.Games.{tables, same}
use Rattle.marks.proofs.fill_choices.Goals as goal

pub invariant_of-board : goal.invariant_of-board
invariant_of-board c = record {
  tables = tables c.args.coalition.arena.model c.args.coalition.mask c.args.room.now.classes.now c.args.room.now.classed _ c.classify.ensures;
}

pub returns : goal.returns
returns c =
    let n = c.args.coalition.arena.joints.n in
    ap (λ x. x ++ drop n c.args.choices.now)
    (c.plan.ensures ∙ plan_same _ _ (same c.args.coalition.arena.model c.args.coalition.mask c.args.room.now.classes.now c.args.room.now.classed _ c.classify.ensures)
    (take n c.args.rounds.now))
