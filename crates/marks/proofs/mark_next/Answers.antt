-- `marks::mark_next`: the table has 0 at the positions of the operand, so what secures count 0 secures them.
use mathlib.Core.Bool.{cond}
use mathlib.Core.Path.{ap, ◌∙◌}
use lib.Seq.{length-take-le}
use Rattle.atl.specs.Bounded.{tabulate}
use Rattle.atl.specs.Marking.{unset}
use Rattle.marking.specs.Rule.{bits}
use Rattle.marks.proofs.Games.{tables, same_next}
use Rattle.marks.proofs.mark_next.Goals as goal

pub invariant_of-board : goal.invariant_of-board
invariant_of-board c = record {
  tables = tables c.args.coalition.arena.model c.args.coalition.mask c.args.room.now.classes.now c.args.room.now.classed _ c.classify.ensures;
}

pub returns : goal.returns
returns c =
    let n = c.args.coalition.arena.joints.n in
    same_next c.args.coalition.arena.model c.args.coalition.mask c.args.room.now.classes.now c.args.room.now.classed _ c.classify.ensures
    (bits c.args.marks.now c.args.a) _
    (c.begin.ensures ∙ ap (λ m. tabulate m (λ i. cond (bits c.args.marks.now c.args.a i) 0 unset)) (length-take-le n _ c.requires.1))
    c.args.k c.args.marks.now _ c.mark_forced.ensures
