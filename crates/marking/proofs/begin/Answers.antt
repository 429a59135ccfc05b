-- `marking::begin`: the first entries are filled.
use borrow.Author.Rules.{rules}
use mathlib.Core.Path.{refl, ◌∙◌}
use mathlib.Core.Bool.{true, false}
use Rattle.marking.specs.Board.{marked_by}
use Rattle.radix.proofs.Filling.{filled_none, filled_more, filled_all}
use Rattle.marking.proofs.Trying.{fresh_is}
use Rattle.marking.proofs.begin.Goals as goal
use Rattle.marking.proofs.begin.Goals.{then-holds-want, else-holds-want}

pub loop-i-init : goal.loop-i-init
loop-i-init c = filled_none _ _

pub loop-i-preserved : goal.loop-i-preserved
loop-i-preserved c =
    let args = c.args in
    let loop = c.loop-i in
    filled_more _ args.rounds.now loop.i c.if-holds-want.round loop.rounds loop.invariant (elim c.if-holds-want.branch [
      | then-holds-want w ↦ w.round-is ∙ fresh_is (marked_by args.start) loop.i c.holds.result args.want true c.holds.ensures w.if-holds-want.true
      | else-holds-want w ↦ w.round-is ∙ fresh_is (marked_by args.start) loop.i c.holds.result args.want false c.holds.ensures w.if-holds-want.false
    ])

pub returns : goal.returns
returns c =
    let args = c.args in
    let loop = c.loop-i in
    filled_all _ args.rounds.now loop.i _ loop.rounds (search rules) (search rules) refl loop.invariant
