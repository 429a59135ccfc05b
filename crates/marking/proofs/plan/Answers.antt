-- `marking::plan`: the first choices are filled.
use borrow.Author.Rules.{rules}
use Rattle.radix.proofs.Filling.{filled_none, filled_more, filled_all}
use Rattle.marking.proofs.plan.Goals as goal

pub loop-i-init : goal.loop-i-init
loop-i-init c = filled_none _ _

pub loop-i-preserved : goal.loop-i-preserved
loop-i-preserved c =
    let loop = c.loop-i in
    filled_more _ c.args.choices.now loop.i c.choose.result loop.choices loop.invariant c.choose.ensures

pub returns : goal.returns
returns c =
    let loop = c.loop-i in
    filled_all _ c.args.choices.now loop.i _ loop.choices (search rules) (search rules) c.requires.1 loop.invariant
