-- `views_by` meets its contract. From the present set, the levels that are left give what all levels give.
use Rattle.std.proofs.Common.{refl}
use Rattle.firing.specs.Firing.{views_by}
use Rattle.firing.proofs.Laws.{levels_on, levels_out}
use Rattle.firing.proofs.views_by.Goals as goal

pub loop-i-init : goal.loop-i-init
unfolding views_by
loop-i-init c = record { gives = refl }

pub loop-i-preserved : goal.loop-i-preserved
loop-i-preserved c = levels_on c.loop-i.invariant c.loop-i-test.true c.level_by-x.ensures

pub returns : goal.returns
returns c = levels_out c.loop-i.invariant c.loop-i-test.false
