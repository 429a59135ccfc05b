-- `settle` meets its contract. From the present set, what is left of the 64 sweeps gives what all of them give.
use Rattle.std.proofs.Common.{refl, ◌∙◌}
use Rattle.firing.specs.Firing.{settled_by}
use Rattle.firing.proofs.Laws.{settle_rest, settle_full, settle_next, settle_end}
use Rattle.firing.proofs.Stretch.settle.Goals as goal
use Rattle.firing.proofs.Stretch.settle.Goals.{then-y-x-via-then-y-x, then-y-x-via-else-y-x+then-has_all}

pub loop-turn-init : goal.loop-turn-init
unfolding settled_by
loop-turn-init c = record { gives = refl }

pub returns-then-y-x : goal.returns-then-y-x
returns-then-y-x c =
    let v = c.loop-turn.invariant in
    let t = c.loop-turn-test.true in
    elim c.then-y-x.branch [
      | then-y-x-via-then-y-x w ↦ w.if-y-x.true ∙ settle_rest v t c.collect-y.ensures w.if-y-x.true
      | then-y-x-via-else-y-x+then-has_all w ↦ settle_full v t c.collect-y.ensures c.requires w.if-y-x.false w.has_all.ensures w.if-has_all.true
    ]

pub loop-turn-preserved : goal.loop-turn-preserved
loop-turn-preserved c = settle_next c.loop-turn.invariant c.loop-turn-test.true c.collect-y.ensures c.if-y-x.false

pub returns : goal.returns
returns c = settle_end c.loop-turn.invariant c.loop-turn-test.false
