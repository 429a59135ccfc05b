-- `model::growing::Growing::enter` meets its contract: the state has a number, or it is new and there is room, or there is none.
use native.Mathlib.Omega.{arith}
use Rattle.model.proofs.Entering.{entered_new}
use Rattle.model.proofs.growing.Growing.enter.Goals as goal

pub returns-then-n-lt-STATE_LIMIT-clause-entered : goal.returns-then-n-lt-STATE_LIMIT-clause-entered
returns-then-n-lt-STATE_LIMIT-clause-entered c =
    let tree = c.enroll.new.self in
    let new = entered_new {t = c.args.t} c.requires.holds (omega (arith, c.in_default.ensures)) c.if-n-lt-STATE_LIMIT.true tree.tests tree.forks c.enroll.ensures in
    (new.0, record { holds = new.1; treed = new.2 })
