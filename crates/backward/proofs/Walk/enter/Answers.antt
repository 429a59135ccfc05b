-- `backward::Walk::enter`: the position takes a count where it has none and may take one.
use native.Mathlib.Omega.{arith}
use mathlib.Core.Path.{sym, ◌∙◌}
use Rattle.backward.specs.Ground.{may, held}
use Rattle.backward.proofs.Sizes.{sized_room}
use Rattle.backward.proofs.Steps.{enter_has, enter_barred, enter_takes, enter_room}
use Rattle.backward.proofs.Walk.enter.Goals as goal
use Rattle.backward.proofs.Walk.enter.Goals.{else-self-i-via-then-self-i+else-permitted, else-self-i-via-else-self-i}

pub push-requires : goal.push-requires
push-requires c =
    let room = enter_room c.requires.2 c.args.i c.requires.0 c.if-self-i.true in
    (omega (arith, c.args.ground.now.few), room, omega (arith, c.args.ground.now.few, sized_room c.requires.2 c.args.i c.requires.0 c.if-self-i.true))

pub returns-then-permitted-clause-does : goal.returns-then-permitted-clause-does
returns-then-permitted-clause-does c =
    let args = c.args in
    c.push.ensures.does ∙ enter_takes (may args.ground.now) args.r args.i (held args.self.now) c.if-self-i.true (sym c.permitted.ensures ∙ c.if-permitted.true)

pub returns-else-self-i-clause-does : goal.returns-else-self-i-clause-does
returns-else-self-i-clause-does c =
    let args = c.args in
    elim c.else-self-i.branch [
      | else-self-i-via-then-self-i+else-permitted w ↦
          enter_barred (may args.ground.now) args.r args.i (held args.self.now) (sym w.permitted.ensures ∙ w.if-permitted.false)
      | else-self-i-via-else-self-i w ↦ enter_has (may args.ground.now) args.r args.i (held args.self.now) w.if-self-i.false
    ]
