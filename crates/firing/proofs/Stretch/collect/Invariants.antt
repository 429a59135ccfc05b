-- `collect` meets its contract. From the present set, the slots that are left give what all slots give.
use Rattle.std.proofs.Common.{◌≡◌, ◌-◌, is_none}
use Rattle.std.specs.Option.{unwrap_or}
use Rattle.codes.specs.Table.{collected}
use Rattle.firing.proofs.Stretch.collect.Given as goal

abbrev pub invariant-loop-c : goal.invariant-loop-c
invariant-loop-c l =
    collected (is_none l.scene.views) l.self.code.now l.scene.facts (unwrap_or l.scene.views 0) l.scene.joint l.c (l.c-end - l.c) l.x
    ≡ collected (is_none l.scene.views) l.self.code.now l.scene.facts (unwrap_or l.scene.views 0) l.scene.joint l.self.from (l.self.to - l.self.from) l.start
