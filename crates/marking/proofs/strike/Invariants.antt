-- `marking::strike`: the joint moves before place p have struck out their classes.
use mathlib.Core.Path.{◌≡◌}
use Prim.Native.Nat.{◌-◌}
use Rattle.marking.specs.Flags.{strikes}
use Rattle.marking.specs.Board.{aimed}
use Rattle.marking.proofs.strike.Given as goal

abbrev pub invariant-loop-p : goal.invariant-loop-p
invariant-loop-p l =
    l.flags ≡ strikes l.board.joints.successors.now l.board.classes.now (aimed l.aim) l.start l.initial.flags (l.p - l.start)
