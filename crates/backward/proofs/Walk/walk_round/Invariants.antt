-- `backward::Walk::walk_round`: the positions before place q of the queue are walked from.
use mathlib.Core.Path.{◌≡◌}
use Prim.Native.Nat.{◌-◌}
use Rattle.backward.specs.Ground.{held, Same, passed}
use Rattle.backward.proofs.Walk.walk_round.Given as goal

abbrev pub invariant-loop-q : goal.invariant-loop-q
invariant-loop-q l = record {
  does : held l.self ≡ passed l.ground l.r l.lo (l.q - l.lo) (held l.initial.self);
  same : Same l.initial.self l.self;
}
