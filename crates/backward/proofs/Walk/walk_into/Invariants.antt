-- `backward::Walk::walk_into`: the joint moves before slot j of the index are visited.
use mathlib.Core.Path.{◌≡◌}
use Prim.Native.Nat.{◌-◌}
use Rattle.backward.specs.Ground.{held, Same}
use Rattle.backward.proofs.Loops.{visits_of}
use Rattle.backward.proofs.Walk.walk_into.Given as goal

abbrev pub invariant-loop-j : goal.invariant-loop-j
invariant-loop-j l = record {
  does : held l.self ≡ visits_of l.ground l.r l.first (l.j - l.first) (held l.initial.self);
  same : Same l.initial.self l.self;
}
