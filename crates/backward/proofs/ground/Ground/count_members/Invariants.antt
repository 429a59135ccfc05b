-- `backward::Ground::count_members`: the first p joint moves are counted, from counters that are cleared.
use mathlib.Core.Path.{◌≡◌}
use Rattle.incoming.specs.Build.{tallied}
use Rattle.backward.specs.Ground.{class_of}
use Rattle.backward.proofs.ground.Ground.count_members.Given as goal

abbrev pub invariant-loop-p : goal.invariant-loop-p
invariant-loop-p l = l.left ≡ tallied (class_of l.self) l.initial.left l.p
