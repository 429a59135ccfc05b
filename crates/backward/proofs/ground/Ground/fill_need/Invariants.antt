-- `backward::Ground::fill_need`: the counters of the first i positions are filled.
use mathlib.Core.Path.{◌≡◌}
use Prim.Native.Nat.{ℕ, ◌<◌}
use Rattle.incoming.specs.Index.{at}
use Rattle.backward.specs.Ground.{waits}
use Rattle.backward.proofs.ground.Ground.fill_need.Given as goal

abbrev pub invariant-loop-i : goal.invariant-loop-i
invariant-loop-i l = (k : ℕ) → k < l.i → at l.need k ≡ waits l.self l.left k
