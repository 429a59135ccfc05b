-- `round` meets its contract. The rows so far have taken in row k, which was read before.
use Rattle.std.proofs.Common.{◌≡◌, ◌++◌, map, take, drop, get_or}
use Rattle.views.specs.Reference.{join}
use Rattle.views.proofs.round.Given as goal

abbrev pub invariant-loop-r : goal.invariant-loop-r
invariant-loop-r l = (l.rk ≡ get_or l.initial.q l.k 0) × (l.q ≡ map (join l.k l.rk) (take l.r-index l.initial.q) ++ drop l.r-index l.initial.q)
