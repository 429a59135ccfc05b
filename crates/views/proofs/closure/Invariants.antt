-- `closure` meets its contract. After k rounds the table is `close k`.
use Rattle.std.proofs.Common.{◌≡◌}
use Rattle.views.specs.Reference.{close}
use Rattle.views.proofs.closure.Given as goal

abbrev pub invariant-loop-k : goal.invariant-loop-k
invariant-loop-k l = l.q ≡ close l.k l.initial.q
