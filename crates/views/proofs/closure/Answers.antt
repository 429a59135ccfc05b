-- `closure` meets its contract. After k rounds the table is `close k`.
use Rattle.std.proofs.Common.{ap, ◌∙◌, arith}
use Rattle.views.specs.Reference.{close}
use Rattle.views.proofs.closure.Goals as goal

pub returns : goal.returns
returns c = c.loop-k.invariant ∙ ap (λ k. close k c.args.q.now) (omega arith)
