-- `masks_of` meets its contract. The sets of the levels so far are filled.
use Rattle.std.proofs.Common.{arith}
use Rattle.views.specs.Sheet.{mask_at}
use Rattle.views.proofs.Laws.{listed_by}
use Rattle.views.proofs.masks_of.Goals as goal

pub returns : goal.returns
returns c = listed_by (mask_at c.args.q.now) 64 1 c.loop-i.t c.loop-i.invariant.0 (λ i h. c.loop-i.invariant.1 i (omega arith))
