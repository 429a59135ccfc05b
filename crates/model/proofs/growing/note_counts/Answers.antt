-- `model::growing::note_counts` meets its contract. The invariant: the counts of the first r roles are stored.
use native.Mathlib.Omega.{arith}
use Prim.Native.Nat.{◌*◌}
use lib.ListN.{take}
use Rattle.offer.specs.Offer.{role_limit, role_of}
use Rattle.model.proofs.Holding.{row_more}
use Rattle.model.proofs.growing.note_counts.Goals as goal

pub loop-r-preserved : goal.loop-r-preserved
loop-r-preserved c =
    row_more role_limit (role_of c.args.offer c.args.roles) (take (role_limit * c.args.k) c.args.counts.now) c.loop-r.invariant c.loop-r-test.true c.role_count.ensures (omega arith) (omega arith)
