-- `model::growing::note_counts` meets its contract. The invariant: the counts of the first r roles are stored.
use Prim.Native.Nat.{◌+◌, ◌*◌}
use mathlib.Core.List.{◌++◌}
use lib.ListN.{take}
use Rattle.tables.specs.Lengths.{state_limit}
use Rattle.atl.specs.Bounded.{tabulate}
use Rattle.offer.specs.Offer.{role_limit, role_of}
use Rattle.model.specs.Tables.{Holds}
use Rattle.model.proofs.growing.note_counts.Given as goal

abbrev pub invariant-loop-r : goal.invariant-loop-r
invariant-loop-r l = Holds (role_limit * state_limit) l.counts (role_limit * l.k + l.r) (take (role_limit * l.k) l.initial.counts ++ take l.r (tabulate role_limit (role_of l.offer l.roles)))
