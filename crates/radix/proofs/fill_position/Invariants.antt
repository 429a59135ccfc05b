-- `radix::fill_position`: roles r and on have joined.
use Rattle.radix.specs.Classes.{row}
use Rattle.radix.proofs.Growing.{Joined}
use Rattle.radix.proofs.fill_position.Given as goal

abbrev pub invariant-loop-r : goal.invariant-loop-r
invariant-loop-r l = Joined (row l.counts 0) l.mask l.fn.classes l.r l.w l.classes
