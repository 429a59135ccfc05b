-- `radix::fill_classes`: the classes of the first i positions are filled.
use mathlib.Core.Path.{◌≡◌}
use Rattle.radix.specs.Classes.{classed}
use Rattle.radix.proofs.fill_classes.Given as goal

abbrev pub invariant-loop-i : goal.invariant-loop-i
invariant-loop-i l = l.classes ≡ classed l.starts l.counts l.mask l.initial.classes l.i
