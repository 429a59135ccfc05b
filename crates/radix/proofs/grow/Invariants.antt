-- `radix::grow`: the entries before e are the repeated ones.
use mathlib.Core.Path.{◌≡◌}
use Rattle.radix.specs.Classes.{filled, repeated}
use Rattle.radix.proofs.grow.Given as goal

abbrev pub invariant-loop-e : goal.invariant-loop-e
invariant-loop-e l = l.classes ≡ filled (repeated l.initial.classes l.w l.add) l.initial.classes l.e
