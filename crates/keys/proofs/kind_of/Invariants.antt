-- `keys::kind_of` meets its contract: after each turn the roles below `role` are named that have a move in d.
use mathlib.Core.Path.{◌≡◌}
use Rattle.keys.specs.Keys.{named_in}
use Rattle.keys.proofs.kind_of.Given as goal

abbrev pub invariant-loop-role : goal.invariant-loop-role
invariant-loop-role l = l.kind.bits ≡ named_in l.d l.role
