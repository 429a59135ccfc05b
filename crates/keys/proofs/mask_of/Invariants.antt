-- `keys::mask_of` meets its contract: after each turn the moves of the kind's roles below `role` are in.
use mathlib.Core.Path.{◌≡◌}
use Rattle.keys.specs.Keys.{moves_in}
use Rattle.keys.proofs.mask_of.Given as goal

abbrev pub invariant-loop-role : goal.invariant-loop-role
invariant-loop-role l = l.x ≡ moves_in l.kind l.role
