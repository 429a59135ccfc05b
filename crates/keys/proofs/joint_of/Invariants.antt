-- `keys::joint_of` meets its contract: after each turn the roles below `role` have made their moves.
use mathlib.Core.Path.{◌≡◌}
use Rattle.keys.proofs.Laws.{made_below}
use Rattle.keys.proofs.joint_of.Given as goal

abbrev pub invariant-loop-role : goal.invariant-loop-role
invariant-loop-role l = l.x ≡ made_below l.fn.moves l.role
