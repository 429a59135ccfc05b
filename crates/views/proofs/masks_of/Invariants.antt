-- `masks_of` meets its contract. The sets of the levels so far are filled.
use Rattle.std.proofs.Common.{◌≡◌, ℕ, ◌<◌, ◌+◌, length, get_or}
use Rattle.views.specs.Sheet.{mask_at}
use Rattle.views.proofs.masks_of.Given as goal

abbrev pub invariant-loop-i : goal.invariant-loop-i
invariant-loop-i l = (length l.t ≡ 64) × ((k : ℕ) → k < l.i → get_or l.t k 0 ≡ mask_at l.q (k + 1))
