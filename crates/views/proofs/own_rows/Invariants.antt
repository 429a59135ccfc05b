-- `own_rows` meets its contract. The rows of the views below v are filled.
use Rattle.std.proofs.Common.{◌≡◌, ℕ, ◌<◌, [], length, get_or}
use Rattle.views.specs.Reference.{row}
use Rattle.views.proofs.own_rows.Given as goal

abbrev pub invariant-loop-v : goal.invariant-loop-v
invariant-loop-v l = (length l.q ≡ 64) × ((k : ℕ) → k < l.v → get_or l.q k 0 ≡ row 64 [] k)
