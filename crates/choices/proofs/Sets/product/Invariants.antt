-- `Sets::product` meets its contract: after i roles the number is the product of their counts.
use Rattle.std.proofs.Common.{◌≡◌, take}
use Rattle.choices.specs.Moves.{total}
use Rattle.choices.proofs.Sets.product.Given as goal

abbrev pub invariant-loop-set : goal.invariant-loop-set
invariant-loop-set l = l.n ≡ total (take l.set-index l.self.sets.now)
