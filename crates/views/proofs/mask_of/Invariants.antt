-- `mask_of` meets its contract. The set so far is that of the views below v.
use Rattle.std.proofs.Common.{◌≡◌, get_or, eqb}
use lib.Count.{ones}
use Rattle.facts.specs.Pack.{pack}
use Rattle.views.proofs.mask_of.Given as goal

abbrev pub invariant-loop-v : goal.invariant-loop-v
invariant-loop-v l = l.x.bits ≡ pack (λ u. eqb (ones (get_or l.q u 0)) l.c) l.v
