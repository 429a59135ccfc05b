-- `mask_of` meets its contract. The set so far is that of the views below v.
use Rattle.std.proofs.Common.{ℕ, Bool, eqb, get_or, ap, ◌∙◌, arith}
use lib.Count.{ones}
use Rattle.facts.specs.Pack.{pack}
use Rattle.views.specs.Sheet.{mask_at}
use Rattle.views.proofs.mask_of.Goals as goal

pub returns : goal.returns
unfolding mask_at
returns c =
    let f : ℕ → Bool = λ u. eqb (ones (get_or c.args.q.now u 0)) c.args.c in
    c.loop-v.invariant ∙ ap (pack f) (omega arith)
