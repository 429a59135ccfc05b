-- `choices::nth` meets its contract: where nothing is left out the k-th member is k, and else what is left to count of the rest of the set is the whole answer.
use Rattle.std.proofs.Common.{sym, ap, ◌∙◌, ◌+◌, slice_get}
use borrow.Author.Tests.{eq-eqb, ne_eqb}
use Rattle.choices.specs.Nth.{rest, pass, skip}
use Rattle.choices.proofs.nth.Goals as goal
use Rattle.choices.proofs.nth.Goals.{then-set-i-eq1+else-left-eq0, else-set-i-eq1}

pub loop-i-preserved : goal.loop-i-preserved
loop-i-preserved c =
    let l = c.loop-i in
    let n = c.args.set in
    let t = c.loop-i-test.true in
    l.invariant
    ∙ elim c.if-set-i-eq1.branch [
      | then-set-i-eq1+else-left-eq0 w ↦ pass n l.i t l.left (eq-eqb _ _ w.if-set-i-eq1.true) w.if-left-eq0.false ∙ ap (slice_get (rest n (l.i + 1))) (sym w.left-is)
      | else-set-i-eq1 w ↦ skip n l.i t l.left (ne_eqb _ _ w.if-set-i-eq1.false) ∙ ap (slice_get (rest n (l.i + 1))) (sym w.left-is)
    ]
