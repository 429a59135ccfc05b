-- `round` meets its contract. The rows so far have taken in row k, which was read before.
use Rattle.std.proofs.Common.{refl, ap, ◌∙◌, get_or, set, arith}
use Rattle.views.specs.Reference.{join}
use Rattle.views.proofs.Laws.{map_turn}
use Rattle.views.proofs.round.Goals as goal

pub loop-r-preserved : goal.loop-r-preserved
loop-r-preserved c =
    let p = c.loop-r in
    let q = c.args.q.now in
    (refl, ap (set p.q p.r-index) c.joined.ensures ∙ map_turn (join c.args.k (get_or q c.args.k 0)) q p.q p.r-index (omega arith) p.invariant.1)
