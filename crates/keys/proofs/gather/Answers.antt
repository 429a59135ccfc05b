-- `keys::gather` meets its contract: no gift is left, and a slot is alive, or it is not.
use native.Mathlib.Omega.{arith}
use Rattle.keys.proofs.Laws.{gathered_start, gathered_on, gathered_same}
use Rattle.keys.proofs.gather.Goals as goal
use Rattle.keys.proofs.gather.Goals.{then-is_calm, else-is_calm}

pub loop-c-init : goal.loop-c-init
loop-c-init c =
    gathered_start _ _ _ _ _ _ (c.fill.ensures.after (λ y h. h)) c.requires.0.few c.requires.1

pub loop-c-preserved : goal.loop-c-preserved
loop-c-preserved c = elim c.if-is_calm.branch [
  | then-is_calm w ↦ rw w.gifts-is (gathered_on _ _ _ _ _ _ c.loop-c.invariant c.is_calm.ensures w.if-is_calm.true w.from-home.ensures
      (omega (arith, w.from-home.ensures, c.requires.0.homes_low _ c.loop-c-test.true, c.requires.0.few, c.loop-c.invariant.gifts_long)) w.member.ensures w.with_member.ensures)
  | else-is_calm w ↦ rw w.gifts-is (gathered_same _ _ _ _ _ _ c.loop-c.invariant c.is_calm.ensures w.if-is_calm.false)
]
