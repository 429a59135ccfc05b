-- `backward::Walk::enqueue`: the position stands in the queue where its count is 0.
use mathlib.Core.Path.{◌≡◌, sym, ap, subst, ◌∙◌}
use native.Mathlib.Omega.{arith}
use borrow.Author.Rules.{rules}
use Prim.Native.Nat.{◌+◌}
use lib.ListN.{length, length-set}
use Rattle.backward.specs.Walk.{Walk, walk, Lined}
use Rattle.backward.specs.Ground.{pushed}
use Rattle.backward.proofs.Queue.{lined_le, lined_skip, lined_push}
use Rattle.backward.proofs.Walk.enqueue.Goals as goal
use Rattle.backward.proofs.Walk.enqueue.Goals.{then-self-i-eq0, else-self-i-eq0}

pub push-requires : goal.push-requires
push-requires c =
    let z = lined_le _ c.loop-i.invariant.lined in
    (omega (arith, c.requires.2), omega (arith, c.requires.1, c.loop-i.invariant.room), omega (arith, c.requires.2))

pub loop-i-preserved : goal.loop-i-preserved
loop-i-preserved c =
    let old = c.args.self.now in
    let loop = c.loop-i in
    let z = lined_le _ loop.invariant.lined in
    elim c.if-self-i-eq0.branch [
      | then-self-i-eq0 w ↦
          let lined : Walk → Type 0 = λ v. Lined (loop.i + 1) v.more v.rounds v.queue in
          let rest : Walk → Type 0 = λ v. v ≡ walk old.left.now old.need old.rounds.now v.queue v.more in
          rw w.self-is (record {
            lined = subst lined (sym w.push.ensures.does) (lined_push _ loop.invariant.lined w.if-self-i-eq0.true (omega (arith, c.requires.1, loop.invariant.room)));
            room = ap (λ (v : Walk). length v.queue) w.push.ensures.does ∙ length-set loop.self.queue _ _ ∙ loop.invariant.room;
            rest = subst rest (sym w.push.ensures.does) (ap (pushed loop.i) loop.invariant.rest);
            same = search rules;
          })
      | else-self-i-eq0 w ↦
          rw w.self-is (record { lined = lined_skip _ loop.invariant.lined w.if-self-i-eq0.false; room = loop.invariant.room; rest = loop.invariant.rest; same = search rules })
    ]
