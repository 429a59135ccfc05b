-- `backward::Walk::walk_round`: the positions before place q of the queue are walked from.
use native.Mathlib.Omega.{arith}
use borrow.Author.Rules.{rules}
use Rattle.backward.proofs.Sizes.{sized_le}
use Rattle.backward.proofs.Loops.{passes_none, passes_more, passes_all, arrive_asks}
use Rattle.backward.proofs.Walk.walk_round.Goals as goal

pub loop-q-init : goal.loop-q-init
loop-q-init c = record { does = passes_none c.args.ground.now c.args.r c.args.lo _; same = search rules }

pub offset_bounds-self-q : goal.offset_bounds-self-q
offset_bounds-self-q c = omega (arith, c.args.ground.now.few, sized_le c.requires.2)

pub bounds-self-q : goal.bounds-self-q
bounds-self-q c = omega (arith, c.args.ground.now.few, sized_le c.requires.2)

pub walk_into-requires : goal.walk_into-requires
walk_into-requires c =
    arrive_asks c.args.ground.now c.args.r c.args.lo _ c.requires.0 _ c.requires.2 c.loop-q.q _ (search rules) (search rules) c.from-t.ensures c.loop-q.invariant.does

pub loop-q-preserved : goal.loop-q-preserved
loop-q-preserved c = record {
  does = passes_more c.args.ground.now c.args.r c.args.lo _ _ _ c.loop-q.q _ (search rules) c.loop-q.invariant.does c.from-t.ensures c.walk_into.ensures.does;
  same = search rules;
}

pub returns-clause-does : goal.returns-clause-does
returns-clause-does c = passes_all c.args.ground.now c.args.r c.args.lo _ _ c.loop-q.q _ (search rules) (search rules) c.loop-q.invariant.does
