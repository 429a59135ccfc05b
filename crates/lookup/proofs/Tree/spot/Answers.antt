-- `lookup::Tree::spot` meets its contract. The invariant: the way of x has come to link p, which leads to c.
use native.Mathlib.Omega.{arith}
use Rattle.lookup.proofs.Ways.{spotted_in}
use Rattle.lookup.proofs.Walking.{walk_start, walk_over, node_below, walk_high, walk_next, walk_less}
use Rattle.lookup.proofs.Tree.spot.Goals as goal

pub loop-c-init : goal.loop-c-init
loop-c-init c = walk_start _ _ _ _ _ c.from-c.ensures

pub bounds-self-k : goal.bounds-self-k
bounds-self-k c =
    omega (arith, c.requires.1.room, node_below c.requires.1 c.loop-c.invariant c.loop-c-test.true)

pub returns-then-d-f-clause-spotted : goal.returns-then-d-f-clause-spotted
returns-then-d-f-clause-spotted c =
    walk_high c.requires.1 c.loop-c.invariant c.loop-c-test.true c.if-d-f.true

pub fork_at-p-requires : goal.fork_at-p-requires
fork_at-p-requires c =
    omega (arith, c.requires.1.room, node_below c.requires.1 c.loop-c.invariant c.loop-c-test.true)

pub bounds-self-p-in-loop-c : goal.bounds-self-p-in-loop-c
bounds-self-p-in-loop-c c =
    omega (arith, c.requires.1.room, node_below c.requires.1 c.loop-c.invariant c.loop-c-test.true, c.fork_at-p.ensures)

pub loop-c-smaller : goal.loop-c-smaller
loop-c-smaller c =
    walk_less c.requires.1 c.loop-c.invariant c.loop-c-test.true c.if-d-f.false _ _ c.fork_at-p.ensures c.from-c-in-loop-c.ensures

pub loop-c-preserved : goal.loop-c-preserved
loop-c-preserved c =
    walk_next c.requires.1 c.loop-c.invariant c.loop-c-test.true c.if-d-f.false _ _ c.fork_at-p.ensures c.from-c-in-loop-c.ensures

pub returns-clause-spotted : goal.returns-clause-spotted
returns-clause-spotted c = walk_over c.requires.1 c.loop-c.invariant c.loop-c-test.false

pub returns-clause-inside : goal.returns-clause-inside
returns-clause-inside c =
    omega (arith, c.requires.1.room, spotted_in c.requires.1 (walk_over c.requires.1 c.loop-c.invariant c.loop-c-test.false))
