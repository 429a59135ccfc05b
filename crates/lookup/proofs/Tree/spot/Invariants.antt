-- `lookup::Tree::spot` meets its contract. The invariant: the way of x has come to link p, which leads to c.
use Rattle.lookup.proofs.Walking.{Walked, left}
use Rattle.lookup.proofs.Tree.spot.Given as goal

abbrev pub invariant-loop-c : goal.invariant-loop-c
invariant-loop-c l = Walked l.self.tests l.self.forks l.x l.d l.p l.c

abbrev pub decreases-loop-c : goal.decreases-loop-c
decreases-loop-c l = left l.self.tests l.c
