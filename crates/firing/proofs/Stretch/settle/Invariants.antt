-- `settle` meets its contract. From the present set, what is left of the 64 sweeps gives what all of them give.
use Rattle.firing.specs.Firing.{settled_by}
use Rattle.firing.proofs.Laws.{Settling}
use Rattle.firing.proofs.Stretch.settle.Given as goal

abbrev pub invariant-loop-turn : goal.invariant-loop-turn
invariant-loop-turn l = Settling l.self.code.now l.facts l.self.from l.self.to (settled_by l.self.code.now l.facts l.self.from l.self.to l.start) l.turn l.x
