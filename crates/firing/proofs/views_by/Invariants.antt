-- `views_by` meets its contract. From the present set, the levels that are left give what all levels give.
use Rattle.firing.specs.Firing.{views_by}
use Rattle.firing.proofs.Laws.{Levelling}
use Rattle.firing.proofs.views_by.Given as goal

abbrev pub invariant-loop-i : goal.invariant-loop-i
invariant-loop-i l = Levelling l.codes.code l.codes.ends l.facts (views_by l.codes.code l.codes.ends l.facts) l.i l.x
