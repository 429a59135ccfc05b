-- `body_holds` meets its contract. The literals that are left hold just where all do.
use Rattle.std.proofs.Common.{◌≡◌}
use Rattle.sheet.specs.Records.{literals}
use Rattle.rules.specs.Rules.{fires}
use Rattle.rules.proofs.body_holds.Given as goal

abbrev pub invariant-loop-literal : goal.invariant-loop-literal
invariant-loop-literal l = fires l.k (literals l.literal-iterator) ≡ fires l.k (literals l.fn.body)
