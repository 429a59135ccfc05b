-- `gather` meets its contract. From the present set, the rules that are left give what all rules give.
use Rattle.std.proofs.Common.{◌≡◌}
use Rattle.sheet.specs.Records.{rules_of}
use Rattle.rules.specs.Rules.{gathered}
use Rattle.rules.proofs.gather.Given as goal

abbrev pub invariant-loop-rule : goal.invariant-loop-rule
invariant-loop-rule l = gathered l.q l.k (rules_of l.rule-iterator) l.x.bits ≡ gathered l.q l.k (rules_of l.fn.rules) l.fn.start.bits
