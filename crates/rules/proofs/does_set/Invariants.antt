-- `does_set` meets its contract. From the present set, the rules that are left give what all rules give.
use Rattle.std.proofs.Common.{◌≡◌}
use Rattle.sheet.specs.Records.{rules_of}
use Rattle.rules.specs.Rules.{does_set}
use Rattle.rules.proofs.does_set.Given as goal

abbrev pub invariant-loop-rule : goal.invariant-loop-rule
invariant-loop-rule l = does_set l.role (rules_of l.rule-iterator) l.x.bits ≡ does_set l.role (rules_of l.fn.rules) 0
