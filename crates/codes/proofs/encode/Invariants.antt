-- `encode` meets its contract. From the present slot and table, the rules that are left lead to the last slot and the whole table.
use Rattle.sheet.specs.Records.{rules_of}
use Rattle.codes.specs.Laid.{after, encoded}
use Rattle.codes.proofs.Laying.{Laying}
use Rattle.codes.proofs.encode.Given as goal

abbrev pub invariant-loop-rule : goal.invariant-loop-rule
invariant-loop-rule l = Laying l.q (after l.q (rules_of l.fn.rules) l.from) (encoded l.q (rules_of l.fn.rules) l.initial.code l.from) (rules_of l.rule-iterator) l.c l.code
