-- `closed_at` meets its contract. The rules that are left decide.
use Rattle.std.proofs.Common.{◌≡◌}
use Rattle.sheet.specs.Records.{rules_of}
use Rattle.views.specs.Meaning.{view_rules}
use Rattle.views.specs.Reference.{any, on_chain}
use Rattle.views.proofs.closed_at.Given as goal

abbrev pub invariant-loop-rule : goal.invariant-loop-rule
invariant-loop-rule l = any (on_chain l.q l.v) (view_rules (rules_of l.rule-iterator)) ≡ any (on_chain l.q l.v) (view_rules (rules_of l.rules))
