-- `rows_of` meets its contract. From the present rows, the rules that are left give what all rules give.
use Rattle.std.proofs.Common.{◌≡◌, ℕ, ◌<◌, length, get_or}
use Rattle.sheet.specs.Records.{rules_of}
use Rattle.rules.specs.Rules.{over}
use Rattle.views.specs.Meaning.{view_rules}
use Rattle.views.specs.Reference.{row_of, row}
use Rattle.views.specs.Sheet.{viewed}
use Rattle.views.proofs.rows_of.Given as goal

abbrev pub invariant-loop-rule : goal.invariant-loop-rule
invariant-loop-rule l = (length l.q ≡ 64) × ((v : ℕ) → v < 64 → over (viewed (row_of 64 v)) (rules_of l.rule-iterator) (get_or l.q v 0) ≡ row 64 (view_rules (rules_of l.fn.rules)) v)
