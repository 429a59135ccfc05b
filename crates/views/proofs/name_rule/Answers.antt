-- `name_rule` meets its contract: one row has the views that the rule names, and the others stay.
use Rattle.std.proofs.Common.{sym, ap, ◌∙◌, get_or, arith}
use Rattle.sheet.specs.Records.{rule_of}
use Rattle.views.specs.Reference.{row_of}
use Rattle.views.specs.Sheet.{viewed}
use Rattle.views.proofs.Laws.{row_other, row_set}
use Rattle.views.proofs.name_rule.Goals as goal

pub returns-then-v-lt-MOST_VIEWS : goal.returns-then-v-lt-MOST_VIEWS
returns-then-v-lt-MOST_VIEWS c = λ v h.
    rw (c.from-then-v-lt-MOST_VIEWS-2.ensures, c.from-then-v-lt-MOST_VIEWS.ensures) (row_set (rule_of c.args.rule) c.args.q.now v (omega arith) (omega (arith, c.if-v-lt-MOST_VIEWS.true))
    (c.rule_row.ensures ∙ ap (viewed (row_of 64 c.args.rule.head.a) (rule_of c.args.rule)) (c.from-row.ensures ∙ ap (λ i. get_or c.args.q.now i 0) c.from.ensures)))

pub returns-else-rule-eq-VIEW : goal.returns-else-rule-eq-VIEW
returns-else-rule-eq-VIEW c = λ v h.
    sym (row_other (rule_of c.args.rule) c.args.q.now v (λ k a. omega (arith, k, a, h, c.else-rule-eq-VIEW.either)))
