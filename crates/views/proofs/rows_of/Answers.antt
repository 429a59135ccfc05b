-- `rows_of` meets its contract. From the present rows, the rules that are left give what all rules give.
use Rattle.std.proofs.Common.{ℕ, ◌≡◌, ◌+◌, ap, ◌∙◌, arith}
use Rattle.sheet.specs.Records.{rules_of}
use Rattle.rules.specs.Rules.{over}
use Rattle.views.specs.Meaning.{view_rules}
use Rattle.views.specs.Reference.{row_of, row, rows}
use Rattle.views.specs.Sheet.{viewed}
use Rattle.views.proofs.Laws.{row_whole, listed_by}
use Rattle.views.proofs.rows_of.Goals as goal

pub loop-rule-init : goal.loop-rule-init
loop-rule-init c = (omega arith, λ v h. rw c.into_iter-rule-iterator.ensures.into_iter_gives (row_whole (rules_of c.args.rules) v (c.own_rows.ensures v h)))

pub loop-rule-preserved : goal.loop-rule-preserved
loop-rule-preserved c =
    let before = rw c.in-Some.ensures.steps at c.loop-rule.invariant in
    (omega (arith, before.0), λ v h. ap (over (viewed (row_of 64 v)) (rules_of c.next.new.self)) (c.name_rule.ensures v h) ∙ before.1 v h)

pub returns : goal.returns
unfolding rows
returns c =
    let f : ℕ → ℕ = row 64 (view_rules (rules_of c.args.rules)) in
    let after = rw c.in-None.ensures.steps.0 at c.loop-rule.invariant in
    listed_by f 64 0 c.loop-rule.q after.0 (λ i h. after.1 i h ∙ ap f (let e : i ≡ i + 0 = omega arith in e))
