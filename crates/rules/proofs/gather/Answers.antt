-- `gather` meets its contract. A rule of another kind adds nothing.
use Rattle.std.proofs.Common.{sym, ap, ◌∙◌}
use native.Mathlib.Omega.{arith}
use Rattle.sheet.specs.Records.{rule_of, rules_of}
use Rattle.rules.specs.Rules.{over, added, gathered}
use Rattle.rules.proofs.Laws.{other_kind}
use Rattle.rules.proofs.gather.Goals as goal

pub loop-rule-preserved : goal.loop-rule-preserved
unfolding gathered
loop-rule-preserved c =
    let same = other_kind c.args.q c.args.k (rule_of c.in-Some.rule) c.loop-rule.x.bits (λ e. omega (arith, e, c.kind_of-kind.ensures, c.if-rule-kind.false)) in
    ap (over (added c.args.q c.args.k) (rules_of c.next.new.self)) (sym same) ∙ (rw c.in-Some.ensures.steps at c.loop-rule.invariant)
