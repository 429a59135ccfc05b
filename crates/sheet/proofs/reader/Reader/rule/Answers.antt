-- `sheet::reader::Reader::rule` meets its contract: one law a return, in document 01's order.
use Rattle.sheet.proofs.Steps.{cut_here, rules_full, literals_many, literals_cut, rule_refused, form_refused, rule_taken}
use Rattle.std.proofs.Common.{refl, sym, ◌∙◌, ⊎_elim}
use Rattle.sheet.specs.declared.Mark.TheVariants.{RU}
use Rattle.sheet.specs.Records.{literals}
use Rattle.sheet.proofs.reader.Reader.rule.Goals as goal

pub returns-in_default : goal.returns-in_default
returns-in_default c = cut_here _ _ _ c.left.ensures RU refl c.in_default.len_below

pub returns-then-p-ge-MOST_RULES : goal.returns-then-p-ge-MOST_RULES
returns-then-p-ge-MOST_RULES c = λ a.
    ⊎_elim
    (λ full. rules_full _ _ _ c.left.ensures _ c.from-n.ensures c.in-len6-up.len_at_least a full)
    (λ many. literals_many _ _ _ c.left.ensures _ c.from-n.ensures c.in-len6-up.len_at_least a many.0 many.1)
    c.then-p-ge-MOST_RULES.either

pub returns-then-rest-n : goal.returns-then-rest-n
returns-then-rest-n c = λ a. literals_cut _ _ _ c.left.ensures _ c.from-n.ensures c.in-len6-up.len_at_least a c.if-p-ge-MOST_RULES.false c.if-n-gt-MOST_LITERALS.false c.if-rest-n.true

pub returns-then-not-rule_fits : goal.returns-then-not-rule_fits
unfolding literals
returns-then-not-rule_fits c = λ a.
    rule_refused _ _ _ c.left.ensures _ c.from-n.ensures c.in-len6-up.len_at_least a c.if-p-ge-MOST_RULES.false c.if-n-gt-MOST_LITERALS.false
    _ c.split_at.ensures.front c.if-rest-n.false (sym c.rule_fits.ensures ∙ c.if-not-rule_fits.true)

pub returns-then-not-form_fits : goal.returns-then-not-form_fits
unfolding literals
returns-then-not-form_fits c = λ a.
    form_refused _ _ _ c.left.ensures _ c.from-n.ensures c.in-len6-up.len_at_least a c.if-p-ge-MOST_RULES.false c.if-n-gt-MOST_LITERALS.false
    _ c.split_at.ensures.front c.if-rest-n.false (sym c.rule_fits.ensures ∙ c.if-not-rule_fits.false) (sym c.form_fits.ensures ∙ c.if-not-form_fits.true)

pub returns : goal.returns
unfolding literals
returns c = λ a.
    rule_taken _ _ _ c.left.ensures _ c.from-n.ensures c.in-len6-up.len_at_least a c.if-p-ge-MOST_RULES.false c.if-n-gt-MOST_LITERALS.false
    _ c.split_at.ensures.front c.if-rest-n.false (sym c.rule_fits.ensures ∙ c.if-not-rule_fits.false) (sym c.form_fits.ensures ∙ c.if-not-form_fits.false)
