-- `sheet::rule_fits` meets its contract: the head fits, and then every literal.
use Rattle.std.proofs.Common.{rules, tests, refl, sym, ap, ◌∙◌, Bool}
use mathlib.Core.Bool.{◌&&◌}
use Rattle.std.specs.List.{list_all}
use Rattle.std.proofs.lemmas.Iterator.Search.{all_from_yields_List}
use Rattle.std.proofs.lemmas.Iterator.Consumers.{YieldsList-from_first}
use Rattle.sheet.specs.Fields.{literal_fits, rule_fits}
use Rattle.sheet.specs.Records.{literals}
use Rattle.sheet.proofs.rule_fits.Goals as goal

pub returns-then-head_fits : goal.returns-then-head_fits
unfolding rule_fits
returns-then-head_fits c =
    all_from_yields_List (literal_fits c.args.z) _ _ c.all.result c.all.ensures.ran (YieldsList-from_first (λ x. x) literals _ refl) (λ x b q k. search (rules, tests))
    ∙ ap (λ (b : Bool). b && list_all (literal_fits c.args.z) (literals c.args.rule.body)) (sym c.if-head_fits.true ∙ c.head_fits.ensures)
