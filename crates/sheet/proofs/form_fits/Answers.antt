-- `sheet::form_fits` meets its contract: under another head than INIT and NEXT all literals are plain.
use Rattle.std.proofs.Common.{rules, tests, refl, ◌≡◌, ◌∙◌, arith}
use Rattle.std.proofs.lemmas.Iterator.Search.{all_from_yields_List}
use Rattle.std.proofs.lemmas.Iterator.Consumers.{YieldsList-from_first}
use Rattle.sheet.specs.Fields.{plain, form_fits}
use borrow.Author.Tests.{ne_eqb}
use Rattle.sheet.specs.Records.{literals}
use Rattle.sheet.proofs.form_fits.Goals as goal

pub returns-in_default : goal.returns-in_default
unfolding form_fits
returns-in_default c =
    let one : c.args.rule.head.kind ≡ 1 → ⊥ = λ e. omega arith in
    let two : c.args.rule.head.kind ≡ 2 → ⊥ = λ e. omega arith in
    all_from_yields_List plain _ _ _ c.all.ensures.ran (YieldsList-from_first (λ x. x) literals _ refl) (λ x b q k. search (rules, tests))
    ∙ simp (ne_eqb _ _ one, ne_eqb _ _ two)
