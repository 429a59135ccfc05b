-- `marks::mark_last`: the choices are those of the counts that came back.
use mathlib.Core.List.{◌++◌}
use mathlib.Core.Path.{refl, ap, ◌∙◌}
use lib.ListN.{drop}
use Rattle.marks.specs.Coalition.{meets}
use Rattle.marks.proofs.Games.{noted_eventually, counts_eventually, choices_eventually}
use Rattle.marks.proofs.mark_last.Goals as goal

pub returns-clause-rounds : goal.returns-clause-rounds
returns-clause-rounds c =
    let now = c.args.answer.now in
    c.mark_spread.ensures.counts ∙ ap (λ x. x ++ drop c.args.coalition.arena.joints.n now.rounds.now) (counts_eventually (meets c.args.coalition) now.marks.now c.args.a)

pub returns-clause-choices : goal.returns-clause-choices
returns-clause-choices c =
    let now = c.args.answer.now in
    c.fill_choices.ensures
    ∙ ap (λ x. x ++ drop c.args.coalition.arena.joints.n now.choices.now)
    (choices_eventually (meets c.args.coalition) now.marks.now now.rounds.now _ _ c.args.a c.mark_spread.ensures.counts refl)

pub returns-clause-marks : goal.returns-clause-marks
returns-clause-marks c = noted_eventually (meets c.args.coalition) c.args.k c.args.answer.now.marks.now _ c.args.a c.mark_spread.ensures.marks
