-- `engine::play` meets its contract: the builder's answer, and then the question's, are the reference's.
use Rattle.std.proofs.Common.{refl, rules, ◌∙◌, ap}
use Rattle.std.proofs.lemmas.Result.{err_from_is_err_and}
use Rattle.engine.specs.Promise.{tables}
use Rattle.sheet.specs.Reading.{sheet_in}
use Rattle.position.specs.Position.{moves_of}
use Rattle.tables.specs.Lengths.{state_limit}
use Rattle.tables.proofs.Pad.{cleared}
use Rattle.offer.proofs.Right.{accepted_whole}
use Rattle.engine.proofs.Right.{lengths_are}
use Rattle.engine.proofs.Played.{sized, play_stops, play_accepts, asked}
use Rattle.engine.proofs.play.Goals as goal

pub build-requires : goal.build-requires
build-requires c =
    let a = c.args in
    let whole = accepted_whole a.s.now a.layout c.requires.reads in
    let long = lengths_are (tables a.states.now a.starts.now a.successors.now a.rounds.now a.choices.now a.marks.now) c.requires.long in (
      whole,
      record { masks_are = c.requires.levels; moves_are = c.moves_of-moves.ensures ∙ ap moves_of (c.of.ensures whole.within) },
      sized _ _ _ _ _ _ _ _ long (search rules) (search rules),
    )

pub returns-in_err-built : goal.returns-in_err-built
returns-in_err-built c =
    let a = c.args in
    let long = lengths_are (tables a.states.now a.starts.now a.successors.now a.rounds.now a.choices.now a.marks.now) c.requires.long in
    let whole = accepted_whole a.s.now a.layout c.requires.reads in
    let last = c.build.new in
    let p = err_from_is_err_and c.from_residual.result c.from_residual.ensures.1 in
    rw p.1
    (play_stops (sheet_in a.s.now a.layout) whole.fits _ _ p.2 _ _ _ last.counts last.views _ _ _ c.in_err-built.ensures
    (cleared state_limit a.rounds.now _ (c.fill.ensures.after (λ y e. e)) long.rounds)
    (cleared state_limit a.choices.now _ (c.fill-2.ensures.after (λ y e. e)) long.choices)
    (cleared state_limit a.marks.now _ (c.fill-3.ensures.after (λ y e. e)) long.marks))

pub answer-verdict-requires : goal.answer-verdict-requires
answer-verdict-requires c =
    let a = c.args in
    let long = lengths_are (tables a.states.now a.starts.now a.successors.now a.rounds.now a.choices.now a.marks.now) c.requires.long in
    let whole = accepted_whole a.s.now a.layout c.requires.reads in (
      asked (sheet_in a.s.now a.layout) whole.fits _ _ c.requires.reads refl _ _ _ _ _ _ _ c.in_ok-built.ensures,
      cleared state_limit a.marks.now _ (c.fill-3.ensures.after (λ y e. e)) long.marks,
      cleared state_limit a.rounds.now _ (c.fill.ensures.after (λ y e. e)) long.rounds,
      cleared state_limit a.choices.now _ (c.fill-2.ensures.after (λ y e. e)) long.choices,
    )

pub returns : goal.returns
returns c =
    let a = c.args in
    let whole = accepted_whole a.s.now a.layout c.requires.reads in
    play_accepts (sheet_in a.s.now a.layout) whole.fits _ _ _ _ _ _ _ _ _ _ _ c.in_ok-built.ensures c.answer-verdict.ensures
