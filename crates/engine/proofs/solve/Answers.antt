-- `engine::solve` meets its contract: where it stops, its answer is the reference's, and so meets the promise.
use Rattle.std.proofs.Common.{sym, ◌∙◌, ap}
use Rattle.std.proofs.lemmas.Result.{err_from_is_err_and}
use Rattle.engine.specs.Solved.{lengths_right}
use Rattle.views.specs.Sheet.{answer, masks_of}
use Rattle.offer.proofs.Right.{accepted_whole}
use Rattle.engine.proofs.Right.{solves_unread, solves_unstratified, solves_played}
use Rattle.engine.proofs.solve.Goals as goal

pub returns-in_err-layout : goal.returns-in_err-layout
unfolding lengths_right
returns-in_err-layout c =
    let p = err_from_is_err_and c.from_residual.result c.from_residual.ensures.1 in
    rw (p.1, p.2) (solves_unread c.args.s.now _ (sym c.right_lengths.ensures ∙ c.if-not-right_lengths.false) _ _ (sym c.read.ensures ∙ c.in_err-layout.was))

pub returns-in_err-study : goal.returns-in_err-study
unfolding lengths_right
returns-in_err-study c =
    let y = c.in_ok-layout.layout in
    let reads = sym c.read.ensures ∙ c.in_ok-layout.was in
    let whole = accepted_whole c.args.s.now y reads in
    let p = err_from_is_err_and c.from_residual-in_err-study.result c.from_residual-in_err-study.ensures.1 in
    rw (p.1, p.2)
    (solves_unstratified c.args.s.now _ (sym c.right_lengths.ensures ∙ c.if-not-right_lengths.false) y reads _
    (sym (ap answer (c.of-rules.ensures whole.within)) ∙ sym c.study.ensures.place ∙ c.in_err-study.was))

pub play-requires-clause-long : goal.play-requires-clause-long
unfolding lengths_right
play-requires-clause-long c = sym c.right_lengths.ensures ∙ c.if-not-right_lengths.false

pub play-requires-clause-stratified : goal.play-requires-clause-stratified
play-requires-clause-stratified c =
    let reads = sym c.read.ensures ∙ c.in_ok-layout.was in
    let whole = accepted_whole c.args.s.now c.in_ok-layout.layout reads in
    sym (ap answer (c.of-rules.ensures whole.within)) ∙ sym c.study.ensures.place ∙ c.in_ok-study.was

pub play-requires-clause-levels : goal.play-requires-clause-levels
play-requires-clause-levels c =
    let whole = accepted_whole c.args.s.now c.in_ok-layout.layout (sym c.read.ensures ∙ c.in_ok-layout.was) in
    c.study.ensures.levels ∙ ap masks_of (c.of-rules.ensures whole.within)

pub returns : goal.returns
unfolding lengths_right
returns c =
    let a = c.args in
    let y = c.in_ok-layout.layout in
    let reads = sym c.read.ensures ∙ c.in_ok-layout.was in
    let whole = accepted_whole a.s.now y reads in
    let stratified = sym (ap answer (c.of-rules.ensures whole.within)) ∙ sym c.study.ensures.place ∙ c.in_ok-study.was in
    solves_played a.s.now _ (sym c.right_lengths.ensures ∙ c.if-not-right_lengths.false) y reads _ _ stratified c.play.ensures
