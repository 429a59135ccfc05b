-- `listing::put_state` meets its contract: six fields, one after another.
use Rattle.std.proofs.Common.{◌∙◌}
use native.Mathlib.Omega.{arith}
use Rattle.listing.proofs.Overlay.{adds_six, adds_same}
use Rattle.listing.specs.Listing.{tables_in}
use Rattle.listing.proofs.Lines.{state_is}
use Rattle.listing.proofs.Bound.{state_few}
use Rattle.listing.proofs.put_state.Goals as goal

pub returns : goal.returns
returns c =
    let t = tables_in c.args.shown in
    let facts = c.entry.ensures 0 (λ d e. e) in
    let rounds = c.entry-2.ensures 0 (λ d e. e) in
    let choice = c.entry-3.ensures 0 (λ d e. e) in
    record {
      adds =
          adds_same
          (state_is t _ _ _ _ _ _ facts (c.from.ensures ∙ c.moves_of.ensures) c.mark_of.ensures rounds choice)
          (adds_six c.number.ensures c.number-2.ensures c.number-3.ensures c.number-4.ensures c.shown.ensures c.shown-2.ensures);
      short = λ few.
          state_few 5 t _ (omega arith) few (omega (arith, facts)) (omega (arith, c.moves_of.ensures)) (omega (arith, rounds)) (omega (arith, choice));
    }
