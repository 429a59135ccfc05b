-- `listing::print` meets its contract: behind the first line stand the lines of the first i states.
use Rattle.std.proofs.Common.{rules, ◌≡◌, add-one, subst, ℕ, length, ◌≤◌, ◌*◌}
use native.Mathlib.Omega.{arith}
use Rattle.listing.specs.Listing.{tables_in, state_lines}
use Rattle.listing.proofs.Overlay.{adds_none, adds_two, adds_same, prints, stands}
use Rattle.listing.proofs.Lines.{lines_more, listing_is}
use Rattle.listing.proofs.Bound.{lines_few, listing_few}
use Rattle.listing.proofs.print.Goals as goal

pub loop-i-init : goal.loop-i-init
unfolding state_lines
loop-i-init c = record { adds = adds_none _ c.put_first.new.text.within; short = λ few. omega arith }

pub loop-i-preserved : goal.loop-i-preserved
loop-i-preserved c = record {
  adds = adds_same (lines_more _ _) (adds_two c.loop-i.invariant.adds c.put_state.ensures.adds);
  short = λ few. rw add-one (lines_few _ _ _ (c.loop-i.invariant.short few) (c.put_state.ensures.short (omega arith)));
}

pub returns : goal.returns
returns c =
    let a = c.args in
    let t = tables_in a.shown in
    let all : c.loop-i.i ≡ a.n = omega arith in
    let moves = c.entry.ensures 0 (λ d e. e) in
    let w = adds_same (listing_is t a.n _ a.verdict _ moves all) (adds_two c.put_first.ensures c.loop-i.invariant.adds) in
    let p = prints c.new-text.ensures.now c.new-text.ensures.at w (search rules) in
    record {
      prints = p;
      stands = λ few room.
          let lines = subst (λ (i : ℕ). length (state_lines t i) ≤ i * 46) all (c.loop-i.invariant.short few) in
          stands (omega (arith, listing_few 5 t a.n a.verdict (omega arith) (omega arith) (omega (arith, moves)) lines)) p;
      prefix_len = search rules;
    }
