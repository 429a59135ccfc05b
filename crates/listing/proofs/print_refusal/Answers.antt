-- `listing::print_refusal` meets its contract: three fields, one after another.
use Rattle.std.proofs.Common.{rules}
use native.Mathlib.Omega.{arith}
use Rattle.listing.proofs.Overlay.{adds_two, adds_same, prints, stands}
use Rattle.listing.proofs.Lines.{refusal_is}
use Rattle.listing.proofs.Bound.{refusal_few}
use Rattle.listing.proofs.print_refusal.Goals as goal

pub returns : goal.returns
returns c =
    let a = c.args in
    let w = adds_same (refusal_is _ _) (adds_two (adds_two c.bytes.ensures c.number.ensures) c.number-2.ensures) in
    let p = prints c.new-text.ensures.now c.new-text.ensures.at w (search rules) in
    record {
      prints = p;
      stands = λ room. stands (omega (arith, refusal_few a.number a.place (omega arith) (omega arith))) p;
      prefix_len = search rules;
    }
