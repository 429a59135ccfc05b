-- `listing::text::Text::number` meets its contract: `io::decimal` writes the same digits.
use Rattle.listing.proofs.Overlay.{adds_two, adds_same}
use Rattle.listing.proofs.Digits.{text_is}
use Rattle.listing.proofs.text.Text.number.Goals as goal

pub returns : goal.returns
returns c =
    let number = c.decimal-k.ensures in
    adds_two (adds_same (text_is _ _ _ number.len number.digits) c.bytes.ensures) c.byte.ensures
