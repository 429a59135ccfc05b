-- `listing::text::Text::byte` meets its contract: a byte behind the buffer's end is left out.
use Rattle.std.proofs.Common.{refl}
use Rattle.listing.proofs.Overlay.{wrote_byte, wrote_full}
use Rattle.listing.proofs.text.Text.byte.Goals as goal

pub returns-then-self : goal.returns-then-self
returns-then-self c = record { same = refl; wrote = wrote_byte _ _ _ c.if-self.true }

pub returns-else-self : goal.returns-else-self
returns-else-self c = record { same = refl; wrote = wrote_full _ _ _ c.args.self.now.within c.if-self.false }
