-- `listing::text::Text::bytes` meets its contract: as many bytes as were read are written.
use Rattle.std.proofs.Common.{take}
use Rattle.listing.specs.Wrote.{Adds}
use Rattle.listing.proofs.text.Text.bytes.Given as goal

abbrev pub invariant-loop-byte : goal.invariant-loop-byte
invariant-loop-byte l = Adds l.fn.self (take l.byte-index l.bytes) l.self
