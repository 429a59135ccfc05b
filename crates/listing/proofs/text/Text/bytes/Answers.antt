-- `listing::text::Text::bytes` meets its contract: as many bytes as were read are written.
use Rattle.listing.proofs.Overlay.{adds_none, adds_more, adds_all}
use Rattle.listing.proofs.text.Text.bytes.Goals as goal

pub loop-byte-init : goal.loop-byte-init
loop-byte-init c = adds_none _ c.args.self.now.within

pub loop-byte-preserved : goal.loop-byte-preserved
loop-byte-preserved c = adds_more _ _ c.loop-byte-test.true c.loop-byte.invariant c.byte.ensures

pub returns : goal.returns
returns c = adds_all _ c.loop-byte-test.false c.loop-byte.invariant
