-- `keys::Keys::file_slot` meets its contract: one slot more is filed.
use mathlib.Core.Path.{refl}
use native.Mathlib.Omega.{arith}
use Rattle.keys.proofs.Homing.{filing_room, filing_found, filing_on}
use Rattle.keys.proofs.Keys.file_slot.Goals as goal

pub house-requires : goal.house-requires
house-requires c =
    (filing_found c.requires.2 _ _ _, omega (arith, filing_room c.requires.2), c.requires.2.keys_long, omega (arith, c.requires.2.homes_long))

pub returns : goal.returns
returns c =
    filing_on c.requires.2 c.requires.1 refl c.kind_of-kind.ensures c.mask_of.ensures c.max-self.ensures c.key_of.ensures c.house.ensures
