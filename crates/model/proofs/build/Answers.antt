-- `model::build` meets its contract: the codes are the sheet's, and the keys are filed from them.
use mathlib.Core.Path.{refl}
use native.Mathlib.Omega.{arith}
use Rattle.codes.proofs.Fits.{fits_sound}
use Rattle.keys.proofs.Homing.{memo_start}
use Rattle.offer.proofs.Laws.{file_asks}
use Rattle.model.proofs.build.Goals as goal

pub fill-requires : goal.fill-requires
fill-requires c =
    let (whole, studied, long) = c.requires in rw (c.of.ensures whole.within) (fits_sound _ whole.fits, whole.fits.few_rules, studied.masks_are)

pub file-requires : goal.file-requires
file-requires c =
    let asks = file_asks c.fill.ensures.compiled c.fill.ensures.sized in
    (omega (arith, c.from-next.ensures, asks.1), omega (arith, c.from-next.ensures, asks.2), c.new-keys.ensures.blank, refl, refl)

pub fill-requires-2-clause-memo : goal.fill-requires-2-clause-memo
fill-requires-2-clause-memo c = memo_start c.file.ensures c.new.ensures.asked c.new.ensures.places
