-- `keys::Keys::file` meets its contract: nothing is filed yet.
use mathlib.Core.Path.{refl, ap}
use lib.ListN.{set}
use Rattle.keys.proofs.Homing.{filing_start}
use Rattle.keys.proofs.Keys.file.Goals as goal

pub loop-c-init : goal.loop-c-init
loop-c-init c =
    let b = c.requires.2 in
    filing_start _ c.requires.3 c.requires.4 b.tests b.forks (ap (λ l. set l 0 1) b.hints) b.masks refl refl
