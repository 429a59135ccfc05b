-- `keys::Keys::find` meets its contract: there is no hint, or it names the key, or the way of the key tells.
use Prim.Native.Nat.{◌<◌}
use mathlib.Core.Path.{refl, sym}
use native.Mathlib.Omega.{arith}
use Rattle.keys.proofs.Laws.{find_none, hint_low, find_here}
use Rattle.keys.proofs.Keys.find.Goals as goal

pub returns-in_err-at : goal.returns-in_err-at
returns-in_err-at c =
    rw c.from_residual.ensures (sym (find_none c.args.key c.requires.tree c.requires.hinted c.low_of.ensures refl (omega (arith, c.in_err-at.ensures, c.from-hint.ensures))))

pub returns-then-table-at : goal.returns-then-table-at
returns-then-table-at c =
    let low : c.in_ok-at.at < c.args.self.now.count = omega (arith, c.in_ok-at.ensures, c.from-hint.ensures, hint_low c.low_of.result c.requires.tree c.requires.hinted refl) in
    (low, sym (find_here _ c.requires.tree low c.if-table-at.true))
