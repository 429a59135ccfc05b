-- `lookup::Tree::seek` meets its contract: the entry where the way of x ends is x, or no entry is.
use native.Mathlib.Omega.{arith}
use mathlib.Core.Path.{sym}
use Rattle.lookup.proofs.Ways.{lands_in}
use Rattle.lookup.proofs.Seeking.{hit, missed}
use Rattle.lookup.proofs.Tree.seek.Goals as goal

pub offset_bounds-table-i : goal.offset_bounds-table-i
offset_bounds-table-i c =
    omega (arith, c.requires.forked.room, lands_in c.requires.forked c.land-i.ensures)

pub bounds-table-i : goal.bounds-table-i
bounds-table-i c =
    omega (arith, c.requires.inside, lands_in c.requires.forked c.land-i.ensures)

pub returns-then-table-i : goal.returns-then-table-i
returns-then-table-i c =
    (lands_in c.requires.forked c.land-i.ensures, sym (hit c.requires c.land-i.ensures c.if-table-i.true))

pub returns-else-table-i : goal.returns-else-table-i
returns-else-table-i c =
    sym (missed c.requires c.land-i.ensures c.if-table-i.false)
