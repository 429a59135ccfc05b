-- `lookup::Tree::enroll` meets its contract: the four stores make node n.
use native.Mathlib.Omega.{arith}
use Rattle.lookup.proofs.Ways.{lands_in}
use Rattle.lookup.proofs.Seeking.{another}
use Rattle.lookup.proofs.Enrolling.{enrolled}
use Rattle.lookup.proofs.Tree.enroll.Goals as goal

pub offset_bounds-table-land : goal.offset_bounds-table-land
offset_bounds-table-land c =
    omega (arith, c.requires.0.forked.room, lands_in c.requires.0.forked c.land.ensures)

pub bounds-table-land : goal.bounds-table-land
bounds-table-land c =
    omega (arith, c.requires.0.inside, lands_in c.requires.0.forked c.land.ensures)

pub first_difference-d-requires : goal.first_difference-d-requires
first_difference-d-requires c =
    another c.requires.0 c.land.ensures c.requires.1

pub returns : goal.returns
returns c =
    enrolled c.requires.0 c.requires.2 c.land.ensures c.first_difference-d.ensures c.spot-q.ensures.spotted _ _ c.fork_at-new.ensures c.fork_at-old.ensures
