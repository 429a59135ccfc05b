-- `backward::Ground::need_at`: one where that is enough, and else the classes that have a joint move.
use native.Mathlib.Omega.{arith}
use Rattle.backward.proofs.Opening.{members_rise, members_end, some_few, some_waits}
use Rattle.backward.proofs.ground.Ground.need_at.Goals as goal

pub offset_bounds-left-places : goal.offset_bounds-left-places
offset_bounds-left-places c =
    let (first, last, small) = c.places.ensures in
    omega (arith, members_rise c.args.self.now c.args.left.now c.args.i c.requires.0 c.requires.1 _ _ first last)

pub slice_bounds-members-end : goal.slice_bounds-members-end
slice_bounds-members-end c =
    let (first, last, small) = c.places.ensures in
    members_end c.args.self.now c.args.left.now c.args.i c.requires.0 c.requires.1 _ _ first last

pub overflow_cast-result : goal.overflow_cast-result
overflow_cast-result c =
    let (first, last, small) = c.places.ensures in
    omega (arith, some_few c.args.self.now c.args.left.now c.args.i c.requires.0 c.requires.1 _ _ first last _ c.count_some.ensures)

pub returns : goal.returns
returns c =
    let (first, last, small) = c.places.ensures in
    some_waits c.args.self.now c.args.left.now c.args.i c.requires.0 c.requires.1 _ _ first last c.if-self.false _ c.count_some.ensures
