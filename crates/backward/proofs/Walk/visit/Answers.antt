-- `backward::Walk::visit`: the class goes down, then the position, then the position takes its count.
use native.Mathlib.Omega.{arith}
use borrow.Author.Rules.{rules}
use Rattle.backward.specs.Ground.{own, class_of, may, held}
use Prim.Native.Nat.{◌<◌}
use lib.ListN.{length}
use Rattle.backward.proofs.Lines.{kind_lt}
use Rattle.backward.proofs.Steps.{place_low, sized_lowered, visit_waits, visit_lacks, visit_enters}
use Rattle.backward.proofs.Walk.visit.Goals as goal
use Rattle.backward.proofs.Walk.visit.Goals.{else-lower-via-then-lower+else-lower-2, else-lower-via-else-lower}

pub offset_bounds-self-c : goal.offset_bounds-self-c
offset_bounds-self-c c =
    let g = c.args.ground.now in
    let z : c.counter-c.result < length c.args.self.now.left.now = omega (arith, c.counter-c.ensures, kind_lt g.board.tables g.leads c.args.p c.requires.1, c.requires.2.lefts) in
    search rules

pub bounds-self-c : goal.bounds-self-c
bounds-self-c c =
    let g = c.args.ground.now in
    omega (arith, c.counter-c.ensures, kind_lt g.board.tables g.leads c.args.p c.requires.1, c.requires.2.lefts)

pub bounds-self-i : goal.bounds-self-i
bounds-self-i c = let g = c.args.ground.now in omega (arith, g.few, place_low g.board.tables g.leads c.args.p _ c.requires.1 c.from-i.ensures)

pub enter-requires : goal.enter-requires
enter-requires c =
    let g = c.args.ground.now in
    (place_low g.board.tables g.leads c.args.p _ c.requires.1 c.from-i.ensures, c.requires.0, sized_lowered c.requires.2 _ _ _ _)

pub returns-then-lower-2-clause-does : goal.returns-then-lower-2-clause-does
returns-then-lower-2-clause-does c =
    let g = c.args.ground.now in
    visit_enters (own g) (class_of g) g.want (may g) c.args.r c.args.p _ _ c.counter-c.ensures c.from-i.ensures (held c.args.self.now) _ _ c.lower.ensures _ _ c.lower-then-lower.ensures _ c.if-lower.true c.if-lower-2.true c.enter.ensures.does

pub returns-else-lower-clause-does : goal.returns-else-lower-clause-does
returns-else-lower-clause-does c =
    let g = c.args.ground.now in
    elim c.else-lower.branch [
      | else-lower-via-then-lower+else-lower-2 w ↦
          rw w.self-is (visit_lacks (own g) (class_of g) g.want (may g) c.args.r c.args.p _ _ c.counter-c.ensures c.from-i.ensures (held c.args.self.now) _ _ c.lower.ensures _ _ w.lower-then-lower.ensures w.if-lower.true w.if-lower-2.false)
      | else-lower-via-else-lower w ↦
          rw w.self-is (visit_waits (own g) (class_of g) g.want (may g) c.args.r c.args.p _ _ c.counter-c.ensures c.from-i.ensures (held c.args.self.now) _ _ c.lower.ensures w.if-lower.false)
    ]
