-- `radix::fill_position`: roles r and on have joined.
use native.Mathlib.Omega.{arith}
use mathlib.Core.Path.{◌≡◌, ap, sym, ◌∙◌}
use Prim.Native.Nat.{ℕ, ◌*◌}
use lib.ListN.{get_or, length-take}
use Rattle.facts.specs.Bits.{has}
use Rattle.radix.specs.Classes.{row, rep, class_of, filled}
use Rattle.radix.proofs.Growing.{joined_none, joined_low, joined_all, turn_in, turn_asks, turn_gives}
use Rattle.radix.proofs.fill_position.Goals as goal

pub loop-r-init : goal.loop-r-init
loop-r-init c = joined_none (row c.args.counts.now 0) c.args.mask c.args.classes.now

pub rise-add-requires : goal.rise-add-requires
rise-add-requires c =
    let loop = c.loop-r in
    let low = joined_low (row c.args.counts.now 0) c.args.mask c.args.classes.now loop.r loop.w loop.classes (let z = c.requires in omega arith) loop.invariant in
    (omega (arith, loop.auto.r), omega (arith, c.requires))

pub overflow_mul-end : goal.overflow_mul-end
overflow_mul-end c =
    let args = c.args in
    let pre = c.requires in
    let loop = c.loop-r in
    let within = turn_in args.counts.now args.mask args.classes.now pre.1 pre.2 pre.3 loop.r loop.w c.from-in-loop-r.result loop.classes c.loop-r-test.true loop.auto.r
    loop.invariant (c.from-in-loop-r.ensures ∙ ap (λ (y : ℕ). get_or args.counts.now y 0) c.from.ensures) in
    omega (arith, pre.3)

pub slice_bounds-grow-end : goal.slice_bounds-grow-end
slice_bounds-grow-end c =
    let args = c.args in
    let pre = c.requires in
    let loop = c.loop-r in
    (turn_in args.counts.now args.mask args.classes.now pre.1 pre.2 pre.3 loop.r loop.w c.from-in-loop-r.result loop.classes c.loop-r-test.true loop.auto.r
    loop.invariant (c.from-in-loop-r.ensures ∙ ap (λ (y : ℕ). get_or args.counts.now y 0) c.from.ensures)).1

pub slice_bounds-grow-end-in-loop-r : goal.slice_bounds-grow-end-in-loop-r
slice_bounds-grow-end-in-loop-r c =
    let args = c.args in
    let pre = c.requires in
    let loop = c.loop-r in
    let within = turn_in args.counts.now args.mask args.classes.now pre.1 pre.2 pre.3 loop.r loop.w c.from-in-loop-r.result loop.classes c.loop-r-test.true loop.auto.r
    loop.invariant (c.from-in-loop-r.ensures ∙ ap (λ (y : ℕ). get_or args.counts.now y 0) c.from.ensures) in
    omega (arith, length-take (c.from-in-loop-r.result * loop.w) loop.classes)

pub grow-requires : goal.grow-requires
grow-requires c =
    let args = c.args in
    let pre = c.requires in
    let loop = c.loop-r in
    turn_asks args.counts.now args.mask args.classes.now pre.1 pre.2 pre.3 loop.r loop.w c.from-in-loop-r.result loop.classes c.loop-r-test.true loop.auto.r
    loop.invariant (c.from-in-loop-r.ensures ∙ ap (λ (y : ℕ). get_or args.counts.now y 0) c.from.ensures) c.rise-add.result c.rise-add.ensures

pub loop-r-preserved : goal.loop-r-preserved
loop-r-preserved c =
    let args = c.args in
    let pre = c.requires in
    let loop = c.loop-r in
    turn_gives args.counts.now args.mask args.classes.now pre.1 pre.2 pre.3 loop.r loop.w c.from-in-loop-r.result loop.classes c.loop-r-test.true loop.auto.r
    loop.invariant (c.from-in-loop-r.ensures ∙ ap (λ (y : ℕ). get_or args.counts.now y 0) c.from.ensures) c.rise-add.result c.rise-add.ensures
    c.grow.new.classes c.grow.ensures

pub returns : goal.returns
unfolding class_of
returns c =
    let args = c.args in
    let loop = c.loop-r in
    let z : loop.r ≡ 0 = omega arith in
    joined_all (row args.counts.now 0) args.mask args.classes.now loop.w loop.classes (rw z at loop.invariant)
    ∙ ap (filled (rep (row args.counts.now 0) (has args.mask)) args.classes.now) (sym c.requires.1)
