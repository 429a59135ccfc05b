-- `radix::fill_classes`: the classes of the first i positions are filled.
use native.Mathlib.Omega.{arith}
use mathlib.Core.Path.{◌≡◌, ap}
use Prim.Native.Nat.{ℕ, ◌+◌, ◌-◌, ◌*◌}
use lib.ListN.{take, drop}
use Rattle.radix.proofs.Filling.{classed_none, classed_more, position_asks}
use Rattle.radix.proofs.fill_classes.Goals as goal

pub loop-i-init : goal.loop-i-init
loop-i-init c = classed_none _ _ _ _

pub fill_position-requires : goal.fill_position-requires
fill_position-requires c =
    let args = c.args in
    let loop = c.loop-i in
    let four : 4 * loop.i + 4 - 4 * loop.i ≡ 4 = omega arith in
    position_asks args.starts.now args.counts.now args.mask args.classes.now args.n c.requires.0 c.requires.1 loop.i _ _ c.loop-i-test.true
    c.from-first.ensures c.from-last.ensures (omega (arith, c.type_inv.starts (loop.i + 1), c.from-last.ensures)) loop.classes _ loop.invariant (ap (λ (k : ℕ). take k (drop (4 * loop.i) args.counts.now)) four)

pub loop-i-preserved : goal.loop-i-preserved
loop-i-preserved c =
    let args = c.args in
    let loop = c.loop-i in
    let four : 4 * loop.i + 4 - 4 * loop.i ≡ 4 = omega arith in
    classed_more args.starts.now args.counts.now args.mask args.classes.now loop.i c.from-first.result c.from-last.result loop.classes
    c.fill_position.new.classes _ loop.invariant c.from-first.ensures c.from-last.ensures
    (omega (arith, c.requires.0.up loop.i c.loop-i-test.true)) (omega (arith, c.requires.0.within loop.i c.loop-i-test.true))
    (ap (λ (k : ℕ). take k (drop (4 * loop.i) args.counts.now)) four) c.fill_position.ensures
