-- `radix::grow`: the entries before e are the repeated ones.
use native.Mathlib.Omega.{arith}
use Rattle.radix.proofs.Filling.{filled_more}
use Rattle.radix.proofs.Growing.{grow_start, grow_turn}
use Rattle.radix.proofs.grow.Goals as goal

pub loop-e-init : goal.loop-e-init
loop-e-init c = grow_start c.args.w c.args.add c.args.classes.now

pub overflow_add-classes : goal.overflow_add-classes
overflow_add-classes c =
    let loop = c.loop-e in
    omega (
      arith,
      c.requires.fits loop.e c.loop-e-test.true,
      grow_turn c.args.w c.args.add c.args.classes.now loop.e loop.classes c.requires.some loop.auto.e c.loop-e-test.true loop.invariant,
    )

pub loop-e-preserved : goal.loop-e-preserved
loop-e-preserved c =
    let loop = c.loop-e in
    filled_more _ c.args.classes.now loop.e _ loop.classes loop.invariant
    (grow_turn c.args.w c.args.add c.args.classes.now loop.e loop.classes c.requires.some loop.auto.e c.loop-e-test.true loop.invariant)
