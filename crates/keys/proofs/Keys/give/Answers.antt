-- `keys::Keys::give` meets its contract: after each turn the kinds below k have given.
use mathlib.Core.Path.{refl}
use native.Mathlib.Omega.{arith}
use borrow.Author.Rules.{rules}
use Prim.Native.Nat.{◌<◌}
use lib.ListN.{length}
use Rattle.keys.proofs.Laws.{at_low, given_none, given_on}
use Rattle.keys.proofs.Keys.give.Goals as goal

pub loop-k-init : goal.loop-k-init
loop-k-init c = (given_none _ _ _ _, c.requires.3)

pub loop-k-preserved : goal.loop-k-preserved
loop-k-preserved c = (given_on _ _ _ _ _ refl c.recall-at.ensures.0 c.loop-k.invariant.0, c.recall-at.ensures.1)

pub offset_bounds-gifts-at : goal.offset_bounds-gifts-at
offset_bounds-gifts-at c =
    let inside : c.recall-at.result < length c.args.gifts.now = omega (arith, at_low _ c.requires.0.tree c.recall-at.ensures.0, c.requires.2) in
    search rules

pub bounds-gifts-at : goal.bounds-gifts-at
bounds-gifts-at c = omega (arith, at_low _ c.requires.0.tree c.recall-at.ensures.0, c.requires.2)
