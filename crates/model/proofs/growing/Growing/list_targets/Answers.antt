-- `model::growing::Growing::list_targets` meets its contract. The invariant: the first j targets are entered, and their numbers listed.
use native.Mathlib.Omega.{arith}
use Rattle.std.proofs.Common.{rules}
use Rattle.model.proofs.Holding.{holds_clean}
use Rattle.model.proofs.Targets.{going_fits, going_more, going_over, going_all}
use Rattle.model.proofs.growing.Growing.list_targets.Goals as goal

pub enter-requires : goal.enter-requires
enter-requires c =
    let n = c.loop-j.invariant.going.numbered in record { holds = holds_clean n.holds; treed = n.treed }

pub returns-in_err-i-clause-listed : goal.returns-in_err-i-clause-listed
returns-in_err-i-clause-listed c =
    rw c.from_residual.ensures (going_over _ _ c.loop-j.invariant.going c.reach-to.ensures.0 c.loop-j-test.true c.in_err-i.ensures.entered)

pub overflow_cast-self : goal.overflow_cast-self
overflow_cast-self c =
    omega (arith, going_fits _ _ c.loop-j.invariant.going c.reach-to.ensures.0 c.loop-j-test.true c.in_ok-i.ensures.entered.0)

pub loop-j-preserved : goal.loop-j-preserved
loop-j-preserved c =
    let more = going_more _ _ c.loop-j.invariant.going c.reach-to.ensures.0 c.loop-j-test.true c.in_ok-i.ensures.entered c.enter.ensures.listed (omega (arith, c.requires.room)) in record {
      lent = search rules;
      rows = search rules;
      going = record { numbered = record { holds = more.0.holds; treed = more.0.treed }; successors_hold = more.1; listed = more.2 };
      memo = c.reach-to.ensures.1;
    }

pub returns-clause-listed : goal.returns-clause-listed
returns-clause-listed c =
    let all = going_all _ _ c.loop-j.invariant.going c.loop-j-test.false in
    (all.0, all.1, omega (arith, c.loop-j.invariant.going.listed, c.loop-j-test.false))
