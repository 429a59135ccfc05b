-- `marks::mark_future`: by the kind of future.
use Rattle.marks.specs.Coalition.{meets}
use Rattle.marks.proofs.Games.{timed_next, timed_always, timed_until, timed_eventually}
use Rattle.marks.proofs.mark_future.Goals as goal

pub returns-in-Next : goal.returns-in-Next
returns-in-Next c = timed_next (meets c.args.coalition) c.args.k c.args.marks.now _ c.args.future _ c.in-Next.is c.mark_next.ensures

pub returns-in-Always : goal.returns-in-Always
returns-in-Always c = timed_always (meets c.args.coalition) c.args.k c.args.marks.now _ c.args.future _ c.in-Always.is c.mark_spread.ensures.marks

pub returns-in-Eventually : goal.returns-in-Eventually
returns-in-Eventually c = timed_eventually (meets c.args.coalition) c.args.k c.args.marks.now _ c.args.future _ c.in-Eventually.is c.mark_spread-in-Eventually.ensures.marks

pub returns-in-Until : goal.returns-in-Until
returns-in-Until c = timed_until (meets c.args.coalition) c.args.k c.args.marks.now _ c.args.future _ _ c.in-Until.is c.mark_spread-in-Until.ensures.marks
