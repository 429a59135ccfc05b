-- `model::growing::Growing::expand` meets its contract: the three refusals in their order, or one state more is expanded.
use native.Mathlib.Omega.{arith}
use mathlib.Core.Path.{refl, ap}
use Rattle.offer.proofs.Right.{few_roles}
use Rattle.offer.proofs.Laws.{gather_asks, gathered_serves}
use Rattle.model.proofs.Holding.{holds_length, holds_clean}
use Rattle.model.proofs.Answering.{too_many_moves, expanded}
use Rattle.model.proofs.growing.Growing.expand.Goals as goal

pub joint_count-m-requires : goal.joint_count-m-requires
joint_count-m-requires c = few_roles _ c.requires.ready.whole.fits

pub returns-then-self-m-clause-expanded : goal.returns-then-self-m-clause-expanded
returns-then-self-m-clause-expanded c =
    too_many_moves c.requires.ready c.requires.stage c.requires.inside refl c.offer_at-offer.ensures c.joint_count-m.ensures c.if-m-eq0.false c.if-self-m.true

pub note_counts-requires : goal.note_counts-requires
note_counts-requires c =
    (omega (arith, c.requires.inside, c.requires.stage.numbered.holds.room), holds_clean c.requires.stage.counts_hold)

pub bounds-self-k-2 : goal.bounds-self-k-2
bounds-self-k-2 c = omega (arith, holds_length c.requires.stage.views_hold, c.requires.inside, c.requires.stage.numbered.holds.room)

pub bounds-self-k-3 : goal.bounds-self-k-3
bounds-self-k-3 c = omega (arith, holds_length c.requires.stage.starts_hold, c.requires.inside, c.requires.stage.numbered.holds.room)

pub gather_at-requires : goal.gather_at-requires
gather_at-requires c =
    let asks = gather_asks c.requires.ready.coded c.requires.filing in (asks.0, asks.1, omega arith)

pub list_targets-requires-clause-numbered : goal.list_targets-requires-clause-numbered
list_targets-requires-clause-numbered c = record { holds = holds_clean c.requires.stage.numbered.holds; treed = c.requires.stage.numbered.treed }

pub list_targets-requires-clause-clean : goal.list_targets-requires-clause-clean
list_targets-requires-clause-clean c = holds_clean c.requires.stage.successors_hold

pub list_targets-requires-clause-serves : goal.list_targets-requires-clause-serves
list_targets-requires-clause-serves c = gathered_serves c.requires.ready.coded c.requires.filing c.requires.ready.whole.fits _ c.gather_at.ensures

pub returns-clause-expanded : goal.returns-clause-expanded
returns-clause-expanded c =
    let after = c.list_targets.ensures in
    rw c.ok_or.ensures.value
    (expanded c.requires.ready c.requires.stage c.requires.inside refl c.offer_at-offer.ensures c.joint_count-m.ensures
    c.if-m-eq0.false c.if-self-m.false _ _ after.listed refl (rw after.rows.counts c.note_counts.ensures) (ap (λ t. t.now) after.rows.starts) (ap (λ t. t.now) after.rows.views))
