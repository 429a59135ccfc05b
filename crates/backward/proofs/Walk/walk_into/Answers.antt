-- `backward::Walk::walk_into`: the joint moves before slot j of the index are visited.
use native.Mathlib.Omega.{arith}
use borrow.Author.Rules.{rules}
use Rattle.backward.proofs.Loops.{entries_rise, entries_end, visits_none, visit_asks, visits_more, arrive_all}
use Rattle.backward.proofs.Walk.walk_into.Goals as goal

pub loop-j-init : goal.loop-j-init
loop-j-init c = record { does = visits_none c.args.ground.now c.args.t c.requires.1 _ _ c.from-first.ensures c.from-last.ensures c.args.r _; same = search rules }

pub bounds-ground-j : goal.bounds-ground-j
bounds-ground-j c = omega (arith, entries_end c.args.ground.now c.args.t c.requires.1 _ _ c.from-first.ensures c.from-last.ensures)

pub visit-requires : goal.visit-requires
visit-requires c =
    visit_asks c.args.ground.now c.args.t c.requires.1 _ _ c.from-first.ensures c.from-last.ensures c.args.r _ _ c.loop-j.j _ (search rules) (search rules)
    c.from-p.ensures c.loop-j.invariant.does c.requires.0 c.requires.2

pub loop-j-preserved : goal.loop-j-preserved
loop-j-preserved c = record {
  does = visits_more c.args.ground.now c.args.t c.requires.1 _ _ c.from-first.ensures c.from-last.ensures c.args.r _ _ c.loop-j.j _ (search rules) (search rules)
      c.from-p.ensures c.loop-j.invariant.does _ c.visit.ensures.does;
  same = search rules;
}

pub returns-clause-does : goal.returns-clause-does
returns-clause-does c =
    let g = c.args.ground.now in
    arrive_all g c.args.t c.requires.1 _ _ c.from-first.ensures c.from-last.ensures c.args.r _ _ c.loop-j.j
    (c.loop-j.auto.j-end (entries_rise g c.args.t c.requires.1 _ _ c.from-first.ensures c.from-last.ensures)) (omega (arith, c.loop-j-test.false)) c.loop-j.invariant.does
