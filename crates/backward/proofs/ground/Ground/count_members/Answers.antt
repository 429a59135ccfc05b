-- `backward::Ground::count_members`: the first p joint moves are counted, from counters that are cleared.
use native.Mathlib.Omega.{arith}
use Rattle.incoming.proofs.Build.{tally_none, tally_more}
use Rattle.backward.specs.Ground.{class_of}
use Rattle.backward.proofs.Opening.{members_ask, members_all}
use Rattle.backward.proofs.ground.Ground.count_members.Goals as goal

pub loop-p-init : goal.loop-p-init
loop-p-init c = tally_none (class_of c.args.self.now) _

pub bump-requires : goal.bump-requires
bump-requires c =
    members_ask c.args.self.now _ c.from-total.ensures c.args.left.now c.fill.new.self c.requires (c.fill.ensures.after (λ y h. h)) c.loop-p.left c.loop-p.p c.loop-p.invariant _
    c.loop-p-test.true (omega (arith, c.from-total.ensures)) c.counter-c.ensures

pub loop-p-preserved : goal.loop-p-preserved
loop-p-preserved c = tally_more (class_of c.args.self.now) _ _ _ c.loop-p.p _ c.loop-p.invariant c.counter-c.ensures c.bump.ensures

pub returns : goal.returns
returns c =
    members_all c.args.self.now _ c.from-total.ensures c.args.left.now c.fill.new.self c.requires (c.fill.ensures.after (λ y h. h)) c.loop-p.left c.loop-p.p c.loop-p.invariant
    c.loop-p.auto.p-end (omega (arith, c.loop-p-test.false))
