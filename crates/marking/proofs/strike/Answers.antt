-- `marking::strike`: the joint moves before place p have struck out their classes.
use borrow.Author.Rules.{rules}
use native.Mathlib.Omega.{arith}
use mathlib.Core.Path.{sym, ap, refl, ◌∙◌}
use mathlib.Core.Bool.{Bool}
use lib.ListN.{get_or, length, drop, length-take, length-append, length-drop}
use Prim.Native.Nat.{◌-◌, ◌≤◌}
use Rattle.marking.specs.Flags.{strike}
use Rattle.marking.proofs.Flags.{clear_part}
use Rattle.marking.specs.Board.{aimed}
use Rattle.marking.proofs.Position.{strikes_none, strikes_more, place_in, places_in, struck}
use Rattle.marking.proofs.strike.Goals as goal
use Rattle.marking.proofs.strike.Goals.{then-not-holds, else-not-holds}

pub loop-p-init : goal.loop-p-init
loop-p-init c = strikes_none _ _ _ _ _

pub holds-requires : goal.holds-requires
holds-requires c =
    let pre = c.requires in
    let z = place_in c.args.board.tables c.args.i pre.2 _ _ c.places-start.ensures.0 c.places-start.ensures.1 c.loop-p.p c.loop-p.auto.p c.loop-p-test.true in
    omega (arith, z.2, pre.0)

pub bounds-flags-from : goal.bounds-flags-from
bounds-flags-from c =
    let pre = c.requires in
    let z = place_in c.args.board.tables c.args.i pre.2 _ _ c.places-start.ensures.0 c.places-start.ensures.1 c.loop-p.p c.loop-p.auto.p c.loop-p-test.true in
    let a = places_in c.args.board.tables c.args.i pre.2 _ _ c.places-start.ensures.0 c.places-start.ensures.1 in
    let k = c.places-start.result.end - c.places-start.result.start in
    omega (
      arith,
      z.3,
      a.1,
      pre.1,
      c.loop-p.auto.flags,
      c.from-then-not-holds.ensures,
      c.fill.ensures.len,
      length-take k c.args.flags.now,
      length-append c.fill.new.self (drop k c.args.flags.now),
      length-drop k c.args.flags.now,
    )

pub loop-p-preserved : goal.loop-p-preserved
loop-p-preserved c =
    let args = c.args in
    let loop = c.loop-p in
    elim c.if-not-holds.branch [
      | then-not-holds w ↦ strikes_more args.board.joints.successors.now args.board.classes.now (aimed args.aim) c.places-start.result.start _
          loop.p c.from.result w.from-then-not-holds.result loop.flags _ loop.auto.p loop.invariant c.from.ensures w.from-then-not-holds.ensures
          (w.flags-is ∙ ap (λ (b : Bool). strike b loop.flags w.from-then-not-holds.result) (sym w.if-not-holds.true ∙ c.holds.ensures))
      | else-not-holds w ↦ strikes_more args.board.joints.successors.now args.board.classes.now (aimed args.aim) c.places-start.result.start _
          loop.p c.from.result _ loop.flags _ loop.auto.p loop.invariant c.from.ensures refl
          (w.flags-is ∙ ap (λ (b : Bool). strike b loop.flags (get_or args.board.classes.now loop.p 0)) (sym w.if-not-holds.false ∙ c.holds.ensures))
    ]

pub returns : goal.returns
returns c =
    let args = c.args in
    let loop = c.loop-p in
    let a = places_in args.board.tables args.i c.requires.2 _ _ c.places-start.ensures.0 c.places-start.ensures.1 in
    let k = c.places-start.result.end - c.places-start.result.start in
    let room : k ≤ length args.flags.now = omega (arith, a.1, c.requires.1) in
    struck args.board.tables args.i c.requires.2 _ _ c.places-start.ensures.0 c.places-start.ensures.1 (aimed args.aim) args.flags.now _ loop.flags loop.p
    (clear_part k _ args.flags.now c.fill.new.self room (omega (arith, room, c.fill.ensures.len, length-take k args.flags.now)) (c.fill.ensures.after (search rules)))
    (search rules) (loop.auto.p-end (omega (arith, a.0))) loop.invariant
