-- `marking::choose`: by the count: none at 0 and at 65,535, else the lowest choice that secures a lower count.
use borrow.Author.Rules.{rules}
use native.Mathlib.Omega.{arith}
use mathlib.Core.Path.{ap, ap₂, ◌∙◌}
use Prim.Native.Nat.{◌-◌}
use lib.ListN.{get_or}
use Rattle.std.specs.Option.{unwrap_or}
use Rattle.atl.specs.Marking.{counted}
use Rattle.marking.specs.Board.{game_of}
use Rattle.marking.proofs.Position.{found_number, found_within}
use Rattle.marking.proofs.Trying.{choice_goal, choice_none, choice_some}
use Rattle.marking.proofs.choose.Goals as goal
use Rattle.marking.proofs.choose.Goals.{then-count-eq0-via-then-count-eq0, then-count-eq0-via-else-count-eq0+then-count}

pub returns-then-count-eq0 : goal.returns-then-count-eq0
returns-then-count-eq0 c =
    let args = c.args in
    elim c.then-count-eq0.branch [
      | then-count-eq0-via-then-count-eq0 w ↦ choice_goal (game_of args.board) args.rounds.now args.i (search rules) w.if-count-eq0.true
      | then-count-eq0-via-else-count-eq0+then-count w ↦ choice_none (game_of args.board) args.rounds.now args.i (search rules) w.if-count.true
    ]

pub overflow_cast-result : goal.overflow_cast-result
overflow_cast-result c =
    let args = c.args in
    let within = found_within (game_of args.board) (counted args.rounds.now (get_or args.rounds.now args.i 0 - 1)) args.i c.force_at.result c.force_at.ensures in
    let same = ap (unwrap_or c.force_at.result) (ap₂ ◌-◌ c.places-start.ensures.1 c.places-start.ensures.0) in
    omega (arith, c.unwrap_or.ensures, c.places-start.ensures.1, c.places-start.ensures.2)

pub returns : goal.returns
returns c =
    let args = c.args in
    let found = found_number (game_of args.board) (counted args.rounds.now (get_or args.rounds.now args.i 0 - 1)) args.i c.force_at.result c.force_at.ensures in
    choice_some (game_of args.board) args.rounds.now args.i (search rules) _ c.if-count-eq0.false c.if-count.false (omega (arith, c.type_inv.rounds args.i))
    (c.unwrap_or.ensures ∙ ap (unwrap_or c.force_at.result) (ap₂ ◌-◌ c.places-start.ensures.1 c.places-start.ensures.0) ∙ found)
