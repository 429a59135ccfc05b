-- `backward::Walk::walk_rounds`: r rounds are done.
use borrow.Author.Rules.{rules}
use native.Mathlib.Omega.{arith}
use Rattle.backward.specs.Ground.{may}
use Rattle.backward.proofs.Rounds.{between_start, between_le, between_round, between_step, between_end}
use Rattle.backward.proofs.Walk.walk_rounds.Goals as goal

pub loop-lo-init : goal.loop-lo-init
loop-lo-init c =
    let g = c.args.ground.now in
    record {
      does = λ b e. between_start g.board.tables g.leads g.few g.want (may g) b _ _ _ _ _ c.requires.3 c.requires.4 e c.requires.0 c.requires.1 c.requires.2;
      same = search rules;
    }

pub walk_round-requires : goal.walk_round-requires
walk_round-requires c =
    let g = c.args.ground.now in
    let (b, e) = c.requires.5 in
    let x = c.loop-lo.invariant.does b e in
    (between_round g.board.tables g.leads g.few g.want (may g) b x, x.up, x.sized)

pub overflow_add-r : goal.overflow_add-r
overflow_add-r c =
    let g = c.args.ground.now in
    let (b, e) = c.requires.5 in
    omega (arith, between_round g.board.tables g.leads g.few g.want (may g) b (c.loop-lo.invariant.does b e), g.few)

pub loop-lo-smaller : goal.loop-lo-smaller
loop-lo-smaller c =
    let g = c.args.ground.now in
    let (b, e) = c.requires.5 in
    omega (arith, between_le g.board.tables g.leads g.few g.want (may g) b (c.loop-lo.invariant.does b e))

pub loop-lo-preserved : goal.loop-lo-preserved
loop-lo-preserved c =
    let g = c.args.ground.now in
    record {
      does = λ b e. between_step g.board.tables g.leads g.few g.want (may g) b (c.loop-lo.invariant.does b e) (search rules) _ c.walk_round.ensures.does;
      same = search rules;
    }

pub returns-clause-does : goal.returns-clause-does
returns-clause-does c =
    let g = c.args.ground.now in
    λ b e. between_end g.board.tables g.leads g.few g.want (may g) b (c.loop-lo.invariant.does b e) (search rules)
