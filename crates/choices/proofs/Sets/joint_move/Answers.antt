-- `Sets::joint_move` meets its contract: after p roles their moves stand in the result, and the rest of the number is the rest of the joint move.
use Rattle.std.proofs.Common.{rules, ◌≡◌, sym, ◌∙◌, subst, arith, ℕ, ◌<◌, ◌/◌, length, get_or}
use Rattle.std.proofs.lemmas.Option.{slice_get-get_or, get_or_from_slice_get}
use Rattle.choices.specs.Moves.{members}
use Rattle.choices.specs.Decode.{Mid, some, weight_pos, digit_low, end_of}
use Rattle.choices.proofs.Decode.{turn}
use Rattle.choices.proofs.Sets.joint_move.Goals as goal

pub nonzero_div-weight : goal.nonzero_div-weight
nonzero_div-weight c =
    let l = c.loop-p in
    omega (arith, c.count-weight.ensures, some c.args.self.sets.now c.args.j l.p l.weight l.rest l.out c.loop-p-test.true c.args.self.few l.invariant)

pub nonzero_div-rest : goal.nonzero_div-rest
nonzero_div-rest c =
    let l = c.loop-p in
    rw c.count-weight.ensures (weight_pos c.args.self.sets.now c.args.j l.p l.weight l.rest l.out c.loop-p-test.true c.args.self.few l.invariant)

pub unwrap-requires : goal.unwrap-requires
unwrap-requires c =
    let l = c.loop-p in
    let n = c.count-weight.ensures in
    let low : l.rest / (l.weight / c.count-weight.result) < length (members (get_or c.args.self.sets.now l.p 0)) =
    rw n (digit_low c.args.self.sets.now c.args.j l.p l.weight l.rest l.out c.loop-p-test.true c.args.self.few l.invariant) in
    rw (c.nth.ensures, slice_get-get_or (members (get_or c.args.self.sets.now l.p 0)) (l.rest / (l.weight / c.count-weight.result)) 16 low) (search rules)

pub nonzero_rem-rest : goal.nonzero_rem-rest
nonzero_rem-rest c =
    let l = c.loop-p in
    rw c.count-weight.ensures (weight_pos c.args.self.sets.now c.args.j l.p l.weight l.rest l.out c.loop-p-test.true c.args.self.few l.invariant)

pub loop-p-preserved : goal.loop-p-preserved
loop-p-preserved c =
    let l = c.loop-p in
    let x = get_or_from_slice_get (members (get_or c.args.self.sets.now l.p 0)) (l.rest / (l.weight / c.count-weight.result)) c.unwrap.result 16 (sym c.nth.ensures ∙ c.unwrap.ensures) in
    rw c.count-weight.ensures (turn c.args.self.sets.now c.args.j l.p l.weight l.rest l.out c.loop-p-test.true c.args.self.few l.invariant c.unwrap.result (rw c.count-weight.ensures at (sym x)))

pub returns : goal.returns
returns c =
    let l = c.loop-p in
    let all : l.p ≡ length c.args.self.sets.now = omega arith in
    end_of c.args.self.sets.now c.args.j l.weight l.rest l.out c.args.self.few (subst (λ (k : ℕ). Mid c.args.self.sets.now c.args.j k l.weight l.rest l.out) all l.invariant)
