-- `Sets::joint_move` meets its contract: after p roles their moves stand in the result, and the rest of the number is the rest of the joint move.
use Rattle.choices.specs.Decode.{Mid}
use Rattle.choices.proofs.Sets.joint_move.Given as goal

abbrev pub invariant-loop-p : goal.invariant-loop-p
invariant-loop-p l = Mid l.self.sets.now l.j l.p l.weight l.rest l.out
