-- `backward::Walk::walk_rounds`: r rounds are done.
use Prim.Native.Nat.{◌-◌}
use Rattle.atl.specs.Game.{States}
use Rattle.incoming.specs.Index.{at}
use Rattle.marking.specs.Board.{game_of}
use Rattle.backward.specs.Ground.{positions, joints, own, class_of, may, held, Same, Fresh}
use Rattle.backward.proofs.Lines.{lines_hold}
use Rattle.backward.proofs.Rounds.{Between}
use Rattle.backward.proofs.Walk.walk_rounds.Given as goal

abbrev pub invariant-loop-lo : goal.invariant-loop-lo
invariant-loop-lo l = record {
  does : (b : States) → Fresh (positions l.ground) l.initial.self.rounds.now b
      → Between (game_of l.ground.board) (joints l.ground) (at l.ground.board.joints.starts.now) (own l.ground) (at l.ground.board.joints.successors.now)
      (class_of l.ground) (lines_hold l.ground.board.tables l.ground.leads) l.ground.want (may l.ground) b l.r l.lo l.self.more (held l.self);
  same : Same l.initial.self l.self;
}

abbrev pub decreases-loop-lo : goal.decreases-loop-lo
decreases-loop-lo l = positions l.ground - l.lo
