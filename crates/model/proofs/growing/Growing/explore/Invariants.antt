-- `model::growing::Growing::explore` meets its contract. The invariant: the tables hold what is found when k states are expanded.
use Prim.Native.Nat.{◌-◌}
use Rattle.tables.specs.Lengths.{state_limit, move_limit}
use Rattle.keys.specs.Keys.{keys_in, Remembers}
use Rattle.model.specs.Growing.{Lent, rules_in, seen_in, Stage}
use Rattle.model.proofs.growing.Growing.explore.Given as goal

abbrev pub invariant-loop-k : goal.invariant-loop-k
invariant-loop-k l = record {
  lent : Lent l.initial.self l.self;
  stage : Stage (rules_in l.study) (seen_in l.study) state_limit move_limit l.k l.self;
  memo : Remembers (keys_in l.filed.table.now l.filed.keys.now) l.room.memo;
}

abbrev pub decreases-loop-k : goal.decreases-loop-k
decreases-loop-k l = state_limit - l.k
