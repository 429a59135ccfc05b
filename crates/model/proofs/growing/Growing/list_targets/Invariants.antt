-- `model::growing::Growing::list_targets` meets its contract. The invariant: the first j targets are entered, and their numbers listed.
use lib.ListN.{take}
use Rattle.tables.specs.Lengths.{state_limit, move_limit}
use Rattle.atl.specs.Bounded.{tabulate}
use Rattle.sheet.specs.Reading.{sheet_in}
use Rattle.keys.specs.Keys.{keys_in, Remembers}
use Rattle.offer.specs.Offer.{target_of}
use Rattle.model.specs.Growing.{Lent, Rows}
use Rattle.model.proofs.Targets.{Going}
use Rattle.model.proofs.growing.Growing.list_targets.Given as goal

abbrev pub invariant-loop-j : goal.invariant-loop-j
invariant-loop-j l = record {
  lent : Lent l.initial.self l.self;
  rows : Rows l.initial.self l.self;
  going : Going state_limit move_limit (take l.initial.self.found l.initial.self.states.now) (take l.initial.self.listed l.initial.self.successors.now) l.initial.self.listed
      (tabulate l.m (target_of (sheet_in l.targets.s.now l.targets.y) l.targets.offer)) l.j l.self;
  memo : Remembers (keys_in l.targets.table.now l.targets.keys.now) l.memo;
}
