-- `backward::Walk::enqueue`: the first i positions are lined up.
use mathlib.Core.Path.{◌≡◌}
use lib.ListN.{length}
use Rattle.backward.specs.Walk.{walk, Lined}
use Rattle.backward.specs.Ground.{held, Same}
use Rattle.backward.proofs.Walk.enqueue.Given as goal

abbrev pub invariant-loop-i : goal.invariant-loop-i
invariant-loop-i l = record {
  lined : Lined l.i l.self.more l.self.rounds.now l.self.queue;
  room : length l.self.queue ≡ length l.initial.self.queue;
  rest : held l.self ≡ walk l.initial.self.left.now l.initial.self.need l.initial.self.rounds.now l.self.queue l.self.more;
  same : Same l.initial.self l.self;
}
