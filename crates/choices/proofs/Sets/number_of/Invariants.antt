-- `Sets::number_of` meets its contract: what the roles that are left add to the number so far gives the whole number.
use Rattle.std.proofs.Common.{◌≡◌, length, drop}
use Rattle.choices.specs.Moves.{encode}
use Rattle.choices.specs.Encode.{So}
use Rattle.choices.proofs.Sets.number_of.Given as goal

abbrev pub invariant-loop-set : goal.invariant-loop-set
invariant-loop-set l = record {
  so : So l.self.sets.now l.moves (encode l.self.sets.now l.moves 0) (length l.yielded) l.n;
  roles : l.set-iterator.a.rest.now ≡ drop (length l.yielded) l.self.sets.now;
  moved : l.set-iterator.b.rest.now ≡ drop (length l.yielded) l.moves;
}
