-- `keys::Keys::give` meets its contract: after each turn the kinds below k have given.
use mathlib.Core.Path.{◌≡◌}
use Rattle.keys.specs.Keys.{keys_in, given, Remembers}
use Rattle.keys.proofs.Keys.give.Given as goal

abbrev pub invariant-loop-k : goal.invariant-loop-k
invariant-loop-k l = (l.x ≡ given (keys_in l.table l.self) l.self.masks l.gifts l.joint l.k) × Remembers (keys_in l.table l.self) l.memo
