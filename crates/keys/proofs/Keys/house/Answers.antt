-- `keys::Keys::house` meets its contract: the key is new.
use native.Mathlib.Omega.{arith}
use Rattle.keys.proofs.Laws.{housed_new}
use Rattle.keys.proofs.Keys.house.Goals as goal

pub returns : goal.returns
returns c = housed_new c.requires.0 c.args.key c.args.c _ c.in_default.ensures (omega arith) c.enroll.ensures c.low_of.ensures
