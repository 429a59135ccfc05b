-- `facts::FactSet::with`: `s | 1 << i` is the set with i in it.
use mathlib.Core.Path.{ap, ◌∙◌}
use lib.Bits.{bit_or}
use Rattle.facts.specs.Laws.{insert_or, one_shifted}
use Rattle.facts.proofs.FactSet.with.Goals as goal

pub returns : goal.returns
returns c = ap (bit_or c.args.self.bits) (one_shifted 64 c.args.i c.requires) ∙ insert_or c.args.self.bits c.args.i
