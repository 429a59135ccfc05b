-- `facts::FactSet::has`: there is no bit beyond the word.
use mathlib.Core.Path.{◌∙◌}
use native.Mathlib.Omega.{arith}
use borrow.Author.Tests.{le-ltb}
use Rattle.facts.specs.Laws.{has_beyond}
use Rattle.facts.proofs.FactSet.has.Goals as goal

pub returns-else-i-lt64 : goal.returns-else-i-lt64
returns-else-i-lt64 c = le-ltb c.args.i 64 c.if-i-lt64.false ∙ has_beyond 64 c.args.self.bits c.args.i (omega arith) c.if-i-lt64.false
