-- `lookup::first_difference` meets its contract: the zeros below the lowest digit of the exclusive or.
use native.Mathlib.Omega.{arith}
use borrow.Author.Rules.{rules}
use Rattle.lookup.proofs.Differing.{trailing_small, first_difference}
use Rattle.lookup.proofs.first_difference.Goals as goal

pub overflow_cast-result : goal.overflow_cast-result
overflow_cast-result c = search (rules, trailing_small)

pub returns : goal.returns
returns c = first_difference c.args.a c.args.b (omega arith) (omega arith) c.requires
