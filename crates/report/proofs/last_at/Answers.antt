-- `report::last_at` meets its contract: the last node lies inside an accepted sheet.
use native.Mathlib.Omega.{arith}
use Rattle.report.proofs.Laws.{some_node, whole, last_is}
use Rattle.report.proofs.last_at.Goals as goal

pub overflow_sub-number : goal.overflow_sub-number
overflow_sub-number c = omega (arith, c.from-number.ensures, some_node c.args.s.now c.args.y c.requires)

pub overflow_add-at : goal.overflow_add-at
overflow_add-at c = omega (arith, c.from-number.ensures, some_node c.args.s.now c.args.y c.requires, whole c.args.s.now c.args.y c.requires)

pub question_at-requires : goal.question_at-requires
question_at-requires c = omega (arith, c.from-number.ensures, some_node c.args.s.now c.args.y c.requires, whole c.args.s.now c.args.y c.requires)

pub returns : goal.returns
returns c = last_is c.args.s.now c.args.y _ _ _ c.from-number.ensures c.question_at.ensures c.asks_eventually.ensures
