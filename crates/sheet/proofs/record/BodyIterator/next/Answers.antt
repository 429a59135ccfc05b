-- `sheet::record::BodyIterator::next` meets its contract: three bytes are the next literal, fewer are none.
use Rattle.std.proofs.Common.{rules, length, ap}
use Rattle.sheet.specs.Records.{literals}
use Rattle.sheet.proofs.Records.{parts_short, parts_next}
use Rattle.sheet.proofs.record.BodyIterator.next.Goals as goal

pub returns-in_default-clause-steps : goal.returns-in_default-clause-steps
unfolding literals
returns-in_default-clause-steps c = let none = parts_short _ c.in_default.len_below in (none, none)

pub returns-clause-steps : goal.returns-clause-steps
unfolding literals
returns-clause-steps c = parts_next _ c.in-len3-up.len_at_least

pub returns-clause-goes : goal.returns-clause-goes
unfolding literals
returns-clause-goes c = let shorter = ap length (parts_next c.args.self.now.bytes.now c.in-len3-up.len_at_least) in search rules
