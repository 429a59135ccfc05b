-- `sheet::reader::Reader::next` meets its contract: one law a return: done, bytes after `ED`, cut, or a record.
use Rattle.std.proofs.Common.{sym, ap, ◌∙◌}
use Rattle.sheet.specs.Reading.{record_step}
use Rattle.sheet.proofs.Steps.{ended_here, more_here, half_here, record_here}
use Rattle.sheet.proofs.reader.Reader.next.Goals as goal

pub returns-then-is_empty : goal.returns-then-is_empty
returns-then-is_empty c = ended_here _ _ _ c.left-left.ensures c.in-Done.is (sym c.is_empty.ensures ∙ c.if-is_empty.true)

pub returns-else-is_empty : goal.returns-else-is_empty
returns-else-is_empty c = more_here _ _ _ c.left-left.ensures c.in-Done.is (sym c.is_empty.ensures ∙ c.if-is_empty.false)

pub returns-in_default-left : goal.returns-in_default-left
returns-in_default-left c = half_here _ _ _ c.left-left.ensures c.in_default.not-Done c.in_default-left.len_below

pub returns : goal.returns
returns c = c.record_step.ensures ∙ ap (record_step c.args.self.sheet.now c.args.self.spot) c.of.ensures ∙ record_here _ _ _ c.left-left.ensures c.in_default.not-Done c.in-len2-up.len_at_least
