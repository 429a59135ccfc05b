-- `sheet::reader::Reader::record_step` meets its contract: unknown, not admitted, or what its mark asks for.
use Rattle.std.proofs.Common.{sym, ap, ◌∙◌}
use Rattle.sheet.specs.Reading.{known, admitted}
use Rattle.sheet.proofs.Laws.{record_strange, record_not_here, known_mark}
use Rattle.sheet.proofs.reader.Reader.record_step.Goals as goal

pub returns-in_default : goal.returns-in_default
returns-in_default c = record_strange _ _ _ (ap known c.in_default.is)

pub returns-then-not-is_admitted : goal.returns-then-not-is_admitted
returns-then-not-is_admitted c = record_not_here _ _ _ (ap known c.in-Some.is ∙ known_mark c.in-Some.m) (ap (admitted c.args.self.spot.stage) c.in-Some.is ∙ sym c.is_admitted.ensures ∙ c.if-not-is_admitted.true)
