-- `sheet::reader::Reader::end` meets its contract: `ED` has nothing more to check.
use Rattle.sheet.proofs.Steps.{cut_here, end_taken}
use Rattle.std.proofs.Common.{refl}
use Rattle.sheet.specs.declared.Mark.TheVariants.{ED}
use Rattle.sheet.proofs.reader.Reader.end.Goals as goal

pub returns-then-left-lt2 : goal.returns-then-left-lt2
returns-then-left-lt2 c = cut_here _ _ _ c.left.ensures ED refl c.if-left-lt2.true

pub returns : goal.returns
returns c = end_taken _ _ _ c.left.ensures c.if-left-lt2.false
