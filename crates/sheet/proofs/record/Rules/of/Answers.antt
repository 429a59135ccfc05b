-- `sheet::record::Rules::of` meets its contract: the bytes from the offset on hold the rules that stand there.
use Rattle.sheet.specs.Records.{rules_of}
use Rattle.sheet.proofs.Records.{rules_cut}
use Rattle.sheet.proofs.record.Rules.of.Goals as goal

pub returns : goal.returns
unfolding rules_of
returns c = rules_cut _ _ _ _ c.min.ensures
