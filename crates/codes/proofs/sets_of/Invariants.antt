-- `sets_of` meets its contract. From the present sets, the literals that are left give what the whole body gives.
use Rattle.sheet.specs.Records.{literals}
use Rattle.codes.specs.Codes.{sets_of}
use Rattle.codes.proofs.Body.{Noting}
use Rattle.codes.proofs.sets_of.Given as goal

abbrev pub invariant-loop-literal : goal.invariant-loop-literal
invariant-loop-literal l = Noting (sets_of (literals l.fn.body)) (literals l.literal-iterator) l.w
