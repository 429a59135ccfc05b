-- `does_in` meets its contract. From the present set, the literals that are left give what the whole body gives.
use Rattle.std.proofs.Common.{◌≡◌}
use Rattle.sheet.specs.Records.{literals}
use Rattle.rules.specs.Rules.{over, does_of}
use Rattle.rules.proofs.does_in.Given as goal

abbrev pub invariant-loop-literal : goal.invariant-loop-literal
invariant-loop-literal l = over (does_of l.role) (literals l.literal-iterator) l.x.bits ≡ over (does_of l.role) (literals l.fn.body) l.fn.start.bits
