-- `names_in` meets its contract. From the present set, the literals that are left give what the whole body gives.
use Rattle.std.proofs.Common.{◌≡◌}
use Rattle.sheet.specs.Records.{literals}
use Rattle.rules.specs.Rules.{over}
use Rattle.views.specs.Meaning.{body_of}
use Rattle.views.specs.Reference.{name_of}
use Rattle.views.proofs.names_in.Given as goal

abbrev pub invariant-loop-literal : goal.invariant-loop-literal
invariant-loop-literal l = over (name_of 64) (body_of (literals l.literal-iterator)) l.x.bits ≡ over (name_of 64) (body_of (literals l.body)) l.fn.start.bits
