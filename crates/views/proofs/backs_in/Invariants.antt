-- `backs_in` meets its contract. The literals that are left decide.
use Rattle.std.proofs.Common.{◌≡◌}
use Rattle.sheet.specs.Records.{literals}
use Rattle.views.specs.Meaning.{body_of}
use Rattle.views.specs.Reference.{any, back_to}
use Rattle.views.proofs.backs_in.Given as goal

abbrev pub invariant-loop-literal : goal.invariant-loop-literal
invariant-loop-literal l = any (back_to l.q l.v) (body_of (literals l.literal-iterator)) ≡ any (back_to l.q l.v) (body_of (literals l.body))
