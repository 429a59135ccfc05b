-- `refused_at` meets its contract. The lowest view from here on is the lowest of all.
use Rattle.std.proofs.Common.{◌≡◌, ◌-◌}
use Rattle.sheet.specs.Records.{rules_of}
use Rattle.views.specs.Meaning.{view_rules}
use Rattle.views.specs.Reference.{lowest, closed}
use Rattle.views.proofs.refused_at.Given as goal

abbrev pub invariant-loop-view : goal.invariant-loop-view
invariant-loop-view l = lowest (closed l.q (view_rules (rules_of l.rules))) (64 - l.view) l.view ≡ lowest (closed l.q (view_rules (rules_of l.rules))) 64 0
