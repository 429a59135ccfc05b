-- `model::growing::Growing::fill` meets its contract: the tables begin with the initial state, and a refusal clears them again.
use native.Mathlib.Omega.{arith}
use Rattle.std.proofs.Common.{ap, ◌∙◌}
use Rattle.model.proofs.Beginning.{zeros, first}
use Rattle.model.proofs.growing.Growing.fill.Goals as goal

pub explore-requires-clause-stage : goal.explore-requires-clause-stage
explore-requires-clause-stage c =
    first _ _ c.reset.ensures.fresh (ap (λ t. t.tests) c.reset.ensures.tree ∙ c.requires.tree.0) (ap (λ t. t.forks) c.reset.ensures.tree ∙ c.requires.tree.1) c.requires.initial (omega arith)

pub returns-in-Err-clause-built : goal.returns-in-Err-clause-built
returns-in-Err-clause-built c = (c.in-Err.ensures.explored, zeros (omega arith) c.reset-in-Err.ensures.fresh)
