-- Which last node has rounds and choices.
use Rattle.std.specs.Prelude.{ℕ, Option, Some, None}
use Rattle.sheet.specs.declared.question.Future.{Future}
use Rattle.sheet.specs.declared.question.Future.TheVariants as future
use Rattle.sheet.specs.declared.question.Question.{Question}
use Rattle.sheet.specs.declared.question.Question.TheVariants as question
use Rattle.nodes.specs.declared.Reach.{Reach}

-- of a coalition's future: only EVENTUALLY has them
abbrev pub reach_of : ℕ → Future → Option Reach
reach_of c (future.Eventually a) = Some (record { coalition = c; goal = a })
reach_of c (future.Next a) = None
reach_of c (future.Always a) = None
reach_of c (future.Until a b) = None

abbrev pub goal_of : Question → Option Reach
goal_of (question.Can c f) = reach_of c f
goal_of question.Unknown = None
goal_of question.True = None
goal_of (question.Fact f) = None
goal_of (question.View v) = None
goal_of (question.Legal role move) = None
goal_of (question.Goal role value) = None
goal_of question.Terminal = None
goal_of (question.Not a) = None
goal_of (question.And a b) = None
goal_of (question.Or a b) = None
