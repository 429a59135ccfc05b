-- The game that a sheet's rules give: what a reader has to believe of positions, choices, successors and plain tests.
use Rattle.std.specs.Prelude.{ℕ, ◌+◌, ◌≡◌, true, ◌↔◌, List, [], ◌∷◌, get_or}
use Rattle.facts.specs.Bits.{has}
use Rattle.sheet.specs.Data as sheet
use Rattle.sheet.specs.Data.{Sheet, Rule}
use Rattle.sheet.specs.declared.question.Future.{Future}
use Rattle.sheet.specs.declared.question.Future.TheVariants as future
use Rattle.sheet.specs.declared.question.Question.{Question}
use Rattle.sheet.specs.declared.question.Question.TheVariants as question
use Rattle.sheet.specs.Question.{question_of}
use Rattle.rules.specs.declared.Look.{Look}
use Rattle.rules.specs.Meaning.{NextHolds, LegalHolds, GoalHolds, TerminalHolds, InitHolds, Occurs}
use Rattle.views.specs.Meaning.{At}
use Rattle.choices.specs.Ascending.{Ascending}
use Rattle.meaning.specs.Lists.{◌∈◌}
use Rattle.meaning.specs.Rules.{Rules}
use Rattle.meaning.specs.Atl.{Kind, NEXT, ALWAYS, EVENTUALLY, UNTIL, Node, TEST, NOT, AND, OR, CAN}

-- A choice of a role: a move of it that is LEGAL.
unfoldable pub IsChoice : List Rule → Look → ℕ → ℕ → Type 0
IsChoice rs k role move = LegalHolds rs k role move × Occurs rs role move

-- What a plain node says of a position. LEGAL is the rules' truth and not the choices; the other nodes are no plain tests.
unfoldable pub Tests : List Rule → Look → Question → Type 0
Tests rs k question.True = Unit
Tests rs k (question.Fact f) = has k.facts.bits f ≡ true
Tests rs k (question.View v) = has k.views.bits v ≡ true
Tests rs k (question.Legal role move) = LegalHolds rs k role move
Tests rs k (question.Goal role value) = GoalHolds rs k role value
Tests rs k question.Terminal = TerminalHolds rs k
Tests rs k question.Unknown = ⊥
Tests rs k (question.Not a) = ⊥
Tests rs k (question.And a b) = ⊥
Tests rs k (question.Or a b) = ⊥
Tests rs k (question.Can c f) = ⊥

-- A node that asks nothing.
abbrev pub blank : sheet.Node
blank = record { kind = 0; a = 0; b = 0; coalition = 0 }

-- What node number j of a sheet asks; a number that no node has asks nothing.
abbrev pub asked_by : Sheet → ℕ → Question
asked_by d j = question_of (get_or d.nodes j blank)

-- What the game R has in state s under the moves m, where literals are read off k.
pub record Follows (d : Sheet) (R : Rules) (s : ℕ) (m : List ℕ) (k : Look) : Type 0 where
  -- The state is terminal exactly where a TERMINAL rule fires.
  pub terminal : (R.terminal s ≡ true) ↔ TerminalHolds d.rules k
  -- A role's choices are exactly its moves that are LEGAL.
  pub choices : (role move : ℕ) → (move ∈ R.choices s role) ↔ IsChoice d.rules k role move
  -- The successor holds exactly the facts whose NEXT rule fires.
  pub target : (fact : ℕ) → (has (R.target s m) fact ≡ true) ↔ NextHolds d.rules k fact
  -- Test j is what plain node j says of the state.
  pub test : (j : ℕ) → (R.test j s ≡ true) ↔ Tests d.rules k (asked_by d j)

-- R is the game of the sheet d.
pub record GameOf (d : Sheet) (R : Rules) : Type 0 where
  -- The roles are the sheet's.
  pub roles : R.roles ≡ d.sizes.roles
  -- The initial position holds exactly the INIT facts.
  pub initial : (fact : ℕ) → (has R.initial fact ≡ true) ↔ InitHolds d.rules fact
  -- A role's choices are listed ascending, each once.
  pub ascending : (s role : ℕ) → Ascending (R.choices s role)
  -- In every state, whatever moves are made, the rules decide.
  pub follows : (s : ℕ) (m : List ℕ) (k : Look) → At d.rules s m k → Follows d R s m k

-- A future of the question, as the meaning has it.
abbrev pub kind_of : Future → Kind
kind_of (future.Next a) = NEXT a
kind_of (future.Always a) = ALWAYS a
kind_of (future.Eventually a) = EVENTUALLY a
kind_of (future.Until a b) = UNTIL a b

-- Node number j of the question, as the meaning has it: a plain test is TEST j.
unfoldable pub node_of : ℕ → Question → Node
node_of j (question.Not a) = NOT a
node_of j (question.And a b) = AND a b
node_of j (question.Or a b) = OR a b
node_of j (question.Can c f) = CAN c (kind_of f)
node_of j question.True = TEST j
node_of j (question.Fact f) = TEST j
node_of j (question.View v) = TEST j
node_of j (question.Legal role move) = TEST j
node_of j (question.Goal role value) = TEST j
node_of j question.Terminal = TEST j
node_of j question.Unknown = TEST j

-- The same of a list of nodes, the first of them with number j.
abbrev pub nodes_after : ℕ → List sheet.Node → List Node
nodes_after j [] = []
nodes_after j (x ∷ xs) = node_of j (question_of x) ∷ nodes_after (j + 1) xs

-- The nodes of a sheet's question.
abbrev pub nodes_of : Sheet → List Node
nodes_of d = nodes_after 0 d.nodes
