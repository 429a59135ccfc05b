-- Worked cases, computed: the lamp, and the easy ways to go wrong at one position.
use Prim.Native.Nat.{ℕ}
use mathlib.Core.Path.{◌≡◌, refl}
use mathlib.Core.Bool.{Bool, true, false}
use mathlib.Core.List.{List, [], ◌∷◌}
use Rattle.facts.specs.Bits.{insert}
use Rattle.sheet.specs.declared.record.Part.{Part}
use Rattle.sheet.specs.Data.{part, Rule, Node, Sheet}
use Rattle.sheet.specs.Question.{question_of}
use Rattle.rules.specs.Kinds as kind
use Rattle.rules.specs.Meaning.{doing, holds}
use Rattle.rules.specs.Rules.{fires, added, gathered, does_of, does_set, legal_set, is_terminal, is_goal, next_facts}
use Rattle.choices.specs.Moves.{members}
use Rattle.meaning.specs.Rules.{joints, options, moves, after, targets}
use Rattle.position.specs.Choices.{choices}
use Rattle.position.specs.Position.{rules_of}

abbrev rule : ℕ → ℕ → ℕ → List Part → Rule
rule k a b body = record { head = part k a b; body = body }

abbrev legal : ℕ → ℕ → Rule
legal role move = rule kind.LEGAL role move []

abbrev next : ℕ → List Part → Rule
next fact body = rule kind.NEXT fact 0 body

abbrev does : ℕ → ℕ → Part
does role move = part kind.DOES role move

abbrev true_fact : ℕ → Part
true_fact f = part kind.TRUE f 0

-- a sheet with so many roles, facts and moves, and no views
abbrev sheet : ℕ → ℕ → ℕ → List Rule → List Node → Sheet
sheet roles facts moves rules nodes =
    record { sizes = record { roles = roles; facts = facts; views = 0; moves = moves }; rules = rules; nodes = nodes }

abbrev node : ℕ → ℕ → ℕ → Node
node k a b = record { kind = k; a = a; b = b; coalition = 0 }

-- ---- the lamp: the joint moves in order, and where they lead; it ends where it is lit
abbrev lamp : Sheet
lamp = sheet 2 1 2
    (legal 0 0 ∷ legal 0 1 ∷ legal 1 0 ∷ legal 1 1 ∷
    next 0 (does 0 0 ∷ does 1 0 ∷ []) ∷
    next 0 (does 0 1 ∷ does 1 1 ∷ []) ∷
    rule kind.TERMINAL 0 0 (true_fact 0 ∷ []) ∷ [])
    []

lamp_moves : moves (rules_of lamp) 0 ≡ (0 ∷ 0 ∷ []) ∷ (0 ∷ 1 ∷ []) ∷ (1 ∷ 0 ∷ []) ∷ (1 ∷ 1 ∷ []) ∷ []
unfolding moves joints options after members choices doing holds fires added gathered does_of does_set legal_set is_terminal next_facts insert
lamp_moves = refl

lamp_targets : targets (rules_of lamp) 0 ≡ 1 ∷ 0 ∷ 0 ∷ 1 ∷ []
unfolding moves joints options after members choices doing holds fires added gathered does_of does_set legal_set is_terminal next_facts insert
lamp_targets = refl

lamp_end : targets (rules_of lamp) 1 ≡ 1 ∷ []
unfolding moves joints options after members choices doing holds fires added gathered does_of does_set legal_set is_terminal next_facts insert
lamp_end = refl

-- ---- nothing persists unless a rule says so: from fact 1 alone, and from facts 1 and 2
abbrev forgets : Sheet
forgets = sheet 1 3 1 (legal 0 0 ∷ next 0 (does 0 0 ∷ []) ∷ next 2 (true_fact 2 ∷ []) ∷ []) []

forgotten : targets (rules_of forgets) 2 ≡ 1 ∷ []
unfolding moves joints options after members choices doing holds fires added gathered does_of does_set legal_set is_terminal next_facts insert
forgotten = refl

kept : targets (rules_of forgets) 6 ≡ 5 ∷ []
unfolding moves joints options after members choices doing holds fires added gathered does_of does_set legal_set is_terminal next_facts insert
kept = refl

-- ---- a terminal state with no legal move has one joint move, to itself; its NEXT rule moves nothing
abbrev ended : Sheet
ended = sheet 2 1 1 (next 0 (does 0 0 ∷ []) ∷ rule kind.TERMINAL 0 0 [] ∷ []) []

ended_moves : moves (rules_of ended) 0 ≡ (0 ∷ 0 ∷ []) ∷ []
unfolding moves joints options after members choices doing holds fires added gathered does_of does_set legal_set is_terminal next_facts insert
ended_moves = refl

ended_targets : targets (rules_of ended) 0 ≡ 0 ∷ []
unfolding moves joints options after members choices doing holds fires added gathered does_of does_set legal_set is_terminal next_facts insert
ended_targets = refl

-- ---- a legal move that no DOES mentions is no choice, though the rules say that it is LEGAL; GOAL and LEGAL speak of terminal states too
abbrev passes : Sheet
passes = sheet 1 1 3
    (legal 0 0 ∷ legal 0 1 ∷ next 0 (does 0 0 ∷ does 0 2 ∷ []) ∷ rule kind.GOAL 0 50 [] ∷ rule kind.TERMINAL 0 0 (true_fact 0 ∷ []) ∷ [])
    (node 4 0 1 ∷ node 4 0 2 ∷ node 5 0 50 ∷ node 6 0 0 ∷ node 7 0 0 ∷ [])

passes_choices : (rules_of passes).choices 0 0 ≡ 0 ∷ []
unfolding moves joints options after members choices doing holds fires added gathered does_of does_set legal_set is_terminal next_facts insert
passes_choices = refl

-- what the five nodes, and one that there is not, say of a state
abbrev said : ℕ → List Bool
said s = (rules_of passes).test 0 s ∷ (rules_of passes).test 1 s ∷ (rules_of passes).test 2 s ∷ (rules_of passes).test 3 s ∷ (rules_of passes).test 4 s ∷ (rules_of passes).test 5 s ∷ []

passes_tests : said 0 ≡ true ∷ false ∷ true ∷ false ∷ false ∷ false ∷ []
unfolding question_of members choices doing holds fires added gathered does_of does_set legal_set is_terminal is_goal next_facts insert
passes_tests = refl

passes_end : said 1 ≡ true ∷ false ∷ true ∷ true ∷ false ∷ false ∷ []
unfolding question_of members choices doing holds fires added gathered does_of does_set legal_set is_terminal is_goal next_facts insert
passes_end = refl
