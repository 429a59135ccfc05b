-- One position, computed: what it offers, where its joint moves lead, what the plain tests say; and the game of a sheet.
use Rattle.std.specs.Prelude.{ℕ, ◌*◌, ◌/◌, ◌%◌, ◌^◌, Bool, true, false, cond, List, [], ◌∷◌, get_or}
use Rattle.facts.specs.Bits.{has}
use Rattle.sheet.specs.Limits.{most_moves}
use Rattle.sheet.specs.Data.{Sheet, Rule}
use Rattle.sheet.specs.declared.question.Question.{Question}
use Rattle.sheet.specs.declared.question.Question.TheVariants as question
use Rattle.rules.specs.declared.Look.{Look}
use Rattle.rules.specs.Rules.{does_set, legal_set, legals_of, is_terminal, is_goal, next_facts, init_facts}
use Rattle.views.specs.Sheet as views
use Rattle.views.specs.Sheet.{masks_of}
use Rattle.choices.specs.declared.Choices.{Choices}
use Rattle.choices.specs.Moves.{members}
use Rattle.meaning.specs.Rules.{Rules}
use Rattle.position.specs.Choices.{choices}
use Rattle.position.specs.Meaning.{asked_by}

-- no moves: what stands there where no DOES is read
abbrev pub still : List ℕ
still = 0 ∷ 0 ∷ 0 ∷ 0 ∷ []

-- what literals are read off in a state: its facts, its views by the levels of the sheet, and a move for each role
abbrev pub look_in : List Rule → ℕ → List ℕ → Look
look_in rs s m = views.look_in rs s (masks_of rs) m

-- each role's moves
abbrev pub moves_of : List Rule → List ℕ
moves_of rs = does_set 0 rs 0 ∷ does_set 1 rs 0 ∷ does_set 2 rs 0 ∷ does_set 3 rs 0 ∷ []

-- a role's choices, where each role's moves are given
abbrev pub set_of : List Rule → Look → List ℕ → ℕ → ℕ
set_of rs k moves role = choices (legals_of rs k role) (get_or moves role 0)

-- each role's choices; at the end of a game each has one move, number 0
abbrev pub sets_if : Bool → List Rule → Look → List ℕ → List ℕ
sets_if true rs k moves = 1 ∷ 1 ∷ 1 ∷ 1 ∷ []
sets_if false rs k moves = set_of rs k moves 0 ∷ set_of rs k moves 1 ∷ set_of rs k moves 2 ∷ set_of rs k moves 3 ∷ []

-- what a position offers
unfoldable pub offers : List Rule → Look → List ℕ → Choices
offers rs k moves = record { sets = sets_if (is_terminal rs k) rs k moves; terminal = is_terminal rs k }

-- the same, from whether it is the end of a game and from the legal moves of all roles, sixteen bits a role
abbrev pub set_from : ℕ → List ℕ → ℕ → ℕ
set_from legals moves role = choices (legals / 2 ^ (most_moves * role) % 2 ^ most_moves) (get_or moves role 0)

unfoldable pub offering : Bool → ℕ → List ℕ → Choices
offering true legals moves = record { sets = 1 ∷ 1 ∷ 1 ∷ 1 ∷ []; terminal = true }
offering false legals moves = record { sets = set_from legals moves 0 ∷ set_from legals moves 1 ∷ set_from legals moves 2 ∷ set_from legals moves 3 ∷ []; terminal = false }

-- the same position, with other moves
abbrev pub making : Look → List ℕ → Look
making k m = record { facts = k.facts; views = k.views; moves = m }

-- where a position goes by a joint move
unfoldable pub leads : List Rule → Look → Bool → List ℕ → ℕ
leads rs k terminal m = cond terminal k.facts.bits (next_facts rs (making k m))

-- what a plain test says of a position
abbrev pub says : List Rule → Look → Question → Bool
says rs k question.True = true
says rs k (question.Fact f) = has k.facts.bits f
says rs k (question.View v) = has k.views.bits v
says rs k (question.Legal role move) = has (legal_set rs k role) move
says rs k (question.Goal role value) = is_goal rs k role value
says rs k question.Terminal = is_terminal rs k
says rs k question.Unknown = false
says rs k (question.Not a) = false
says rs k (question.And a b) = false
says rs k (question.Or a b) = false
says rs k (question.Can c f) = false

-- the game of a sheet
abbrev pub rules_of : Sheet → Rules
rules_of d = record {
  roles = d.sizes.roles;
  initial = init_facts d.rules;
  terminal = λ s. is_terminal d.rules (look_in d.rules s still);
  choices = λ s role. members (choices (legal_set d.rules (look_in d.rules s still) role) (does_set role d.rules 0));
  target = λ s m. next_facts d.rules (look_in d.rules s m);
  test = λ j s. says d.rules (look_in d.rules s still) (asked_by d j);
}
