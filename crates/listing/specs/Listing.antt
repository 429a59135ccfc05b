-- What the program prints: the listing of an answer in its tables, and the line of a refusal.
use Rattle.std.specs.Prelude.{ℕ, zero, suc, ◌+◌, ◌-◌, Bool, true, false, cond, List, [], ◌∷◌, ◌++◌, eqb, get_or}
use Rattle.facts.specs.Bits.{bit}
use Rattle.listing.specs.Text.{text, decimal, line}
use Rattle.listing.specs.declared.Shown.{Shown}

-- The tables that a listing reads, the number of the last node, and whether that node is EVENTUALLY.
pub record Tables : Type 0 where
  pub states : List ℕ
  pub starts : List ℕ
  pub marks : List ℕ
  pub rounds : List ℕ
  pub choices : List ℕ
  pub last : ℕ
  pub eventually : Bool

-- What the rounds and choices tables hold where there is no count or no choice.
abbrev pub absent : ℕ
absent = 65535

-- The joint moves of state i are those from its start to the next one.
abbrev pub moves_of : List ℕ → ℕ → ℕ
moves_of starts i = get_or starts (i + 1) 0 - get_or starts i 0

-- A round count or a choice: `-` where it is absent, and everywhere if the last node is not EVENTUALLY.
abbrev pub shown : Bool → ℕ → List ℕ
shown true x = cond (eqb x absent) (text "-") (decimal x)
shown false x = text "-"

-- The line of state i: number, facts, joint moves, mark of the last node, rounds, choice.
unfoldable pub state_line : Tables → ℕ → List ℕ
state_line t i =
    line
    (decimal i
    ∷ decimal (get_or t.states i 0)
    ∷ decimal (moves_of t.starts i)
    ∷ decimal (bit (get_or t.marks i 0) t.last)
    ∷ shown t.eventually (get_or t.rounds i 0)
    ∷ shown t.eventually (get_or t.choices i 0)
    ∷ [])

-- The lines of the first n states.
unfoldable pub state_lines : Tables → ℕ → List ℕ
state_lines t zero = []
state_lines t (suc n) = state_lines t n ++ state_line t n

-- The word for a verdict.
abbrev pub verdict_word : Bool → List ℕ
verdict_word true = text "yes"
verdict_word false = text "no"

-- The first line: `ok`, state count, joint move count, `yes` or `no`.
unfoldable pub first_line : ℕ → ℕ → Bool → List ℕ
first_line states moves verdict = line (text "ok" ∷ decimal states ∷ decimal moves ∷ verdict_word verdict ∷ [])

-- The listing of n states; the joint move count is the total that stands in the starts table after the n starts.
unfoldable pub listing : Tables → ℕ → Bool → List ℕ
listing t n verdict = first_line n (get_or t.starts n 0) verdict ++ state_lines t n

-- The line of a refusal: `no`, number, place.
unfoldable pub refusal : ℕ → ℕ → List ℕ
refusal number place = line (text "no" ∷ decimal number ∷ decimal place ∷ [])

-- The tables as a record, from the lists that are lent.
abbrev pub tables_of : List ℕ → List ℕ → List ℕ → List ℕ → List ℕ → ℕ → Bool → Tables
tables_of s f m r c l e = record { states = s; starts = f; marks = m; rounds = r; choices = c; last = l; eventually = e }

-- The tables that the code lends.
abbrev pub tables_in : Shown → Tables
tables_in t = tables_of t.states.now t.starts.now t.marks.now t.rounds.now t.choices.now t.last t.eventually
