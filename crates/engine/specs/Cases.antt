-- Document 01's starred cases, one table: sheets that differ from the lamp sheet in one or two records, with the answer and the tables of each.
use Rattle.std.specs.Prelude.{ℕ, true, false, List, [], ◌∷◌, ◌++◌, take, Err}
use Rattle.sheet.specs.declared.Fault.TheVariants.{Cut, After, Field, Form}
use Rattle.sheet.specs.Data.{Part, part, Rule, Node, Sheet, bytes_of}
use Rattle.meaning.specs.Promise.{none}
use Rattle.engine.specs.declared.Refusal.TheVariants.{Sheet as BadSheet, Strata, NoChoice}
use Rattle.engine.specs.Promise.{Answer, accepts, Tables, holding, zero_tables}

-- A rule without a body, and one with.
abbrev fact : Part → Rule
fact h = record { head = h; body = [] }

infix 45 ◌from◌
abbrev pub ◌from◌ : Part → List Part → Rule
h from b = record { head = h; body = b }

-- Node kinds: FACT, NOT, NEXT, ALWAYS, EVENTUALLY.
abbrev pub node : ℕ → ℕ → ℕ → Node
node kind a coalition = record { kind = kind; a = a; b = 0; coalition = coalition }

-- LEGAL role move, as far as the lamp's cases differ there.
abbrev legal : ℕ → ℕ → Rule
legal role move = fact (part 4 role move)

-- The rules that every case has: both switches up or both down turn the lamp on, and the game ends where the last literal holds.
abbrev rest : Part → List Rule
rest ends =
    (part 2 0 0 from (part 5 0 0 ∷ part 5 1 0 ∷ [])) ∷
    (part 2 0 0 from (part 5 0 1 ∷ part 5 1 1 ∷ [])) ∷
    (part 6 0 0 from (ends ∷ [])) ∷ []

abbrev lit : Part
lit = part 1 0 0

abbrev pub sheet : ℕ → List Rule → List Node → Sheet
sheet views rules nodes = record { sizes = record { roles = 2; facts = 1; views = views; moves = 2 }; rules = rules; nodes = nodes }

abbrev pub lamp_rules : List Rule
lamp_rules = legal 0 0 ∷ legal 0 1 ∷ legal 1 0 ∷ legal 1 1 ∷ rest lit

-- The lamp sheet with other nodes.
abbrev asks : List Node → Sheet
asks nodes = sheet 0 lamp_rules nodes

abbrev lamp : Sheet
lamp = asks (node 2 0 0 ∷ node 12 0 3 ∷ [])

-- The lamp's tables: states 0 and 1, four joint moves and one; marks, rounds and choices as given.
abbrev pub two_states : List ℕ → List ℕ → List ℕ → Tables
two_states marks rounds choices = holding (record {
  positions = 0 ∷ 1 ∷ [];
  starts = 0 ∷ 4 ∷ 5 ∷ [];
  successors = 1 ∷ 0 ∷ 0 ∷ 1 ∷ 1 ∷ [];
  marks = marks;
  rounds = rounds;
  choices = choices;
  verdict = false;
})

-- A case: the bytes, the answer, and the tables as they then are, where they came as t.
pub record Case : Type 0 where
  pub bytes : List ℕ
  pub answer : Answer
  pub tables : Tables → Tables

infix 30 ◌gives◌leaving◌
abbrev ◌gives◌leaving◌ : List ℕ → Answer → (Tables → Tables) → Case
s gives r leaving u = record { bytes = s; answer = r; tables = u }

-- Refusals 1 to 5 leave the tables as they came.
abbrev untouched : Tables → Tables
untouched t = t

abbrev pub starred : List Case
starred =
    -- the lamp itself
    (bytes_of lamp gives accepts 2 5 true leaving λ t. two_states (2 ∷ 3 ∷ []) (1 ∷ 0 ∷ []) (0 ∷ none ∷ [])) ∷
    -- coalition 1 instead: no
    (bytes_of (asks (node 2 0 0 ∷ node 12 0 1 ∷ [])) gives accepts 2 5 false leaving λ t. two_states (0 ∷ 3 ∷ []) (none ∷ 0 ∷ []) (none ∷ none ∷ [])) ∷
    -- ALWAYS for coalition 2 of NOT FACT 0: no
    (bytes_of (asks (node 2 0 0 ∷ node 7 0 0 ∷ node 11 1 2 ∷ [])) gives accepts 2 5 false leaving λ t. two_states (2 ∷ 1 ∷ []) (0 ∷ 0 ∷ []) (0 ∷ 0 ∷ [])) ∷
    -- without LEGAL 1 0, coalition 1: three joint moves, yes, round count 1, choice 1
    (bytes_of (sheet 0 (legal 0 0 ∷ legal 0 1 ∷ legal 1 1 ∷ rest lit) (node 2 0 0 ∷ node 12 0 1 ∷ [])) gives accepts 2 3 true leaving λ t. holding (record {
      positions = 0 ∷ 1 ∷ [];
      starts = 0 ∷ 2 ∷ 3 ∷ [];
      successors = 0 ∷ 1 ∷ 1 ∷ [];
      marks = 2 ∷ 3 ∷ [];
      rounds = 1 ∷ 0 ∷ [];
      choices = 1 ∷ none ∷ [];
      verdict = false;
    })) ∷
    -- without both LEGAL rules of role 1: refusal 8, place 0
    (bytes_of (sheet 0 (legal 0 0 ∷ legal 0 1 ∷ rest lit) (node 2 0 0 ∷ node 12 0 3 ∷ [])) gives Err (NoChoice 0) leaving λ t. zero_tables) ∷
    -- NEXT for coalition 0 of FACT 0: yes at state 1, no at state 0
    (bytes_of (asks (node 2 0 0 ∷ node 10 0 0 ∷ [])) gives accepts 2 5 false leaving λ t. two_states (0 ∷ 3 ∷ []) (0 ∷ 0 ∷ []) (0 ∷ 0 ∷ [])) ∷
    -- VIEW 0 from VIEW 0: accepted, view false
    (bytes_of (sheet 1 (lamp_rules ++ (part 3 0 0 from (part 3 0 0 ∷ [])) ∷ []) (node 3 0 0 ∷ [])) gives accepts 2 5 false leaving λ t. two_states (0 ∷ 0 ∷ []) (0 ∷ 0 ∷ []) (0 ∷ 0 ∷ [])) ∷
    -- VIEW 0 from NOT VIEW 0: refusal 5, place 0
    (bytes_of (sheet 1 (lamp_rules ++ (part 3 0 0 from (part 4 0 0 ∷ [])) ∷ []) (node 2 0 0 ∷ node 12 0 3 ∷ [])) gives Err (Strata 0) leaving untouched) ∷
    -- no `ED`: refusal 1, place 10; a byte after it: 1, place 11; the empty sheet: 1, place 0
    (take 75 (bytes_of lamp) gives Err (BadSheet Cut 10) leaving untouched) ∷
    (bytes_of lamp ++ 0 ∷ [] gives Err (BadSheet After 11) leaving untouched) ∷
    ([] gives Err (BadSheet Cut 0) leaving untouched) ∷
    -- node 0 names fact 1: refusal 2, place 8
    (bytes_of (asks (node 2 1 0 ∷ node 12 0 3 ∷ [])) gives Err (BadSheet Field 8) leaving untouched) ∷
    -- TERMINAL from DOES 0 0: refusal 4, place 7
    (bytes_of (sheet 0 (legal 0 0 ∷ legal 0 1 ∷ legal 1 0 ∷ legal 1 1 ∷ rest (part 5 0 0)) (node 2 0 0 ∷ node 12 0 3 ∷ [])) gives Err (BadSheet Form 7) leaving untouched) ∷ []
