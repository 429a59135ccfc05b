-- THE PROMISE: what the engine answers, and what it leaves in the six lent tables, for every sheet and every table.
use Rattle.std.specs.Prelude.{ℕ, ◌+◌, ◌≡◌, Bool, false, List, [], length, Result, Ok, Err}
use Rattle.tables.specs.Lengths.{state_limit, move_limit}
use Rattle.tables.specs.Pad.{pad}
use Rattle.sheet.specs.Data.{Sheet, bytes_of}
use Rattle.sheet.specs.Fields.{Fits}
use Rattle.sheet.specs.Reading.{IsRefused}
use Rattle.sheet.specs.Reading as reading
use Rattle.views.specs.Meaning.{view_rules, Stratified, IsPlace}
use Rattle.meaning.specs.Rules.{Rules}
use Rattle.meaning.specs.Model.{IsRefusal}
use Rattle.meaning.specs.Promise as promise
use Rattle.meaning.specs.Promise.{IsAnswer}
use Rattle.position.specs.Meaning.{GameOf, nodes_of}
use Rattle.engine.specs.declared.Refusal.{Refusal}
use Rattle.engine.specs.declared.Refusal.TheVariants.{Table, Sheet as BadSheet, Strata, NoChoice, ManyMoves, ManyStates}
use Rattle.engine.specs.declared.Solved.{Solved}

-- What the engine answers.
abbrev pub Answer : Type 0
Answer = Result Solved Refusal

-- Accepted: how many states, how many joint moves, and the verdict.
abbrev pub accepts : ℕ → ℕ → Bool → Answer
accepts n m v = Ok (record { states = n; moves = m; verdict = v })

-- Document 01's number of each refusal.
abbrev pub number_of : Refusal → ℕ
number_of Table = 9
number_of (BadSheet f k) = reading.number_of f
number_of (Strata v) = 5
number_of (NoChoice k) = 8
number_of (ManyMoves k) = 7
number_of (ManyStates k) = 6

-- And its place.
abbrev pub place_of : Refusal → ℕ
place_of Table = 0
place_of (BadSheet f k) = k
place_of (Strata v) = v
place_of (NoChoice k) = k
place_of (ManyMoves k) = k
place_of (ManyStates k) = k

-- The contents of the six lent tables.
pub record Tables : Type 0 where
  pub states : List ℕ
  pub starts : List ℕ
  pub successors : List ℕ
  pub rounds : List ℕ
  pub choices : List ℕ
  pub marks : List ℕ

abbrev pub tables : (states starts successors rounds choices marks : List ℕ) → Tables
tables a b c d e f = record { states = a; starts = b; successors = c; rounds = d; choices = e; marks = f }

-- Each table has exactly its length.
pub record RightLengths (t : Tables) : Type 0 where
  pub states : length t.states ≡ state_limit
  pub starts : length t.starts ≡ state_limit + 1
  pub successors : length t.successors ≡ move_limit
  pub rounds : length t.rounds ≡ state_limit
  pub choices : length t.choices ≡ state_limit
  pub marks : length t.marks ≡ state_limit

-- The tables that hold an answer: all unused entries are zero.
abbrev pub holding : promise.Answer → Tables
holding a = record {
  states = pad state_limit a.positions;
  starts = pad (state_limit + 1) a.starts;
  successors = pad move_limit a.successors;
  rounds = pad state_limit a.rounds;
  choices = pad state_limit a.choices;
  marks = pad state_limit a.marks;
}

-- Every entry is zero.
abbrev pub zero_tables : Tables
zero_tables = holding (record { positions = []; starts = []; successors = []; marks = []; rounds = []; choices = []; verdict = false })

-- The bytes s are a sheet that keeps to every range, count and form.
pub record Reads (s : List ℕ) : Type 0 where
  pub sheet : Sheet
  pub bytes : s ≡ bytes_of sheet
  pub fits : Fits sheet

-- The bytes s are such a sheet, it is stratified, and these are the rules of its game.
pub record Game (s : List ℕ) : Type 0 where
  pub read : Reads s
  pub stratified : Stratified (view_rules read.sheet.rules)
  pub rules : Rules
  pub game : GameOf read.sheet rules

module _ (s : List ℕ) (before after : Tables) where
  -- Refused while the game is built: 8, 7 or 6 at this state; every entry is zero.
  abbrev pub Stopped : Refusal → Type 0
  Stopped r = RightLengths before × ((g : Game s) × IsRefusal g.rules state_limit move_limit (number_of r) (place_of r)) × (after ≡ zero_tables)

  -- Accepted: the tables hold the right answer for the game, and the counts and the verdict are its own.
  pub record Solves (states moves : ℕ) (verdict : Bool) : Type 0 where
    pub lengths : RightLengths before
    pub game : Game s
    pub answer : promise.Answer
    pub right : IsAnswer game.rules (nodes_of game.read.sheet) state_limit move_limit answer
    pub holds : after ≡ holding answer
    pub states_are : states ≡ length answer.positions
    pub moves_are : moves ≡ length answer.successors
    pub verdict_is : verdict ≡ answer.verdict

  -- THE PROMISE, by the answer.
  abbrev pub Meets : Answer → Type 0
  Meets (Err Table) = (RightLengths before → ⊥) × (after ≡ before)
  Meets (Err (BadSheet f k)) = RightLengths before × IsRefused s f k × (after ≡ before)
  Meets (Err (Strata v)) = RightLengths before × ((r : Reads s) × IsPlace (view_rules r.sheet.rules) v) × (after ≡ before)
  Meets (Err (NoChoice k)) = Stopped (NoChoice k)
  Meets (Err (ManyMoves k)) = Stopped (ManyMoves k)
  Meets (Err (ManyStates k)) = Stopped (ManyStates k)
  Meets (Ok solved) = Solves solved.states solved.moves solved.verdict
