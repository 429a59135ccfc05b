-- The reference: the engine's answer and tables, computed.
use Rattle.std.specs.Prelude.{ℕ, Bool, cond, List, length, eqb, Ok, Err}
use Rattle.tables.specs.Lengths.{state_limit, move_limit, right_lengths}
use Rattle.sheet.specs.Data.{Sheet}
use Rattle.sheet.specs.Reading.{Answer as Reading, read_sheet, sheet_in}
use Rattle.views.specs.Sheet.{Studied}
use Rattle.views.specs.Sheet as views
use Rattle.meaning.specs.Promise.{Result, refused, accepted}
use Rattle.meaning.specs.Reference.{result}
use Rattle.position.specs.Meaning.{nodes_of}
use Rattle.position.specs.Position.{rules_of}
use Rattle.engine.specs.declared.Refusal.{Refusal}
use Rattle.engine.specs.declared.Refusal.TheVariants.{Table, Sheet as BadSheet, Strata, NoChoice, ManyMoves, ManyStates}
use Rattle.engine.specs.Promise.{Answer, accepts, Tables, holding, zero_tables}

-- an answer, and the tables that it leaves
pub record Outcome : Type 0 where
  pub answer : Answer
  pub tables : Tables

abbrev pub outcome : Answer → Tables → Outcome
outcome r t = record { answer = r; tables = t }

-- the tables have their lengths
unfoldable pub lengths_right : Tables → Bool
lengths_right t =
    right_lengths 1 state_limit move_limit (length t.states) (length t.starts) (length t.successors) (length t.rounds) (length t.choices) (length t.marks)

-- the refusal of state k with a number
abbrev pub stop : ℕ → ℕ → Refusal
stop n k = cond (eqb n 8) (NoChoice k) (cond (eqb n 7) (ManyMoves k) (ManyStates k))

-- what the result of a game leaves
abbrev pub told : Result → Outcome
told (refused n k) = outcome (Err (stop n k)) zero_tables
told (accepted a) = outcome (accepts (length a.positions) (length a.successors) a.verdict) (holding a)

-- of a stratified sheet
unfoldable pub played : Sheet → Outcome
played d = told (result (rules_of d) (nodes_of d) state_limit move_limit)

-- of a sheet that reads well
abbrev pub studied : Tables → Sheet → Studied → Outcome
studied t d (Ok _) = played d
studied t d (Err x) = outcome (Err (Strata x.view)) t

-- of a sheet
abbrev pub read : Tables → List ℕ → Reading → Outcome
read t s (Err x) = outcome (Err (BadSheet x.fault x.place)) t
read t s (Ok y) = studied t (sheet_in s y) (views.answer (sheet_in s y).rules)

unfoldable pub solved : List ℕ → Tables → Outcome
solved s t = cond (lengths_right t) (read t s (read_sheet s)) (outcome (Err Table) t)
