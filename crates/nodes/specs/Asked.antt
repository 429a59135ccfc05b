-- What the question is asked of: a sheet as it was read, and the model of its game in the lent tables.
use Rattle.std.specs.Prelude.{◌≡◌, List, Bool, ℕ, ◌≤◌, ◌<◌, get_or, length, Ok}
use Rattle.facts.specs.Pack.{pack}
use Rattle.tables.specs.Lengths.{state_limit, move_limit}
use Rattle.tables.specs.Pad.{pad}
use Rattle.sheet.specs.Data.{Sheet}
use Rattle.sheet.specs.Reading.{read_sheet, sheet_in}
use Rattle.sheet.specs.declared.Layout.{Layout}
use Rattle.rules.specs.declared.Look.{Look}
use Rattle.views.specs.Sheet.{masks_of, views_at}
use Rattle.atl.specs.Bounded.{tabulate}
use Rattle.meaning.specs.Marks.{is_marked}
use Rattle.meaning.specs.Promise.{Answer}
use Rattle.position.specs.Meaning.{nodes_of}
use Rattle.position.specs.Position.{still, rules_of}
use Rattle.model.specs.Views.{views_of}
use Rattle.model.specs.Answers.{Accepts}

-- The bytes were read as a sheet, and the tables hold the model of its game, as it was accepted; the positions are the first n states.
pub record Asked (s : List ℕ) (y : Layout) (n : ℕ) (states views starting following counting : List ℕ) : Type 0 where
  pub sheet : read_sheet s ≡ Ok y
  pub moves : ℕ
  pub model : Accepts (rules_of (sheet_in s y)) (views_of (sheet_in s y)) state_limit move_limit n moves states starting following counting views

-- The same, with the views of each position read off their table.
pub record Ready (s : List ℕ) (y : Layout) (n : ℕ) (states views starting following counting : List ℕ) : Type 0 where
  pub asked : Asked s y n states views starting following counting
  pub views_long : n ≤ length views
  pub views_are : (i : ℕ) → i < n → get_or views i 0 ≡ views_at (sheet_in s y).rules (get_or states i 0) (masks_of (sheet_in s y).rules)

-- What the literals of a plain test are read off in position i: its facts, its views, and no moves.
abbrev pub look_held : List ℕ → List ℕ → ℕ → Look
look_held states views i = record { facts = record { bits = get_or states i 0 }; views = record { bits = get_or views i 0 }; moves = still }

-- The table of marks of the positions l, when the first k nodes have been marked.
unfoldable pub marks_to : Sheet → List ℕ → ℕ → List ℕ
marks_to d l k = pad state_limit (tabulate (length l) (λ i. pack (is_marked (rules_of d) l (nodes_of d) i) k))

-- The lent tables hold those of the answer, and zeros behind them; the verdict is the answer's.
pub record Answered (a : Answer) (verdict : Bool) (marks rounds choices : List ℕ) : Type 0 where
  pub marks_are : marks ≡ pad state_limit a.marks
  pub rounds_are : rounds ≡ pad state_limit a.rounds
  pub choices_are : choices ≡ pad state_limit a.choices
  pub verdict_is : verdict ≡ a.verdict
