-- The answers of the builder: what each says of the game, and what the tables then hold.
use Rattle.std.specs.Prelude.{ℕ, ◌+◌, ◌*◌, ◌≡◌, List, Result, Ok, Err, map, length}
use Rattle.tables.specs.Pad.{pad}
use Rattle.meaning.specs.Rules.{Rules}
use Rattle.meaning.specs.Model.{total, IsRefusal, IsModel, starts, successors}
use Rattle.offer.specs.Offer.{role_limit}
use Rattle.model.specs.Counts.{counts}
use Rattle.model.specs.Tables.{Zeros}
use Rattle.model.specs.declared.Refusal.{Refusal}
use Rattle.model.specs.declared.Refusal.TheVariants.{NoChoice, ManyMoves, ManyStates}
use Rattle.model.specs.declared.Built.{Built}

-- The number of a refusal.
abbrev pub number_of : Refusal → ℕ
number_of (NoChoice k) = 8
number_of (ManyMoves k) = 7
number_of (ManyStates k) = 6

-- Its place: the state that was being expanded.
abbrev pub place_of : Refusal → ℕ
place_of (NoChoice k) = k
place_of (ManyMoves k) = k
place_of (ManyStates k) = k

-- The game's rules, the views of each position, and the limits.
module _ (R : Rules) (seen : ℕ → ℕ) (limit joints : ℕ) where
  -- The model is accepted: the answer has its counts, and the tables hold it.
  pub record Accepts (n m : ℕ) (states_table starts_table successors_table counts_table views_table : List ℕ) : Type 0 where
    pub positions : List ℕ
    pub is_model : IsModel R limit joints positions
    pub count : n ≡ length positions
    pub moves : m ≡ total R positions
    pub states_are : states_table ≡ pad limit positions
    pub starts_are : starts_table ≡ pad (limit + 1) (starts R positions)
    pub successors_are : successors_table ≡ pad joints (successors R positions)
    pub counts_are : counts_table ≡ pad (role_limit * limit) (counts R positions)
    pub views_are : views_table ≡ pad limit (map seen positions)

  -- What building answers: an accepted model in the tables, or a refusal and every entry zero.
  abbrev pub Builds : Result Built Refusal → (states starts successors counts views : List ℕ) → Type 0
  Builds (Ok b) states starts successors counts views = Accepts b.states b.moves states starts successors counts views
  Builds (Err f) states starts successors counts views = IsRefusal R limit joints (number_of f) (place_of f) × Zeros limit joints states starts successors counts views
