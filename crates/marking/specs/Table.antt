-- A game in tables, and what the tables must satisfy.
use Rattle.std.specs.Prelude.{Bool, true, false, not, List, ℕ, ◌+◌, ◌≤◌, ◌<◌, eqb, get_or, length}
use Rattle.atl.specs.Game.{Game, States}
use Rattle.std.specs.Coded.{le_prop}
use Rattle.radix.specs.Classes.{moves_at, Starts, Starts-prop}

-- `starts` has the place of each position's first joint move, `successors` the position that each joint move leads to, and `classes` for each
-- joint move the number of its class in its position, the same for those that agree.
abbrev pub in_tables : ℕ → List ℕ → List ℕ → List ℕ → Game
in_tables n starts successors classes = record {
  states = n;
  moves = λ i. moves_at starts i;
  to = λ i j. get_or successors (get_or starts i 0 + j) 0;
  agree = λ i j k. eqb (get_or classes (get_or starts i 0 + j) 0) (get_or classes (get_or starts i 0 + k) 0);
}

-- a set of positions, or those outside
abbrev pub side : Bool → States → States
side true w i = w i
side false w i = not (w i)

-- The tables of n positions: places stand in range, each joint move leads to a position, and the number of a class is below the joint moves.
-- It speaks of no table that the marking writes; of those only lengths are asked.
pub record Tables (n : ℕ) (starts successors classes : List ℕ) : Type 0 where
  pub placed : Starts n starts (length successors)
  pub classed : length successors ≤ length classes
  pub landed : (i : ℕ) → i < n → (j : ℕ) → j < moves_at starts i → get_or successors (get_or starts i 0 + j) 0 < n
  pub low : (i : ℕ) → i < n → (j : ℕ) → j < moves_at starts i → get_or classes (get_or starts i 0 + j) 0 < moves_at starts i

pub Tables-prop : (n : ℕ) (starts successors classes : List ℕ) → IsProp (Tables n starts successors classes)
Tables-prop n starts successors classes a b = λ k. record {
  placed = Starts-prop n starts (length successors) a.placed b.placed k;
  classed = le_prop a.classed b.classed k;
  landed = λ i h j g. le_prop (a.landed i h j g) (b.landed i h j g) k;
  low = λ i h j g. le_prop (a.low i h j g) (b.low i h j g) k;
}
