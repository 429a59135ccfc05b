-- A model in tables of full size, and the game that it holds.
use Rattle.std.specs.Coded.{le_prop}
use native.Mathlib.Nat.{ℕ_set}
use Rattle.std.specs.Prelude.{List, ℕ, ◌+◌, ◌≤◌, ◌<◌, get_or, length}
use Rattle.facts.specs.Bits.{has}
use Rattle.atl.specs.Game.{Game}
use Rattle.meaning.specs.Radix.{alike}
use Rattle.radix.specs.Classes.{row, moves_at, Starts, Starts-prop, Counted}

-- The limits: how many positions and how many joint moves there may be.
abbrev pub positions_limit : ℕ
positions_limit = 1024

abbrev pub joints_limit : ℕ
joints_limit = 8192

-- The tables hold a model of n positions, of at most `states`, with at most `joints` joint moves.
pub record Model (states joints n : ℕ) (starts successors counts : List ℕ) : Type 0 where
  pub few : n ≤ states
  pub fits : length successors ≤ joints
  pub placed : Starts n starts (length successors)
  pub landed : (i : ℕ) → i < n → (j : ℕ) → j < moves_at starts i → get_or successors (get_or starts i 0 + j) 0 < n
  pub counted : Counted n starts counts

Counted-prop : (n : ℕ) (starts counts : List ℕ) → IsProp (Counted n starts counts)
Counted-prop n starts counts a b = λ k. record { inside = le_prop a.inside b.inside k; full = λ i h. ℕ_set _ _ (a.full i h) (b.full i h) k }

pub Model-prop : (states joints n : ℕ) (starts successors counts : List ℕ) → IsProp (Model states joints n starts successors counts)
Model-prop states joints n starts successors counts a b = λ k. record {
  few = le_prop a.few b.few k;
  fits = le_prop a.fits b.fits k;
  placed = Starts-prop n starts (length successors) a.placed b.placed k;
  landed = λ i h j l. le_prop (a.landed i h j l) (b.landed i h j l) k;
  counted = Counted-prop n starts counts a.counted b.counted k;
}

-- The game as the coalition meets it: joint moves agree if they give each of its roles the same choice.
abbrev pub in_counts : ℕ → List ℕ → List ℕ → List ℕ → ℕ → Game
in_counts n starts successors counts mask = record {
  states = n;
  moves = λ i. moves_at starts i;
  to = λ i j. get_or successors (get_or starts i 0 + j) 0;
  agree = λ i j k. alike (row counts i) (has mask) j k;
}
