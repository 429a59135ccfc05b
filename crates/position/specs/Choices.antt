-- A role's choices in a state, as sets: the one place that says which of the LEGAL moves are choices.
use Rattle.std.specs.Prelude.{ℕ}
use Rattle.std.specs.Int.Bits.{bit_and}

-- Of the moves that are LEGAL, those that are moves of the role.
unfoldable pub choices : ℕ → ℕ → ℕ
choices legal moves = bit_and legal moves
