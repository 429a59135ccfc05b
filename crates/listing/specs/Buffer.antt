-- What a lent buffer holds once a text was printed into it, and how long a buffer is long enough.
use Rattle.std.specs.Prelude.{ℕ, ◌+◌, ◌*◌, min, ◌≡◌, List, ◌++◌, length, take, drop}
use Rattle.tables.specs.Lengths.{state_limit}

-- The text stands at the buffer's start, cut where the buffer ends; what lies behind the text is as it was, and r counts the bytes written.
pub record Prints (text before after : List ℕ) (r : ℕ) : Type 0 where
  pub out : after ≡ take (length before) text ++ drop (length text) before
  pub count : r ≡ min (length text) (length before)

-- The whole text stands at the buffer's start; what lies behind it is as it was, and r is its length.
pub record Stands (text before after : List ℕ) (r : ℕ) : Type 0 where
  pub out : after ≡ text ++ drop (length text) before
  pub count : r ≡ length text

-- Bytes enough for a listing of n states whose joint moves, rounds and choices have at most k digits each, and its state numbers at most four.
abbrev pub room_for : ℕ → ℕ → ℕ
room_for k n = 13 + k + n * (31 + 3 * k)

-- Bytes enough for the line of every state whose number has at most four digits: 46.
abbrev pub line_room : ℕ
line_room = 31 + 3 * 5

-- Bytes enough for every listing whose numbers come from sixteen-bit tables: 47,122.
abbrev pub listing_room : ℕ
listing_room = room_for 5 state_limit

-- Bytes enough for every refusal: `no`, two numbers of at most 20 digits, two spaces, a line feed.
abbrev pub refusal_room : ℕ
refusal_room = 45
