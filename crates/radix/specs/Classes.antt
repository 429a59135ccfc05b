-- The class of each joint move of each position for a coalition, in a table.
use Rattle.std.specs.Prelude.{◌≡◌, Bool, cond, List, [], ◌∷◌, ℕ, zero, suc, ◌+◌, ◌-◌, ◌*◌, ◌/◌, ◌%◌, ◌≤◌, ◌<◌, get_or, set, length}
use Rattle.facts.specs.Bits.{has}
use Rattle.std.specs.Coded.{le_prop}
use Rattle.meaning.specs.Radix.{product}

-- the lowest joint move that gives the roles of C the same choices: the other roles make their first
unfoldable pub rep : List ℕ → (ℕ → Bool) → ℕ → ℕ
rep [] C j = 0
rep (n ∷ ns) C j = cond (C 0) (j / product ns) 0 * product ns + rep ns (λ r. C (suc r)) (j % product ns)

-- how many choices each role has in position i
abbrev pub row : List ℕ → ℕ → List ℕ
row counts i = get_or counts (4 * i) 0 ∷ get_or counts (4 * i + 1) 0 ∷ get_or counts (4 * i + 2) 0 ∷ get_or counts (4 * i + 3) 0 ∷ []

-- the class of joint move j of position i, for a coalition of roles
unfoldable pub class_of : List ℕ → ℕ → ℕ → ℕ → ℕ
class_of counts mask i j = rep (row counts i) (has mask) j

-- how many joint moves position i has
abbrev pub moves_at : List ℕ → ℕ → ℕ
moves_at starts i = get_or starts (i + 1) 0 - get_or starts i 0

-- k entries from place `first` on, filled by f
unfoldable pub ranged : (ℕ → ℕ) → ℕ → List ℕ → ℕ → List ℕ
ranged f first l zero = l
ranged f first l (suc j) = set (ranged f first l j) (first + j) (f j)

-- the first w entries, repeated, each time `add` higher
unfoldable pub repeated : List ℕ → ℕ → ℕ → ℕ → ℕ
repeated l w add j = get_or l (j % w) 0 + j / w * add

-- the first k entries filled by f
abbrev pub filled : (ℕ → ℕ) → List ℕ → ℕ → List ℕ
filled f l k = ranged f 0 l k

-- the classes of the joint moves of the first i positions
unfoldable pub classed : List ℕ → List ℕ → ℕ → List ℕ → ℕ → List ℕ
classed starts counts mask l zero = l
classed starts counts mask l (suc i) = ranged (class_of counts mask i) (get_or starts i 0) (classed starts counts mask l i) (moves_at starts i)

-- The starts of n positions: each has a joint move, and there is room for all of them.
pub record Starts (n : ℕ) (starts : List ℕ) (room : ℕ) : Type 0 where
  pub long : n + 1 ≤ length starts
  pub up : (i : ℕ) → i < n → get_or starts i 0 < get_or starts (i + 1) 0
  pub within : (i : ℕ) → i < n → get_or starts (i + 1) 0 ≤ room

pub Starts-prop : (n : ℕ) (starts : List ℕ) (room : ℕ) → IsProp (Starts n starts room)
Starts-prop n starts room a b = λ k. record {
  long = le_prop a.long b.long k;
  up = λ i h. le_prop (a.up i h) (b.up i h) k;
  within = λ i h. le_prop (a.within i h) (b.within i h) k;
}

-- Four roles' counts of choices a position, which make its joint moves.
pub record Counted (n : ℕ) (starts counts : List ℕ) : Type 0 where
  pub inside : 4 * n ≤ length counts
  pub full : (i : ℕ) → i < n → moves_at starts i ≡ product (row counts i)

-- What repeating the first w entries to the end asks: that there are some, and that each number fits its place.
pub record Repeats (l : List ℕ) (w add : ℕ) : Type 0 where
  pub some : 0 < w
  pub up : w ≤ length l
  pub fits : (j : ℕ) → j < length l → repeated l w add j ≤ 65535
