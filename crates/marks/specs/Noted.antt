-- A table of marks with one node's bit written.
use Rattle.std.specs.Prelude.{List, ℕ, ◌<◌, ◌≡◌, Bool, get_or}
use Rattle.facts.specs.Pack.{add_if}
use Rattle.atl.specs.Game.{States}
use Rattle.radix.specs.Classes.{filled}

-- the entry of position i, with bit k where the set w has i
abbrev pub entry : ℕ → States → List ℕ → ℕ → ℕ
entry k w l i = add_if (w i) (get_or l i 0) k

-- the table with bit k at the positions of w, for the first n positions
abbrev pub noted : ℕ → ℕ → States → List ℕ → List ℕ
noted n k w l = filled (entry k w l) l n

-- the table with bit k at those of the first n positions for which the answer was yes, where P says which answers there may have been
abbrev pub NotedBy : (P : ℕ → Bool → Type 0) → (n k : ℕ) → (l m : List ℕ) → Type 0
NotedBy P n k l m = (w : States) × ((i : ℕ) → i < n → P i (w i)) × (m ≡ noted n k w l)
