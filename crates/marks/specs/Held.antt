-- The model of given rules in tables at full size, and the marks of its first nodes.
use Rattle.std.specs.Prelude.{◌≡◌, List, ℕ, ◌+◌, ◌*◌, ◌≤◌, ◌<◌, get_or, length}
use Rattle.facts.specs.Pack.{pack}
use Rattle.meaning.specs.Rules.{Rules, options}
use Rattle.meaning.specs.Atl.{Node}
use Rattle.meaning.specs.Model.{total, starts, successors}
use Rattle.meaning.specs.Marks.{is_marked}

module _ (R : Rules) (l : List ℕ) where
  -- The tables hold the model of R, whose positions are l by number: starts and successors, and four counts of choices a position, one for
  -- each role and 1 for a role that there is not.
  pub record Held (n : ℕ) (starting following counting : List ℕ) : Type 0 where
    pub number : n ≡ length l
    pub starts_long : n + 1 ≤ length starting
    pub starts_are : (i : ℕ) → i ≤ length l → get_or starting i 0 ≡ get_or (starts R l) i 0
    pub successors_long : total R l ≤ length following
    pub successors_are : (p : ℕ) → p < total R l → get_or following p 0 ≡ get_or (successors R l) p 0
    pub counts_long : 4 * n ≤ length counting
    pub counts_are : (i r : ℕ) → i < length l → r < R.roles → get_or counting (4 * i + r) 0 ≡ length (options R (get_or l i 0) r)
    pub counts_left : (i r : ℕ) → i < length l → R.roles ≤ r → r < 4 → get_or counting (4 * i + r) 0 ≡ 1

  -- The table of marks holds the marks of the first k nodes, and no other bit.
  abbrev pub Marked : List Node → ℕ → List ℕ → Type 0
  Marked nodes k marks = (i : ℕ) → i < length l → get_or marks i 0 ≡ pack (is_marked R l nodes i) k
