-- The marks of a node that some positions are read from.
use Rattle.std.specs.Prelude.{Option, Some, None, ℕ, ◌≤◌, length}
use Rattle.std.specs.Coded.{le_prop}
use Rattle.marking.specs.declared.Marked.{Marked}

-- they have an entry for each of n positions, where there is a node
abbrev pub Covered : ℕ → Option Marked → Type 0
Covered n None = Unit {0}
Covered n (Some m) = n ≤ length m.marks.now

pub Covered-prop : (n : ℕ) (m : Option Marked) → IsProp (Covered n m)
Covered-prop n None a b = λ k. tt
Covered-prop n (Some m) a b = le_prop a b
