-- A list of numbers in ascending order, none of them twice.
use Rattle.std.specs.Prelude.{ℕ, ◌<◌, List, [], ◌∷◌}
use Rattle.meaning.specs.Lists.{◌∈◌}

-- Each number is below all that come after it.
abbrev pub Ascending : List ℕ → Type 0
Ascending [] = Unit
Ascending (x ∷ l) = ((y : ℕ) → y ∈ l → x < y) × Ascending l
