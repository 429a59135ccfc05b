-- What a round asks of a position.
use Rattle.std.specs.Prelude.{◌≡◌, Bool, true, false, ◌&&◌, List, ℕ, ◌<◌, get_or, length}
use Rattle.facts.specs.Bits.{has}
use Rattle.atl.specs.Game.{Game, States}
use Rattle.atl.specs.Marking.{unset, force}
use Rattle.marking.specs.Table.{side}

-- the positions that node k marks
abbrev pub bits : List ℕ → ℕ → States
bits marks k i = has (get_or marks i 0) k

-- those, or every position
abbrev pub permits : Bool → List ℕ → ℕ → States
permits true marks k i = has (get_or marks i 0) k
permits false marks k i = true

-- A position of a takes a count where some choice secures the set w, or, on the other side, where no choice keeps out of it.
unfoldable pub rule : Game → Bool → States → States → States
rule G want a w i = a i && side want (force G (side want w)) i

-- each entry of the table is a count of at most r, or none
abbrev pub Counts : ℕ → List ℕ → Type 0
Counts r l = (i : ℕ) → i < length l → r < get_or l i 0 → get_or l i 0 ≡ unset
