-- What the code is lent: a game in tables, the positions that are to be secured, and those that a node marks.
use Rattle.std.specs.Prelude.{true, List, ℕ, ◌≤◌, ◌<◌, length, Option, Some, None, get_or}
use Rattle.atl.specs.Game.{Game, States}
use Rattle.atl.specs.Marking.{counted}
use Rattle.radix.specs.Classes.{moves_at}
use Rattle.marking.specs.Table.{in_tables, side}
use Rattle.marking.specs.Flags.{cleared, strikes}
use Rattle.marking.specs.Rule.{bits}
use Rattle.marking.specs.declared.game.Board.{Board}
use Rattle.marking.specs.declared.Aim.{Aim}
use Rattle.marking.specs.declared.Marked.{Marked}

-- the game in the tables
abbrev pub game_of : Board → Game
game_of b = in_tables b.joints.n b.joints.starts.now b.joints.successors.now b.classes.now

-- the positions to be secured
abbrev pub aimed : Aim → States
aimed a = side a.want (counted a.table.now a.r)

-- the positions that a node marks
abbrev pub marked_by : Marked → States
marked_by m = bits m.marks.now m.k

-- those, or every position
abbrev pub passable : Option Marked → States
passable (Some m) i = marked_by m i
passable None i = true

-- What trying the choices of position i asks: the table has an entry for each position, and there is room for a flag for each joint move.
abbrev pub Tried : Board → List ℕ → ℕ → List ℕ → Type 0
Tried b table i flags = (b.joints.n ≤ length table) × (length b.joints.successors.now ≤ length flags) × (i < b.joints.n)

-- the flags of position i: cleared, and struck by each of its joint moves
abbrev pub secured : Board → States → ℕ → List ℕ → List ℕ
secured b w i flags =
    let count = moves_at b.joints.starts.now i in
    strikes b.joints.successors.now b.classes.now w (get_or b.joints.starts.now i 0) (cleared flags count) count
