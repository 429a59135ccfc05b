-- What the walk reads and what it has, as the code holds them.
use Rattle.std.specs.Prelude.{◌≡◌, cond, List, ℕ, ◌+◌, ltb, set}
use Rattle.atl.specs.Bounded.{tabulate}
use Rattle.atl.specs.Marking.{unset, swept}
use Rattle.radix.specs.Classes.{moves_at}
use Rattle.atl.specs.Game.{States}
use Rattle.incoming.specs.Index.{at, many}
use Rattle.marking.specs.Board.{game_of, passable}
use Rattle.marking.specs.Rule.{rule}
use Rattle.backward.specs.Walk.{Walk, walk, kind, visit, arrive, passes, Sized, Opens}
use Rattle.backward.specs.declared.ground.Ground.{Ground}
use Rattle.backward.specs.declared.Walk.{Walk as Tables}

-- how many positions and joint moves there are
abbrev pub positions : Ground → ℕ
positions g = g.board.joints.n

abbrev pub joints : Ground → ℕ
joints g = at g.board.joints.starts.now g.board.joints.n

-- the position and the class of a joint move
abbrev pub own : Ground → ℕ → ℕ
own g = at g.incoming.owners.now

abbrev pub class_of : Ground → ℕ → ℕ
class_of g = kind g.board.joints.starts.now g.board.classes.now g.incoming.owners.now

-- the positions that may take a count
abbrev pub may : Ground → States
may g = passable g.through

-- what a round asks of a position
abbrev pub asks : Ground → States → States
asks g = rule (game_of g.board) g.want (may g)

-- how many classes a position waits for: one where a choice is looked for, and else all that it has
abbrev pub waits : Ground → List ℕ → ℕ → ℕ
waits g left i = cond g.want 1 (many (moves_at g.board.joints.starts.now i) (λ k. ltb 0 (at left (at g.board.joints.starts.now i + k))))

-- the counts before the first round, from the positions of b, and after all rounds
abbrev pub Fresh : ℕ → List ℕ → States → Type 0
Fresh n rounds b = rounds ≡ tabulate n (λ i. cond (b i) 0 unset)

abbrev pub counts : Ground → States → List ℕ
counts g b = swept (positions g) (asks g) b (positions g)

-- what the tables of the walk hold
abbrev pub held : Tables → Walk
held t = record { left = t.left.now; need = t.need; rounds = t.rounds.now; queue = t.queue; more = t.more }

-- one position more in the queue
abbrev pub pushed : ℕ → Walk → Walk
pushed i w = walk w.left w.need w.rounds (set w.queue w.more i) (w.more + 1)

-- they have room
abbrev pub Roomy : Ground → Tables → Type 0
Roomy g t = Sized (positions g) (joints g) (held t)

-- they have the counters before the walk
abbrev pub Open : Ground → Tables → Type 0
Open g t = Opens (positions g) g.board.joints.starts.now g.board.classes.now g.incoming.owners.now g.want t.left.now t.need

-- they are the same tables
pub record Same (t u : Tables) : Type 0 where
  pub left : t.left.ghost_name ≡ u.left.ghost_name
  pub rounds : t.rounds.ghost_name ≡ u.rounds.ghost_name

-- one joint move, those that lead to one position, and those that lead to positions of the queue
abbrev pub visited : Ground → ℕ → ℕ → Walk → Walk
visited g = visit (own g) (class_of g) g.want (may g)

abbrev pub arrived : Ground → ℕ → ℕ → Walk → Walk
arrived g = arrive (own g) (class_of g) g.want (may g) g.incoming.froms.now g.incoming.index.now

abbrev pub passed : Ground → ℕ → ℕ → ℕ → Walk → Walk
passed g = passes (own g) (class_of g) g.want (may g) g.incoming.froms.now g.incoming.index.now
