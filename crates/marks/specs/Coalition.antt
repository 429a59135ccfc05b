-- The game of a coalition and what is found in it, as the code holds them.
use Rattle.std.specs.Prelude.{◌≡◌, true, List, ℕ, Option, Some, None}
use Rattle.atl.specs.Game.{Game, States}
use Rattle.atl.specs.Marking.{swept}
use Rattle.marking.specs.Table.{side}
use Rattle.marking.specs.Rule.{bits, rule}
use Rattle.marks.specs.Model.{in_counts}
use Rattle.marks.specs.declared.arena.Coalition.{Coalition}
use Rattle.marks.specs.declared.Spread.{Spread}
use Rattle.marks.specs.declared.Answer.{Answer}

-- the game as the coalition meets it
abbrev pub meets : Coalition → Game
meets c = in_counts c.arena.joints.n c.arena.joints.starts.now c.arena.joints.successors.now c.arena.counts.now c.mask

-- the positions that a node marks, or every position
abbrev pub reaches : List ℕ → Option ℕ → States
reaches marks (Some a) i = bits marks a i
reaches marks None i = true

-- the round counts of UNTIL, EVENTUALLY and the loss of ALWAYS
abbrev pub spread_counts : Game → List ℕ → Spread → List ℕ
spread_counts G marks s = swept G.states (rule G s.want (reaches marks s.through)) (side s.want (bits marks s.from)) G.states

-- they are the same tables
pub record SameTables (a b : Answer) : Type 0 where
  pub marks : a.marks.ghost_name ≡ b.marks.ghost_name
  pub rounds : a.rounds.ghost_name ≡ b.rounds.ghost_name
  pub choices : a.choices.ghost_name ≡ b.choices.ghost_name
