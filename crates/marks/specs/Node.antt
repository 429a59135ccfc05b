-- What a node marks, from the sets that the earlier ones mark.
use Rattle.std.specs.Prelude.{Bool, List, ℕ}
use Rattle.atl.specs.Game.{Game, States}
use Rattle.atl.specs.Marking.{next, always, eventually, until, swept}
use Rattle.meaning.specs.Atl.{Kind, NEXT, ALWAYS, EVENTUALLY, UNTIL}
use Rattle.marking.specs.Table.{side}
use Rattle.marking.specs.Rule.{bits, permits, rule}
use Rattle.sheet.specs.declared.question.Future.{Future}
use Rattle.sheet.specs.declared.question.Future.TheVariants.{Next, Always, Eventually, Until}

-- the marks of a coalition's future in the game G, where E a is the set that node a marks
unfoldable pub timed : Game → (ℕ → States) → Future → List Bool
timed G E (Next a) = next G (E a)
timed G E (Always a) = always G (E a)
timed G E (Eventually a) = eventually G (E a)
timed G E (Until a b) = until G (E a) (E b)

-- the same future, as the meaning names it
abbrev pub kind_of : Future → Kind
kind_of (Next a) = NEXT a
kind_of (Always a) = ALWAYS a
kind_of (Eventually a) = EVENTUALLY a
kind_of (Until a b) = UNTIL a b

-- the round counts of UNTIL, EVENTUALLY (not `bound`) or the loss of ALWAYS (nor `want`)
abbrev pub counts_in : Game → Bool → Bool → List ℕ → ℕ → ℕ → List ℕ
counts_in G want bound marks a b = swept G.states (rule G want (permits bound marks a)) (side want (bits marks b)) G.states
