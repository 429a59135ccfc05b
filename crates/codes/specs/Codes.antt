-- The code of a rule: its body as five sets, by which it is seen at once whether all its literals hold, and the member that its head adds.
use Rattle.std.specs.Prelude.{ℕ, ◌+◌, ◌-◌, ◌*◌, ◌≤◌, ◌<◌, ◌≡◌, Bool, cond, ◌&&◌, List, [], ◌∷◌, ◌++◌, eqb, ltb, get_or, set}
use Rattle.std.specs.Int.Bits.{bit_and}
use Rattle.facts.specs.Bits.{insert}
use Rattle.sheet.specs.Limits.{most_moves}
use Rattle.sheet.specs.declared.record.Part.{Part}
use Rattle.sheet.specs.Data.{Rule}
use Rattle.rules.specs.Kinds.{DOES}
use Rattle.rules.specs.declared.Ask.{Ask}
use Rattle.rules.specs.Rules.{member_of}

-- How many members a set may have: the bits of a word.
abbrev pub bits : ℕ
bits = 64

-- ---- the sets of a body
-- The set in which a literal stands: kind 1 has set 0, and so on.
abbrev pub set_no : Part → ℕ
set_no l = l.kind - 1

-- Where it stands there: its fact, its view, or its role's move.
abbrev pub place_of : Part → ℕ
place_of l = cond (eqb l.kind DOES) (most_moves * l.a + l.b) l.a

-- The sets w, with the literal in the set of its kind.
unfoldable pub noted : Part → List ℕ → List ℕ
noted l w = set w (set_no l) (insert (get_or w (set_no l) 0) (place_of l))

abbrev pub noted_all : List Part → List ℕ → List ℕ
noted_all [] w = w
noted_all (l ∷ b) w = noted_all b (noted l w)

-- No literal yet.
abbrev pub blank : List ℕ
blank = 0 ∷ 0 ∷ 0 ∷ 0 ∷ 0 ∷ []

-- The five sets of a body: the facts that must hold and those that must not, the views that must hold and those that must not, the moves that must be made.
unfoldable pub sets_of : List Part → List ℕ
sets_of b = noted_all b blank

-- The code of a rule for the set that is asked for.
unfoldable pub code_of : Ask → Rule → List ℕ
code_of q r = sets_of r.body ++ (member_of q r.head ∷ [])

-- The rules that add to the set that is asked for.
abbrev pub picked : Ask → List Rule → List Rule
picked q [] = []
picked q (r ∷ rs) = cond (ltb (member_of q r.head) bits) (r ∷ picked q rs) (picked q rs)

-- ---- what sets say
-- All of w is in x.
abbrev pub covers : ℕ → ℕ → Bool
covers x w = eqb (bit_and x w) w

-- None of w is in x.
abbrev pub avoids : ℕ → ℕ → Bool
avoids x w = eqb (bit_and x w) 0

-- The facts and the views are as the sets w ask.
unfoldable pub calm : List ℕ → ℕ → ℕ → Bool
calm w facts views = covers facts (get_or w 0 0) && (avoids facts (get_or w 1 0) && (covers views (get_or w 2 0) && avoids views (get_or w 3 0)))

-- The moves are.
unfoldable pub stirs : List ℕ → ℕ → Bool
stirs w joint = covers joint (get_or w 4 0)

-- ---- a joint move as a set: 16 * role + move for each role's move
abbrev pub made_by : ℕ → ℕ → ℕ → ℕ
made_by role move x = cond (ltb move most_moves) (insert x (most_moves * role + move)) x

unfoldable pub joint_of : List ℕ → ℕ
joint_of m = made_by 3 (get_or m 3 0) (made_by 2 (get_or m 2 0) (made_by 1 (get_or m 1 0) (made_by 0 (get_or m 0 0) 0)))

-- ---- the literals have a set and a place in it; a move is one of its role's sixteen
pub data Sound : List Part → Type 0 where
  none : Sound []
  one : {l : Part} {b : List Part} → 1 ≤ l.kind → l.kind ≤ 5 → place_of l < bits → (l.kind ≡ DOES → l.b < most_moves) → Sound b → Sound (l ∷ b)

pub data AllSound : List Rule → Type 0 where
  none : AllSound []
  one : {r : Rule} {rs : List Rule} → Sound r.body → AllSound rs → AllSound (r ∷ rs)
