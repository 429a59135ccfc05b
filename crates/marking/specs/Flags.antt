-- The lowest choice of a position, by one flag a class.
use Rattle.std.specs.Prelude.{Bool, cond, List, ℕ, zero, suc, ◌+◌, eqb, ltb, get_or, set, Option, Some, None}
use Rattle.atl.specs.Game.{States}
use Rattle.atl.specs.Bounded.{lowest}
use Rattle.radix.specs.Classes.{filled}

-- the first k entries 0
abbrev pub cleared : List ℕ → ℕ → List ℕ
cleared l k = filled (λ x. 0) l k

-- One joint move, of class c: the class is struck out unless the move leads into the set.
abbrev pub strike : Bool → List ℕ → ℕ → List ℕ
strike x l c = cond x l (set l c 1)

-- The first k joint moves from place `first` on.
unfoldable pub strikes : List ℕ → List ℕ → States → ℕ → List ℕ → ℕ → List ℕ
strikes successors classes w first l zero = l
strikes successors classes w first l (suc k) = strike (w (get_or successors (first + k) 0)) (strikes successors classes w first l k) (get_or classes (first + k) 0)

-- the class of the joint move at `first + j` is not struck out
abbrev pub clean : List ℕ → List ℕ → ℕ → ℕ → Bool
clean classes flags first j = eqb (get_or flags (get_or classes (first + j) 0) 0) 0

-- number j, where it is below n
abbrev pub found_of : ℕ → ℕ → Option ℕ
found_of n j = cond (ltb j n) (Some j) None

-- the lowest of n that passes, if any
unfoldable pub first_of : ℕ → (ℕ → Bool) → Option ℕ
first_of n p = found_of n (lowest n p)
