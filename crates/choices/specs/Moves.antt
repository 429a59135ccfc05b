-- A role's choices as a list, the joint moves that several roles' choices make, and a joint move's number.
use Rattle.std.specs.Prelude.{ℕ, zero, suc, ◌+◌, ◌*◌, ◌/◌, ◌%◌, ◌^◌, min, Bool, true, false, List, [], ◌∷◌, eqb, length, get_or}
use Rattle.std.specs.Int.Count.{ones}
use Rattle.facts.specs.Bits.{has}

-- x in front, where the test says so
abbrev pub cons_if : Bool → ℕ → List ℕ → List ℕ
cons_if true x l = x ∷ l
cons_if false x l = l

-- the members of the set n among the d numbers from i on, ascending
unfoldable pub members_from : ℕ → ℕ → ℕ → List ℕ
members_from zero i n = []
members_from (suc d) i n = cons_if (has n i) i (members_from d (i + 1) n)

-- the members of a sixteen-bit set, ascending
unfoldable pub members : ℕ → List ℕ
unfolding members_from
members n = members_from 16 0 n

-- the set has 0 and all up to k: the next number is a multiple of 2 ^ (k + 1)
unfoldable pub full : ℕ → ℕ → Bool
full n k = eqb ((n + 1) % 2 ^ (k + 1)) 0

-- how many joint moves the choice sets of some roles make: the product of their counts
unfoldable pub total : List ℕ → ℕ
total [] = 1
total (s ∷ ss) = length (members s) * total ss

-- the joint move of number j, a move for each role, the first role slowest; 16 stands where a set has no such member
unfoldable pub decode : List ℕ → ℕ → List ℕ
decode [] j = []
decode (s ∷ ss) j = get_or (members s) (j / total ss) 16 ∷ decode ss (j % total ss)

-- how many members of a sixteen-bit set are below m
unfoldable pub rank : ℕ → ℕ → ℕ
rank s m = ones (s % 2 ^ min m 16)

-- the number of a joint move, carried on from n over the roles that are left
unfoldable pub encode : List ℕ → List ℕ → ℕ → ℕ
encode [] ms n = n
encode (s ∷ ss) [] n = n
encode (s ∷ ss) (m ∷ ms) n = encode ss ms (n * length (members s) + rank s m)

-- a move for each of four roles: 0 for those that take no part
abbrev pub four : List ℕ → List ℕ
four m = get_or m 0 0 ∷ get_or m 1 0 ∷ get_or m 2 0 ∷ get_or m 3 0 ∷ []
