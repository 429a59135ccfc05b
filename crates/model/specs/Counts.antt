-- The table of counts: how many moves each of four roles has in each position.
use Rattle.std.specs.Prelude.{ℕ, cond, List, ltb, length, take}
use Rattle.atl.specs.Bounded.{tabulate}
use Rattle.meaning.specs.Lists.{all}
use Rattle.meaning.specs.Rules.{Rules, options}
use Rattle.meaning.specs.Model.{found}
use Rattle.offer.specs.Offer.{role_limit}

module _ (R : Rules) where
  -- How many moves role r has in position s; one for a role that takes no part.
  abbrev pub count_of : ℕ → ℕ → ℕ
  count_of s r = cond (ltb r R.roles) (length (options R s r)) 1

  -- The counts of a position, role by role.
  abbrev pub row_of : ℕ → List ℕ
  row_of s = tabulate role_limit (count_of s)

  -- The counts of the positions l, position by position.
  abbrev pub counts : List ℕ → List ℕ
  counts l = all row_of l

  -- The table of counts when k positions have been expanded.
  abbrev pub counts_to : ℕ → List ℕ
  counts_to k = counts (take k (found R k))
