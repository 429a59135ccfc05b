-- A number is found by its way: only the entry where it ends can be that number.
use Prim.Native.Nat.{ℕ, ◌≤◌, ◌<◌}
use mathlib.Core.Path.{◌≡◌, refl, sym, ◌∙◌, subst}
use mathlib.Core.List.{List}
use native.Mathlib.Omega.{arith}
use lib.ListN.{length, get_or, take, length-take}
use lib.Seq.{get_or-take}
use Rattle.meaning.specs.Lists.{place}
use Rattle.lookup.specs.Tree.{fact_limit, Way, Lands, Treed}
use Rattle.lookup.proofs.Ways.{entry_stops, lands_in, lands_once}
use Rattle.lookup.proofs.Place.{place_le, place_here, place_first}

module _ {table : List ℕ} {n : ℕ} {tests forks : List ℕ} (t : Treed table n tests forks) {x c : ℕ} (l : Lands tests forks x c) where
  -- an entry that is x is the one where the way ends
  only : (i : ℕ) → i < n → get_or table i 0 ≡ x → c ≡ i
  only i b e =
      let (r, w, s) = t.ends i b in
      lands_once t.forked l (subst (λ (z : ℕ). Way tests forks z fact_limit 0 r) e w) b s

  -- the length of the table that is looked at
  first_n : length (take n table) ≡ n
  first_n = rw length-take (omega (arith, t.inside))

  -- a place among the first n holds x
  held : place x (take n table) < n → get_or table (place x (take n table)) 0 ≡ x
  held b = sym (get_or-take n table (place x (take n table)) 0 b) ∙ place_here x (take n table) (omega (arith, first_n))

  pub hit : get_or table c 0 ≡ x → c ≡ place x (take n table)
  hit e =
      let b = lands_in t.forked l in
      let early : c < place x (take n table) → ⊥ = λ q. place_first x (take n table) c q (get_or-take n table c 0 b ∙ e) in
      let inside : place x (take n table) < n = omega (arith, early, first_n) in
      only (place x (take n table)) inside (held inside)

  pub missed : (get_or table c 0 ≡ x → ⊥) → n ≡ place x (take n table)
  missed other =
      let late : place x (take n table) < n → ⊥ = λ q. other (subst (λ (i : ℕ). get_or table i 0 ≡ x) (sym (only (place x (take n table)) q (held q))) (held q)) in
      omega (arith, late, place_le x (take n table), first_n)

  -- a number that is none of the first n is not that entry
  pub another : n ≤ place x (take n table) → get_or table c 0 ≡ x → ⊥
  another none e = omega (arith, hit e, lands_in t.forked l)

-- each entry has its own place
pub place_own : {table : List ℕ} {n : ℕ} {tests forks : List ℕ} → Treed table n tests forks → (i : ℕ) → i < n → place (get_or table i 0) (take n table) ≡ i
place_own t i b = let (r, w, s) = t.ends i b in sym (hit t (r, (w, entry_stops t.forked r fact_limit b s), sym s) refl)
