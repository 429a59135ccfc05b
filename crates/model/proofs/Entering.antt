-- A state is entered into the table of states where it is new.
use Prim.Native.Nat.{ℕ, ◌+◌, ◌≤◌, ◌<◌}
use mathlib.Core.Path.{◌≡◌, sym, ap, subst}
use mathlib.Core.Bool.{Bool, cond}
use mathlib.Core.List.{List, [], ◌∷◌, ◌++◌}
use native.Mathlib.Omega.{arith}
use lib.ListN.{length, take, set, length-set}
use lib.Seq.{get_or-set_same, get_or-set_other}
use borrow.Author.Tests.{le-ltb}
use Rattle.lookup.proofs.Place.{place_le}
use Rattle.lookup.specs.Tree.{Treed, Enrolled}
use Rattle.meaning.specs.Lists.{place}
use Rattle.meaning.specs.Filling.{grown}
use Rattle.model.specs.Tables.{Holds, Clean}
use Rattle.model.proofs.Holding.{holds_length, holds_more}

pub grown_new : (l : List ℕ) (t : ℕ) → length l ≤ place t l → grown l t ≡ l ++ (t ∷ [])
grown_new l t h = ap (λ (b : Bool). cond b l (l ++ (t ∷ []))) (le-ltb (place t l) (length l) h)

-- t is stored behind the n states of the table, and comes into their tree
pub entered_new : {limit n t : ℕ} {states : List ℕ} → Clean limit states n → n ≤ place t (take n states) → n < limit → (tests forks : List ℕ) → Enrolled states n t tests forks
    → (n ≡ place t (take n states)) × Holds limit (set states n t) (n + 1) (grown (take n states) t) × Treed (set states n t) (n + 1) tests forks
entered_new {limit} {n} {t} {states} h b r tests forks tree =
    let l = take n states in
    let inside : n < length states = omega (arith, holds_length h) in (
      omega (arith, h.count, place_le t l),
      subst (λ (k : List ℕ). Holds limit (set states n t) (n + 1) k) (sym (grown_new l t (omega (arith, h.count)))) (holds_more h t r),
      tree (set states n t) (omega (arith, length-set states n t)) (λ i q. get_or-set_other states n i t 0 (λ e. omega arith)) (get_or-set_same states n t 0 inside),
    )
