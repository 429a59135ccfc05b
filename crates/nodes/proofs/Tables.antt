-- The tables of an accepted model, as the marking reads them: its positions are the first n states.
use Prim.Native.Nat.{ℕ, ◌*◌, ◌+◌, ◌≤◌, ◌<◌}
use mathlib.Core.Path.{◌≡◌, sym, ap, ap₂, ◌∙◌, subst}
use mathlib.Core.Bool.{Bool, cond}
use mathlib.Core.List.{List, [], ◌∷◌, map}
use native.Mathlib.Omega.{arith}
use borrow.Author.Tests.{lt-ltb, le-ltb}
use lib.Dec.{ltb}
use lib.ListN.{length, get_or, take, length-append, length-map}
use Rattle.tables.specs.Lengths.{state_limit, move_limit}
use Rattle.tables.specs.Pad.{pad}
use Rattle.tables.proofs.Pad.{length_pad, take_pad, get_or_pad}
use Rattle.atl.proofs.Bounded.{length_tabulate}
use Rattle.meaning.specs.Lists.{all, place}
use Rattle.meaning.specs.Rules.{Rules, options, targets}
use Rattle.meaning.specs.Model.{IsModel, total, successors}
use Rattle.meaning.proofs.Firsts.{Distinct}
use Rattle.offer.specs.Offer.{role_limit}
use Rattle.model.specs.Counts.{count_of, row_of, counts}
use Rattle.model.specs.Answers.{Accepts}
use Rattle.model.proofs.Theorems.{counts_right}
use Rattle.marks.specs.Held.{Held}
use Rattle.marks.specs.Model.{Model}
use Rattle.marks.proofs.Join as join

counts_length : (R : Rules) (l : List ℕ) → length (counts R l) ≡ role_limit * length l
counts_length R [] = omega arith
counts_length R (x ∷ l) = length-append (row_of R x) (counts R l) ∙ omega (arith, length_tabulate role_limit (count_of R x), counts_length R l)

module _ {R : Rules} {seen : ℕ → ℕ} {n m : ℕ} {states starting following counting views : List ℕ} (a : Accepts R seen state_limit move_limit n m states starting following counting views) where
  positions_are : a.positions ≡ take n states
  positions_are = sym (ap₂ take a.count a.states_are ∙ take_pad state_limit a.positions)

  pub is_model : IsModel R state_limit move_limit (take n states)
  is_model = subst (IsModel R state_limit move_limit) positions_are a.is_model

  pub number : n ≡ length (take n states)
  number = a.count ∙ ap length positions_are

  pub few : n ≤ state_limit
  few = omega (arith, a.count, a.is_model.few)

  pub states_long : length states ≡ state_limit
  states_long = ap length a.states_are ∙ length_pad state_limit a.positions a.is_model.few

  state_is : (i : ℕ) → get_or states i 0 ≡ get_or a.positions i 0
  state_is i = ap (λ (x : List ℕ). get_or x i 0) a.states_are ∙ get_or_pad state_limit a.positions i

  pub state_at : (i : ℕ) → get_or states i 0 ≡ get_or (take n states) i 0
  state_at i = state_is i ∙ ap (λ (x : List ℕ). get_or x i 0) positions_are

  count_at : (i r : ℕ) → i < length a.positions → r < role_limit → get_or counting (role_limit * i + r) 0 ≡ count_of R (get_or a.positions i 0) r
  count_at i r h b = counts_right a i r (omega (arith, a.count)) b ∙ ap (λ (x : ℕ). count_of R x r) (state_is i)

  counts_long : length counting ≡ role_limit * state_limit
  counts_long =
      ap length a.counts_are ∙ length_pad (role_limit * state_limit) (counts R a.positions) (omega (arith, counts_length R a.positions, a.is_model.few))

  pub views_long : length views ≡ state_limit
  views_long =
      ap length a.views_are ∙ length_pad state_limit (map seen a.positions) (omega (arith, length-map a.positions seen, a.is_model.few))

  pub held : R.roles ≤ role_limit → Held R (take n states) n starting following counting
  unfolding pad
  held four =
      subst (λ (l : List ℕ). Held R l n starting following counting) positions_are
      (join.held_made R a.positions n starting following counting _ _ a.count a.starts_are a.successors_are (omega (arith, counts_long, few))
      (λ i r h b. count_at i r h (omega arith) ∙ counted i r (lt-ltb r R.roles b))
      (λ i r h p b. count_at i r h b ∙ counted i r (le-ltb r R.roles p)))
    where
      counted : (i r : ℕ) {t : Bool} → ltb r R.roles ≡ t → count_of R (get_or a.positions i 0) r ≡ cond t (length (options R (get_or a.positions i 0) r)) 1
      counted i r e = ap (λ (x : Bool). cond x (length (options R (get_or a.positions i 0) r)) 1) e

  pub modelled : R.roles ≤ role_limit → ((i r : ℕ) → i < length (take n states) → r < R.roles → Distinct (options R (get_or (take n states) i 0) r))
      → Model state_limit move_limit n starting following counting
  modelled four distinct =
      let l = a.positions in
      let e : length (successors R l) ≡ total R l = length-map (all (targets R) l) (λ x. place x l) in
      let z = ap length a.successors_are ∙ length_pad move_limit (successors R l) (omega (arith, e, a.is_model.fits)) in
      join.is_model R (take n states) state_limit move_limit is_model four distinct n starting following counting (held four) (omega (arith, z))
