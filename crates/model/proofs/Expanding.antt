-- One state is expanded: its refusals in their order, or the tables with what it adds; and the end, when none is left.
use Prim.Native.Nat.{ℕ, suc, ◌+◌, ◌-◌, ◌*◌, ◌≤◌, ◌<◌}
use mathlib.Core.Path.{◌≡◌, sym, ap, ap₂, ◌∙◌, subst}
use mathlib.Core.List.{List, [], ◌∷◌, ◌++◌, map, append-nil, map-append}
use native.Mathlib.Numerals.{add-one}
use native.Mathlib.Omega.{arith}
use lib.ListN.{length, get_or, take, set, length-map}
use lib.Seq.{take_all, take-suc, ext_get_or}
use Rattle.tables.specs.Pad.{pad}
use Rattle.atl.specs.Bounded.{tabulate}
use Rattle.atl.proofs.Bounded.{length_tabulate, get_d_tabulate}
use Rattle.meaning.specs.Lists.{all, place}
use Rattle.meaning.specs.Rules.{Rules, options, moves, after, targets}
use Rattle.meaning.specs.Model.{found, total, NoChoice, no_choice, many_moves, many_states, IsRefusal}
use Rattle.meaning.specs.Filling.{add, starts_to, successors_to}
use Rattle.meaning.proofs.Firsts.{all_append}
use Rattle.meaning.proofs.Explore.{found_same, found_step}
use Rattle.meaning.proofs.Filling.{total_next, starts_next, successors_next, starts_done, successors_done}
use Rattle.meaning.proofs.Outcome.{turned, refused, finished}
use Rattle.offer.specs.Offer.{role_limit}
use Rattle.choices.proofs.Joints.{none_left, left_none}
use Rattle.model.specs.Counts.{row_of, counts, counts_to}
use Rattle.model.specs.Views.{views_to}
use Rattle.model.specs.declared.growing.Growing.{Growing}
use Rattle.model.specs.Tables.{Holds, numbers}
use Rattle.model.specs.Answers.{Accepts}
use Rattle.model.specs.Growing.{Numbered, Stage}
use Rattle.model.proofs.Holding.{holds_take, holds_entry, holds_more, holds_counted}

module _ {R : Rules} {seen : ℕ → ℕ} {limit joints k : ℕ} {g : Growing} (stage : Stage R seen limit joints k g) (h : k < g.found) {x m : ℕ} (x_is : x ≡ get_or g.states.now k 0) (m_is : m ≡ length (moves R x)) where
  here : k < length (found R k)
  here = omega (arith, stage.numbered.holds.count)

  abbrev s : ℕ
  s = get_or (found R k) k 0

  state_is : x ≡ get_or (found R k) k 0
  state_is = x_is ∙ holds_entry stage.numbered.holds k

  moves_are : m ≡ length (moves R (get_or (found R k) k 0))
  moves_are = m_is ∙ ap (λ (y : ℕ). length (moves R y)) state_is

  at_is : g.listed ≡ total R (take k (found R k))
  at_is = stage.successors_hold.count ∙ length-map (all (targets R) (take k (found R k))) (λ t. place t (found R k))

  total_is : total R (take (suc k) (found R k)) ≡ g.listed + m
  total_is = omega (arith, total_next R k here, at_is, moves_are)

  -- there is no joint move exactly where some role has none
  lacks : m ≡ 0 → NoChoice R k
  unfolding moves
  lacks e = none_left R.roles (options R s) (sym moves_are ∙ e)

  lively : (m ≡ 0 → ⊥) → ¬ NoChoice R k
  unfolding moves
  lively e (r, b, q) = e (moves_are ∙ left_none R.roles (options R s) r b q)

  pub stop_8 : m ≡ 0 → IsRefusal R limit joints 8 k
  stop_8 e = refused R limit joints 8 k stage.so_far here (no_choice (lacks e))

  pub stop_7 : (m ≡ 0 → ⊥) → joints - g.listed < m → IsRefusal R limit joints 7 k
  stop_7 e b = refused R limit joints 7 k stage.so_far here (many_moves (lively e) (omega (arith, total_is)))

  -- the targets that the code lists
  module _ (f : ℕ → ℕ) (same : (j : ℕ) → j < m → f j ≡ get_or (targets R x) j 0) where
    targets_are : tabulate m f ≡ targets R (get_or (found R k) k 0)
    targets_are =
        ext_get_or 0 (tabulate m f) (targets R x) (length_tabulate m f ∙ m_is ∙ sym (length-map (moves R x) (after R x)))
        (λ j b. let c : j < m = omega (arith, length_tabulate m f) in get_d_tabulate m f 0 j c ∙ same j c)
        ∙ ap (targets R) state_is

    found_is : add (take g.found g.states.now) (tabulate m f) ≡ found R (suc k)
    found_is = ap₂ add (holds_take stage.numbered.holds) targets_are ∙ sym (found_step R k here)

    pub stop_6 : (m ≡ 0 → ⊥) → m ≤ joints - g.listed → limit < length (add (take g.found g.states.now) (tabulate m f)) → IsRefusal R limit joints 6 k
    stop_6 e b o = refused R limit joints 6 k stage.so_far here (many_states (lively e) (omega (arith, total_is)) (omega (arith, o, ap length found_is)))

    successors_are : take g.listed g.successors.now ++ numbers (add (take g.found g.states.now) (tabulate m f)) (tabulate m f) ≡ successors_to R (suc k)
    successors_are =
        ap₂ (λ (z l : List ℕ). z ++ numbers l (tabulate m f)) (holds_take stage.successors_hold) found_is
        ∙ ap (λ (ts : List ℕ). successors_to R k ++ numbers (found R (suc k)) ts) targets_are
        ∙ sym (successors_next R k here)

    counts_are : (row : List ℕ) → row ≡ row_of R x → take (role_limit * k) g.counts.now ++ row ≡ counts_to R (suc k)
    counts_are row e =
        ap₂ (λ (z r : List ℕ). z ++ r) (holds_take stage.counts_hold) (e ∙ ap (row_of R) state_is)
        ∙ ap (λ (r : List ℕ). counts_to R k ++ r) (sym (append-nil (row_of R s)))
        ∙ sym (ap (counts R) (found_same R k ∙ take-suc (found R k) k 0 here) ∙ all_append (row_of R) (take k (found R k)) (s ∷ []))

    views_next : (v : ℕ) → v ≡ seen x → Holds limit (set g.views.now k v) (k + 1) (views_to R seen (suc k))
    views_next v e =
        subst (λ (l : List ℕ). Holds limit (set g.views.now k v) (k + 1) l)
        (ap (λ (y : ℕ). views_to R seen k ++ (y ∷ [])) (e ∙ ap seen state_is)
        ∙ sym (ap (map seen) (found_same R k ∙ take-suc (found R k) k 0 here) ∙ map-append seen (take k (found R k)) (s ∷ [])))
        (holds_more stage.views_hold v (omega (arith, stage.numbered.holds.room)))

    -- the tables with what the state adds
    pub next : (m ≡ 0 → ⊥) → m ≤ joints - g.listed → {after : Growing} (row : List ℕ) → row ≡ row_of R x → {v : ℕ} → v ≡ seen x
        → Numbered limit (add (take g.found g.states.now) (tabulate m f)) after
        → Holds joints after.successors.now after.listed (take g.listed g.successors.now ++ numbers (add (take g.found g.states.now) (tabulate m f)) (tabulate m f)) → after.listed ≡ g.listed + m
        → Holds (role_limit * limit) after.counts.now (role_limit * (k + 1)) (take (role_limit * k) g.counts.now ++ row)
        → after.starts.now ≡ set g.starts.now (k + 1) (g.listed + m) → after.views.now ≡ set g.views.now k v → Stage R seen limit joints (k + 1) after
    next e b {after} row r {v} is p q at w starts views =
        let states_next : Numbered limit (found R (suc k)) after = subst (λ (l : List ℕ). Numbered limit l after) found_is p in
        let grown : Holds (limit + 1) (set g.starts.now (k + 1) (g.listed + m)) (k + 1 + 1) (starts_to R k ++ ((g.listed + m) ∷ [])) =
        holds_more stage.starts_hold (g.listed + m) (omega (arith, stage.numbered.holds.room)) in
        let starts_are : starts_to R k ++ ((g.listed + m) ∷ []) ≡ starts_to R (suc k) = ap (λ (t : ℕ). starts_to R k ++ (t ∷ [])) (sym total_is) ∙ sym (starts_next R k here) in
        subst (λ (i : ℕ). Stage R seen limit joints i after) (sym (add-one k))
        (record {
          so_far =
              turned R limit joints k stage.so_far here (lively e) (omega (arith, total_is, stage.successors_hold.room)) (omega (arith, states_next.holds.count, states_next.holds.room));
          numbered = states_next;
          starts_hold = rw starts (holds_counted (subst (λ (l : List ℕ). Holds (limit + 1) (set g.starts.now (k + 1) (g.listed + m)) (k + 1 + 1) l) starts_are grown) (omega arith));
          successors_hold = subst (λ (l : List ℕ). Holds joints after.successors.now after.listed l) successors_are q;
          counts_hold = holds_counted (subst (λ (l : List ℕ). Holds (role_limit * limit) after.counts.now (role_limit * (k + 1)) l) (counts_are row r) w) (omega arith);
          views_hold = rw views (holds_counted (views_next v is) (omega arith));
        })

-- the end: no state is left
pub done : {R : Rules} {seen : ℕ → ℕ} {limit joints k : ℕ} {g : Growing} → Stage R seen limit joints k g → g.found ≤ k → Accepts R seen limit joints g.found g.listed g.states.now g.starts.now g.successors.now g.counts.now g.views.now
done {R} {seen} {limit} {joints} {k} stage b =
    let all_of : length (found R k) ≤ k = omega (arith, stage.numbered.holds.count) in
    let whole = take_all k (found R k) all_of in
    record {
      positions = found R k;
      is_model = finished R limit joints k stage.so_far all_of;
      count = stage.numbered.holds.count;
      moves = stage.successors_hold.count ∙ length-map (all (targets R) (take k (found R k))) (λ t. place t (found R k)) ∙ ap (total R) whole;
      states_are = stage.numbered.holds.is;
      starts_are = stage.starts_hold.is ∙ ap (pad (limit + 1)) (starts_done R k all_of);
      successors_are = stage.successors_hold.is ∙ ap (pad joints) (successors_done R k all_of);
      counts_are = stage.counts_hold.is ∙ ap (λ (l : List ℕ). pad (role_limit * limit) (counts R l)) whole;
      views_are = stage.views_hold.is ∙ ap (λ (l : List ℕ). pad limit (map seen l)) whole;
    }
