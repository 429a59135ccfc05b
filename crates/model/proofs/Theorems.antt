-- What the five tables of an accepted model say, entry by entry; and that the answer and the tables are determined.
use Prim.Native.Nat.{ℕ, zero, suc, ◌+◌, ◌*◌, ◌<◌}
use mathlib.Core.Path.{◌≡◌, sym, ap, ap₂, ◌∙◌, subst}
use mathlib.Core.Logic.{◌↔◌}
use mathlib.Core.List.{List, [], ◌∷◌, ◌++◌, map}
use native.Mathlib.Nat.{not-suc-le-zero, le_of_suc-le-suc}
use native.Mathlib.Omega.{arith}
use lib.ListN.{length, get_or, get_or-append, length-map}
use lib.Seq.{get_or-append-add}
use Rattle.atl.proofs.Bounded.{get_d_tabulate}
use Rattle.tables.specs.Pad.{pad}
use Rattle.tables.proofs.Pad.{get_or_pad}
use Rattle.meaning.specs.Lists.{◌∈◌, all, place}
use Rattle.meaning.specs.Rules.{Rules, moves, after, targets, Reach}
use Rattle.meaning.specs.Model.{total, IsRefusal, IsModel, starts, successors}
use Rattle.meaning.proofs.Lists.{at_∈, ∈-at, get_d_map, at_place, place_lt}
use Rattle.meaning.proofs.Firsts.{distinct_place}
use Rattle.meaning.proofs.Numbering as numbering
use Rattle.meaning.proofs.Bridge.{target_at}
use Rattle.meaning.proofs.Tables as tables
use Rattle.meaning.proofs.Filling.{starts_total}
use Rattle.meaning.proofs.Outcome.{refusal_unique, model_unique, model_not_refused}
use Rattle.offer.specs.Offer.{role_limit}
use Rattle.model.specs.declared.Refusal.{Refusal}
use Rattle.model.specs.declared.Refusal.TheVariants.{NoChoice, ManyMoves, ManyStates}
use Rattle.model.specs.declared.Built.{Built}
use Rattle.std.proofs.Common.{Result, Ok, Err}
use Rattle.model.specs.Counts.{count_of, row_of, counts}
use Rattle.model.specs.Answers.{number_of, place_of, Accepts, Builds}

module _ {R : Rules} {seen : ℕ → ℕ} {limit joints n m : ℕ} {st sa su co vi : List ℕ} (a : Accepts R seen limit joints n m st sa su co vi) where
  abbrev l : List ℕ
  l = a.positions

  state_is : (i : ℕ) → get_or st i 0 ≡ get_or a.positions i 0
  state_is i = ap (λ (t : List ℕ). get_or t i 0) a.states_are ∙ get_or_pad limit l i

  start_is : (i : ℕ) → get_or sa i 0 ≡ get_or (starts R a.positions) i 0
  start_is i = ap (λ (t : List ℕ). get_or t i 0) a.starts_are ∙ get_or_pad (limit + 1) (starts R l) i

  successor_is : (p : ℕ) → get_or su p 0 ≡ get_or (successors R a.positions) p 0
  successor_is p = ap (λ (t : List ℕ). get_or t p 0) a.successors_are ∙ get_or_pad joints (successors R l) p

  inside : (i : ℕ) → i < n → i < length a.positions
  inside i h = omega (arith, a.count)

  -- The states by number are exactly the positions that can be reached.
  pub positions_right : (s : ℕ) → ((i : ℕ) × (i < n) × (get_or st i 0 ≡ s)) ↔ Reach R s
  positions_right s = (to, from)
    where
      to : (i : ℕ) × (i < n) × (get_or st i 0 ≡ s) → Reach R s
      to (i, h, e) = subst (Reach R) (sym (state_is i) ∙ e) (a.is_model.positions.reached _ (at_∈ l i 0 (inside i h)))

      from : Reach R s → (i : ℕ) × (i < n) × (get_or st i 0 ≡ s)
      from r = let (i, h, e) = ∈-at s l 0 (numbering.has_reached R l a.is_model.positions s r) in (i, omega (arith, a.count), state_is i ∙ e)

  -- Each has one number.
  pub positions_once : (i j : ℕ) → i < n → j < n → get_or st i 0 ≡ get_or st j 0 → i ≡ j
  positions_once i j h k e =
      let d = numbering.positions_distinct R l a.is_model.positions in
      sym (distinct_place l d i (inside i h)) ∙ ap (λ (s : ℕ). place s l) (sym (state_is i) ∙ e ∙ state_is j) ∙ distinct_place l d j (inside j k)

  -- The initial one has number 0.
  pub positions_first : (0 < n) × (get_or st 0 0 ≡ R.initial)
  positions_first =
      let e = a.is_model.positions.order in
      (omega (arith, a.count, ap length e), state_is 0 ∙ ap (λ (k : List ℕ). get_or k 0 0) e)

  -- The starts are running sums of the numbers of joint moves, then the total.
  pub starts_right : (get_or sa 0 0 ≡ 0) × (get_or sa n 0 ≡ m) × ((i : ℕ) → i < n → get_or sa (suc i) 0 ≡ get_or sa i 0 + length (moves R (get_or st i 0)))
  starts_right = (
    start_is 0 ∙ tables.starts_first R l,
    start_is n ∙ ap (λ (k : ℕ). get_or (starts R l) k 0) a.count ∙ starts_total R l ∙ sym a.moves,
    λ i h.
        start_is (suc i)
        ∙ tables.starts_next R l i (inside i h)
        ∙ ap₂ (λ (x s : ℕ). x + length (moves R s)) (sym (start_is i)) (sym (state_is i)),
  )

  -- Joint move j of state i stands behind its start, and its entry is the number of its target.
  pub moves_right : (i j : ℕ) → i < n → j < length (moves R (get_or st i 0))
      → (get_or sa i 0 + j < m) × (get_or su (get_or sa i 0 + j) 0 < n) × (get_or st (get_or su (get_or sa i 0 + j) 0) 0 ≡ after R (get_or st i 0) (get_or (moves R (get_or st i 0)) j []))
  moves_right i j h b =
      let s = get_or l i 0 in
      let c : j < length (moves R (get_or a.positions i 0)) = subst (λ (x : ℕ). j < length (moves R x)) (state_is i) b in
      let (u, v) = tables.successors_right R l i j (inside i h) c in
      let t = get_or (targets R s) j 0 in
      let there : get_or (targets R (get_or a.positions i 0)) j 0 ∈ a.positions =
      numbering.has_targets R l a.is_model.positions s t (at_∈ l i 0 (inside i h)) (at_∈ (targets R s) j 0 (omega (arith, length-map (moves R s) (after R s)))) in
      let entry : get_or su (get_or sa i 0 + j) 0 ≡ place (get_or (targets R (get_or a.positions i 0)) j 0) a.positions =
      successor_is (get_or sa i 0 + j) ∙ ap (λ (x : ℕ). get_or (successors R l) (x + j) 0) (start_is i) ∙ v in (
        omega (arith, u, start_is i, length-map (all (targets R) l) (λ x. place x l), a.moves),
        omega (arith, entry, place_lt t l there, a.count),
        ap (λ (k : ℕ). get_or st k 0) entry ∙ state_is (place t l) ∙ at_place t l there ∙ target_at R a.is_model.playable s j c ∙ ap (λ (x : ℕ). after R x (get_or (moves R x) j [])) (sym (state_is i)),
      )

  -- The counts of state i, role by role.
  pub counts_right : (i r : ℕ) → i < n → r < role_limit → get_or co (role_limit * i + r) 0 ≡ count_of R (get_or st i 0) r
  counts_right i r h b =
      ap (λ (t : List ℕ). get_or t (role_limit * i + r) 0) a.counts_are
      ∙ get_or_pad (role_limit * limit) (counts R l) (role_limit * i + r)
      ∙ go l i (inside i h)
      ∙ ap (λ (s : ℕ). count_of R s r) (sym (state_is i))
    where
      go : (k : List ℕ) (i : ℕ) → i < length k → get_or (counts R k) (role_limit * i + r) 0 ≡ count_of R (get_or k i 0) r
      go [] i h = absurd (not-suc-le-zero h)
      go (s ∷ k) zero h =
          let e : role_limit * 0 + r ≡ r = omega arith in
          ap (λ (p : ℕ). get_or (row_of R s ++ counts R k) p 0) e
          ∙ get_or-append (row_of R s) (counts R k) 0 r b
          ∙ get_d_tabulate role_limit (count_of R s) 0 r b
      go (s ∷ k) (suc i) h =
          let e : role_limit * suc i + r ≡ role_limit + (role_limit * i + r) = omega arith in
          ap (λ (p : ℕ). get_or (row_of R s ++ counts R k) p 0) e
          ∙ get_or-append-add (row_of R s) (counts R k) (role_limit * i + r) 0
          ∙ go k i (le_of_suc-le-suc h)

  -- The views of state i.
  pub views_right : (i : ℕ) → i < n → get_or vi i 0 ≡ seen (get_or st i 0)
  views_right i h =
      ap (λ (t : List ℕ). get_or t i 0) a.views_are ∙ get_or_pad limit (map seen l) i ∙ get_d_map seen l i 0 0 (inside i h) ∙ ap seen (sym (state_is i))

-- A refusal has one number and one place.
same_refusal : (f g : Refusal) → number_of f ≡ number_of g → place_of f ≡ place_of g → f ≡ g
same_refusal (NoChoice k) (NoChoice i) e p = ap NoChoice p
same_refusal (ManyMoves k) (ManyMoves i) e p = ap ManyMoves p
same_refusal (ManyStates k) (ManyStates i) e p = ap ManyStates p
same_refusal (NoChoice k) (ManyMoves i) e p = absurd (omega (arith, e))
same_refusal (NoChoice k) (ManyStates i) e p = absurd (omega (arith, e))
same_refusal (ManyMoves k) (NoChoice i) e p = absurd (omega (arith, e))
same_refusal (ManyMoves k) (ManyStates i) e p = absurd (omega (arith, e))
same_refusal (ManyStates k) (NoChoice i) e p = absurd (omega (arith, e))
same_refusal (ManyStates k) (ManyMoves i) e p = absurd (omega (arith, e))

module _ (R : Rules) (seen : ℕ → ℕ) (limit joints : ℕ) where
  -- An accepted model is accepted, and a refusal is given, exactly where the meaning says so.
  pub accepted_exactly : (r : Result Built Refusal) (st sa su co vi : List ℕ) → Builds R seen limit joints r st sa su co vi → (l : List ℕ) → IsModel R limit joints l
      → r ≡ Ok (record { states = length l; moves = total R l })
  accepted_exactly (Ok n) st sa su co vi b l is =
      let same = model_unique R limit joints b.positions l b.is_model is in
      ap₂ (λ (n m : ℕ). Ok (record { states = n; moves = m })) (b.count ∙ ap length same) (b.moves ∙ ap (total R) same)
  accepted_exactly (Err f) st sa su co vi b l is = absurd (model_not_refused R limit joints l (number_of f) (place_of f) is b.0)

  pub refused_exactly : (r : Result Built Refusal) (st sa su co vi : List ℕ) → Builds R seen limit joints r st sa su co vi → (f : Refusal) → IsRefusal R limit joints (number_of f) (place_of f) → r ≡ Err f
  refused_exactly (Ok n) st sa su co vi b f is = absurd (model_not_refused R limit joints b.positions (number_of f) (place_of f) b.is_model is)
  refused_exactly (Err g) st sa su co vi b f is =
      let (e, p) = refusal_unique R limit joints (number_of g) (place_of g) (number_of f) (place_of f) b.0 is in
      ap Err (same_refusal g f e p)

  -- The answer and the five tables.
  pub record Same (r r' : Result Built Refusal) (st st' sa sa' su su' co co' vi vi' : List ℕ) : Type 0 where
    pub answer : r ≡ r'
    pub states_same : st ≡ st'
    pub starts_same : sa ≡ sa'
    pub successors_same : su ≡ su'
    pub counts_same : co ≡ co'
    pub views_same : vi ≡ vi'

  -- The contract determines the answer and every entry of the five tables.
  pub built_unique : (r r' : Result Built Refusal) (st st' sa sa' su su' co co' vi vi' : List ℕ) → Builds R seen limit joints r st sa su co vi → Builds R seen limit joints r' st' sa' su' co' vi'
      → Same r r' st st' sa sa' su su' co co' vi vi'
  built_unique (Ok n) (Ok n') st st' sa sa' su su' co co' vi vi' a b =
      let same = model_unique R limit joints a.positions b.positions a.is_model b.is_model in
      record {
        answer = ap₂ (λ (n m : ℕ). Ok (record { states = n; moves = m })) (a.count ∙ ap length same ∙ sym b.count) (a.moves ∙ ap (total R) same ∙ sym b.moves);
        states_same = a.states_are ∙ ap (pad limit) same ∙ sym b.states_are;
        starts_same = a.starts_are ∙ ap (λ (k : List ℕ). pad (limit + 1) (starts R k)) same ∙ sym b.starts_are;
        successors_same = a.successors_are ∙ ap (λ (k : List ℕ). pad joints (successors R k)) same ∙ sym b.successors_are;
        counts_same = a.counts_are ∙ ap (λ (k : List ℕ). pad (role_limit * limit) (counts R k)) same ∙ sym b.counts_are;
        views_same = a.views_are ∙ ap (λ (k : List ℕ). pad limit (map seen k)) same ∙ sym b.views_are;
      }
  built_unique (Err f) (Err g) st st' sa sa' su su' co co' vi vi' a b =
      let (e, p) = refusal_unique R limit joints (number_of f) (place_of f) (number_of g) (place_of g) a.0 b.0 in
      record {
        answer = ap Err (same_refusal f g e p);
        states_same = a.1.states_zero ∙ sym b.1.states_zero;
        starts_same = a.1.starts_zero ∙ sym b.1.starts_zero;
        successors_same = a.1.successors_zero ∙ sym b.1.successors_zero;
        counts_same = a.1.counts_zero ∙ sym b.1.counts_zero;
        views_same = a.1.views_zero ∙ sym b.1.views_zero;
      }
  built_unique (Ok n) (Err g) st st' sa sa' su su' co co' vi vi' a b = absurd (model_not_refused R limit joints a.positions (number_of g) (place_of g) a.is_model b.0)
  built_unique (Err f) (Ok n) st st' sa sa' su su' co co' vi vi' a b = absurd (model_not_refused R limit joints b.positions (number_of f) (place_of f) b.is_model a.0)
