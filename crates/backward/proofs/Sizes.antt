-- The tables of the walk keep their room, and the queue has one entry for each position with a count.
use mathlib.Core.Path.{◌≡◌, refl, ap, ◌∙◌}
use mathlib.Core.Bool.{Bool, true, false, ◌&&◌, cond}
use mathlib.Core.List.{List}
use Prim.Native.Nat.{ℕ, zero, suc, ◌+◌, ◌-◌, ◌≤◌, ◌<◌}
use native.Mathlib.Nat.{le_refl}
use native.Mathlib.Decide.{ℕ_discrete}
use native.Mathlib.Omega.{arith}
use lib.Dec.{eqb, ltb}
use lib.ListN.{set, length-set}
use lib.Seq.{get_or-set_same, get_or-set_other}
use borrow.Author.Tests.{eqb-true, lt-ltb, le-ltb}
use Rattle.facts.specs.Truth.{and_left}
use Rattle.atl.specs.Game.{States}
use Rattle.atl.specs.Marking.{unset}
use Rattle.incoming.specs.Index.{many, at}
use Rattle.incoming.proofs.Counting.{many_le, many_more}
use Rattle.backward.specs.Walk.{Walk, walk, lowered, finishes, enter, settle, visit, visits, arrive, passes, Sized}

-- no entry leaves the queue
module _ (a : States) (r : ℕ) where
  enter_up : (i : ℕ) (w : Walk) → w.more ≤ (enter a r i w).more
  unfolding enter
  enter_up i w = go (eqb (at w.rounds i) unset && a i)
    where
      go : (x : Bool) → w.more ≤ (cond x (walk w.left w.need (set w.rounds i (r + 1)) (set w.queue w.more i) (w.more + 1)) w).more
      go true = omega arith
      go false = le_refl _

  settle_up : (i : ℕ) (w : Walk) → w.more ≤ (settle a r i w).more
  unfolding settle
  settle_up i w = go (finishes true (at w.need i))
    where
      v : Walk
      v = walk w.left (set w.need i (lowered true (at w.need i))) w.rounds w.queue w.more

      go : (x : Bool) → w.more ≤ (cond x (enter a r i v) v).more
      go true = enter_up i v
      go false = le_refl _

  module _ (own cls : ℕ → ℕ) (want : Bool) where
    visit_up : (p : ℕ) (w : Walk) → w.more ≤ (visit own cls want a r p w).more
    unfolding visit
    visit_up p w = go (finishes want (at w.left (cls p)))
      where
        v : Walk
        v = walk (set w.left (cls p) (lowered want (at w.left (cls p)))) w.need w.rounds w.queue w.more

        go : (x : Bool) → w.more ≤ (cond x (settle a r (own p) v) v).more
        go true = settle_up (own p) v
        go false = le_refl _

    visits_up : (index : List ℕ) (first k : ℕ) (w : Walk) → w.more ≤ (visits own cls want a index r first k w).more
    unfolding visits
    visits_up index first zero w = le_refl _
    visits_up index first (suc k) w = omega (arith, visits_up index first k w, visit_up (at index (first + k)) (visits own cls want a index r first k w))

    pub arrive_up : (froms index : List ℕ) (t : ℕ) (w : Walk) → w.more ≤ (arrive own cls want a froms index r t w).more
    unfolding arrive
    arrive_up froms index t w = visits_up index (at froms t) _ w

    pub passes_up : (froms index : List ℕ) (lo k : ℕ) (w : Walk) → w.more ≤ (passes own cls want a froms index r lo k w).more
    unfolding passes
    passes_up froms index lo zero w = le_refl _
    passes_up froms index lo (suc k) w = go (passes own cls want a froms index r lo k w) (passes_up froms index lo k w)
      where
        go : (v : Walk) → w.more ≤ v.more → w.more ≤ (arrive own cls want a froms index r (at v.queue (lo + k)) v).more
        go v h = omega (arith, arrive_up froms index (at v.queue (lo + k)) v)

module _ {n total : ℕ} where
  -- the queue has no more than all positions
  pub sized_le : {w : Walk} → Sized n total w → w.more ≤ n
  sized_le {w} s = omega (arith, s.few, many_le n (λ i. ltb (at w.rounds i) unset))

  -- a position that has no count has room in the queue
  pub sized_room : {w : Walk} → Sized n total w → (i : ℕ) → i < n → at w.rounds i ≡ unset → w.more < n
  sized_room {w} s i h e =
      let z = many_more n (λ j. ltb (at (set w.rounds i 0) j) unset) (λ j. ltb (at w.rounds j) unset) i h
      (lt-ltb (at (set w.rounds i 0) i) unset (omega (arith, get_or-set_same w.rounds i 0 0 (omega (arith, s.long)))))
      (le-ltb (at w.rounds i) unset (omega arith)) (λ j g o. ap (λ (x : ℕ). ltb x unset) (get_or-set_other w.rounds i j 0 0 o)) in
      omega (arith, s.few, many_le n (λ j. ltb (at (set w.rounds i 0) j) unset))

  module _ (a : States) (r : ℕ) (u : r + 1 < unset) where
    pub enter_sized : (i : ℕ) → i < n → (w : Walk) → Sized n total w → Sized n total (enter a r i w)
    unfolding enter
    enter_sized i h w s = go (eqb (at w.rounds i) unset && a i) refl
      where
        go : (x : Bool) → (eqb (at w.rounds i) unset && a i) ≡ x
            → Sized n total (cond x (walk w.left w.need (set w.rounds i (r + 1)) (set w.queue w.more i) (w.more + 1)) w)
        go false e = s
        go true e = record {
          lefts = s.lefts;
          needs = s.needs;
          long = length-set w.rounds i (r + 1) ∙ s.long;
          room = omega (arith, length-set w.queue w.more i, s.room);
          few = omega (arith, s.few, one_more);
          listed = λ k g. low k g (ℕ_discrete k w.more);
        }
          where
            empty : at w.rounds i ≡ unset
            empty = eqb-true (at w.rounds i) unset (and_left _ _ e)

            one_more : many n (λ j. ltb (at (set w.rounds i (r + 1)) j) unset) ≡ suc (many n (λ j. ltb (at w.rounds j) unset))
            one_more =
                many_more n (λ j. ltb (at (set w.rounds i (r + 1)) j) unset) (λ j. ltb (at w.rounds j) unset) i h
                (lt-ltb (at (set w.rounds i (r + 1)) i) unset (omega (arith, get_or-set_same w.rounds i (r + 1) 0 (omega (arith, s.long)))))
                (le-ltb (at w.rounds i) unset (omega (arith, empty))) (λ j g o. ap (λ (x : ℕ). ltb x unset) (get_or-set_other w.rounds i j (r + 1) 0 o))

            low : (k : ℕ) → k < w.more + 1 → Dec (k ≡ w.more) → at (set w.queue w.more i) k < n
            low k g (yes o) = rw o (omega (arith, get_or-set_same w.queue w.more i 0 (omega (arith, s.room, sized_room s i h empty))))
            low k g (no o) = omega (arith, get_or-set_other w.queue w.more k i 0 o, s.listed k (omega arith))

    pub settle_sized : (i : ℕ) → i < n → (w : Walk) → Sized n total w → Sized n total (settle a r i w)
    unfolding settle
    settle_sized i h w s = go (finishes true (at w.need i))
      where
        v : Walk
        v = walk w.left (set w.need i (lowered true (at w.need i))) w.rounds w.queue w.more

        t : Sized n total v
        t = record {
          lefts = s.lefts;
          needs = omega (arith, length-set w.need i (lowered true (at w.need i)), s.needs);
          long = s.long;
          room = s.room;
          few = s.few;
          listed = s.listed;
        }

        go : (x : Bool) → Sized n total (cond x (enter a r i v) v)
        go true = enter_sized i h v t
        go false = t

    -- where each place has an owner among the n positions
    module _ (own cls : ℕ → ℕ) (want : Bool) (owner : (p : ℕ) → p < total → own p < n) where
      pub visit_sized : (p : ℕ) → p < total → (w : Walk) → Sized n total w → Sized n total (visit own cls want a r p w)
      unfolding visit
      visit_sized p h w s = go (finishes want (at w.left (cls p)))
        where
          v : Walk
          v = walk (set w.left (cls p) (lowered want (at w.left (cls p)))) w.need w.rounds w.queue w.more

          t : Sized n total v
          t = record {
            lefts = omega (arith, length-set w.left (cls p) (lowered want (at w.left (cls p))), s.lefts);
            needs = s.needs;
            long = s.long;
            room = s.room;
            few = s.few;
            listed = s.listed;
          }

          go : (x : Bool) → Sized n total (cond x (settle a r (own p) v) v)
          go true = settle_sized (own p) (owner p h) v t
          go false = t

      pub visits_sized : (index : List ℕ) (first k : ℕ) → ((j : ℕ) → j < k → at index (first + j) < total) → (w : Walk) → Sized n total w → Sized n total (visits own cls want a index r first k w)
      unfolding visits
      visits_sized index first zero f w s = s
      visits_sized index first (suc k) f w s = visit_sized (at index (first + k)) (f k (le_refl _)) _ (visits_sized index first k (λ j h. f j (omega arith)) w s)

      pub arrive_sized : (froms index : List ℕ) (t : ℕ) → ((j : ℕ) → j < at froms (t + 1) - at froms t → at index (at froms t + j) < total)
          → (w : Walk) → Sized n total w → Sized n total (arrive own cls want a froms index r t w)
      unfolding arrive
      arrive_sized froms index t f w s = visits_sized index (at froms t) _ f w s

      -- the positions of the queue are walked from in turn: each of them stood there before
      pub passes_sized : (froms index : List ℕ) (lo k : ℕ) → ((t : ℕ) → t < n → (j : ℕ) → j < at froms (t + 1) - at froms t → at index (at froms t + j) < total)
          → (w : Walk) → lo + k ≤ w.more → Sized n total w → Sized n total (passes own cls want a froms index r lo k w)
      unfolding passes
      passes_sized froms index lo zero f w h s = s
      passes_sized froms index lo (suc k) f w h s =
          go (passes own cls want a froms index r lo k w) (passes_sized froms index lo k f w (omega arith) s) (passes_up a r own cls want froms index lo k w)
        where
          go : (v : Walk) → Sized n total v → w.more ≤ v.more → Sized n total (arrive own cls want a froms index r (at v.queue (lo + k)) v)
          go v t g = arrive_sized froms index _ (f _ (t.listed (lo + k) (omega arith))) v t
