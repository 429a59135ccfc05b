-- What the walk has within a round, by the set of the places that were visited so far.
use mathlib.Core.Path.{◌≡◌, refl, sym, ap, ap₂, ◌∙◌}
use mathlib.Core.Bool.{Bool, true, false, ◌&&◌, ◌||◌, cond, and-false, or-false, or_assoc}
use mathlib.Core.List.{List}
use Prim.Native.Nat.{ℕ, zero, suc, ◌+◌, ◌-◌, ◌≤◌, ◌<◌}
use native.Mathlib.Numerals.{add-one}
use native.Mathlib.Decide.{ℕ_discrete}
use native.Mathlib.Omega.{arith}
use lib.Dec.{eqb, ltb}
use lib.ListN.{get_or, set, length}
use lib.Seq.{get_or-set_same, get_or-set_other}
use borrow.Author.Tests.{eqb-true, eq-eqb, ne_eqb, lt-ltb, le-ltb, ltb-true, leb-true}
use Rattle.facts.specs.Truth.{clash, unless_true, same_test, and_left, and_right, and_both, and_fails, or_right}
use Rattle.atl.specs.Bounded.{some<}
use Rattle.atl.specs.Game.{Game, States}
use Rattle.atl.specs.Marking.{unset, counted}
use Rattle.atl.proofs.Bounded.{some_elim, some_next}
use Rattle.incoming.specs.Index.{at, slot, IsIndex}
use Rattle.incoming.specs.Index as incoming
use Rattle.incoming.proofs.Order.{under, slot_from, slot_before, slot_once, first_mono}
use Rattle.backward.specs.Walk.{Walk, walk, lowered, finishes, enter, settle, visit, visits, arrive, passes, Sized}
use Rattle.backward.proofs.Lines.{Lines}
use Rattle.backward.proofs.Sizes.{sized_room, visit_sized}
use Rattle.backward.proofs.Counters.{left_of, need_of, left_cong, need_cong, left_here, left_other, need_here, need_other}

-- The queue within round r + 1, by the counts: its first `end` entries are those of queue₀, and behind them stand the positions that took a count in this round.
pub record Queued (n r end : ℕ) (queue₀ rounds queue : List ℕ) (more : ℕ) : Type 0 where
  pub up : end ≤ more
  pub keeps : (k : ℕ) → k < end → at queue k ≡ at queue₀ k
  pub there : (k : ℕ) → k < more → at rounds (at queue k) < unset
  pub once : (j k : ℕ) → j < k → k < more → at queue j ≡ at queue k → ⊥
  pub fresh : (k : ℕ) → end ≤ k → k < more → at rounds (at queue k) ≡ suc r
  pub found : (i : ℕ) → i < n → at rounds i ≡ suc r → (k : ℕ) × (end ≤ k) × (k < more) × (at queue k ≡ i)

-- a position that has no count takes one in this round and stands last in the queue
pushed : {n r end : ℕ} {queue₀ rounds queue : List ℕ} {more : ℕ} → suc r < unset → (i : ℕ) → i < length rounds → more < length queue → at rounds i ≡ unset
    → Queued n r end queue₀ rounds queue more → Queued n r end queue₀ (set rounds i (r + 1)) (set queue more i) (more + 1)
pushed {n} {r} {end} {queue₀} {rounds} {queue} {more} small i h room e q = record {
  up = omega (arith, q.up);
  keeps = λ k l. old k (omega (arith, q.up)) ∙ q.keeps k l;
  there = λ k l. each (λ k. at (set rounds i (r + 1)) (at (set queue more i) k) < unset) (λ k m. rw (kept k m) (q.there k m)) (rw new small) k l;
  once = λ j k g l. each (λ k. j < k → at (set queue more i) j ≡ at (set queue more i) k → ⊥)
      (λ k m u o. q.once j k u m (sym (old j (omega arith)) ∙ o ∙ old k m)) (λ u o. apart j u (sym (old j u) ∙ o ∙ last)) k l g;
  fresh = λ k g l. each (λ k. end ≤ k → at (set rounds i (r + 1)) (at (set queue more i) k) ≡ suc r) (λ k m u. kept k m ∙ q.fresh k u m) (λ u. new) k l g;
  found = λ j l o. seek j l o (ℕ_discrete j i);
}
  where
    old : (k : ℕ) → k < more → at (set queue more i) k ≡ at queue k
    old k l = get_or-set_other queue more k i 0 (λ o. absurd (omega arith))

    last : at (set queue more i) more ≡ i
    last = get_or-set_same queue more i 0 room

    -- who stands in the queue has a count
    apart : (k : ℕ) → k < more → at queue k ≡ i → ⊥
    apart k l o = omega (arith, q.there k l, ap (at rounds) o)

    kept : (k : ℕ) → k < more → at (set rounds i (r + 1)) (at (set queue more i) k) ≡ at rounds (at queue k)
    kept k l = rw (old k l) (get_or-set_other rounds i (at queue k) (r + 1) 0 (apart k l))

    new : at (set rounds i (r + 1)) (at (set queue more i) more) ≡ suc r
    new = rw last (get_or-set_same rounds i (r + 1) 0 h ∙ add-one r)

    each : (P : ℕ → Type 0) → ((k : ℕ) → k < more → P k) → P more → (k : ℕ) → k < more + 1 → P k
    each P f x k l = go (ℕ_discrete k more)
      where
        go : Dec (k ≡ more) → P k
        go (yes o) = rw o x
        go (no o) = f k (omega arith)

    seek : (j : ℕ) → j < n → at (set rounds i (r + 1)) j ≡ suc r → Dec (j ≡ i) → (k : ℕ) × (end ≤ k) × (k < more + 1) × (at (set queue more i) k ≡ j)
    seek j l d (yes o) = (more, q.up, omega arith, last ∙ sym o)
    seek j l d (no o) = let (k, x, y, z) = q.found j l (sym (get_or-set_other rounds i j (r + 1) 0 o) ∙ d) in (k, x, omega arith, old k y ∙ z)

-- a counter that one less does not finish is at 0 after it where it was before
unmoved : (x : ℕ) → finishes true x ≡ false → eqb x 0 ≡ eqb (lowered true x) 0
unmoved zero f = refl
unmoved (suc x) f = ne_eqb (suc x) 0 (λ e. absurd (omega arith)) ∙ sym (and_fails (ltb 0 (suc x)) _ f (lt-ltb 0 (suc x) (omega arith)))

-- the places in W, and of those that lead to position t the first k of the index
abbrev grown : (ℕ → ℕ) → ℕ → List ℕ → (ℕ → Bool) → ℕ → ℕ → ℕ → Bool
grown to total froms W t k p = W p || (eqb (to p) t && ltb (slot to total p) (at froms t + k))

-- the places of one position end where those of the next begin
ends_at : {n total : ℕ} {to : ℕ → ℕ} {froms index : List ℕ} → IsIndex n total to froms index → (t : ℕ) → t < n → at froms (t + 1) ≡ incoming.first to total (suc t)
ends_at is t h = rw add-one (is.begins (suc t) h)

module _ (G : Game) (total : ℕ) (first own to cls : ℕ → ℕ) (L : Lines G total first own to cls) (want : Bool) (a : States) where
  -- The count of position i in round r + 1, where the places in W were visited and l has the counts before the round.
  abbrev pub due : List ℕ → ℕ → (ℕ → Bool) → ℕ → ℕ
  due l r W i = cond (counted l r i) (get_or l i unset) (cond (a i && eqb (need_of G total first own to cls L want W i) 0) (suc r) unset)

  -- The walk within round r + 1, where the places in W were visited. Before the round the counts were l, and the queue had `end` entries, those of queue₀.
  pub record Walked (l : List ℕ) (r end : ℕ) (queue₀ : List ℕ) (W : ℕ → Bool) (w : Walk) : Type 0 where
    pub sized : Sized G.states total w
    pub lefts : (c : ℕ) → c < total → at w.left c ≡ left_of G total first own to cls L want W c
    pub needs : (i : ℕ) → i < G.states → at w.need i ≡ need_of G total first own to cls L want W i
    pub counts : (i : ℕ) → i < G.states → at w.rounds i ≡ due l r W i
    pub queued : Queued G.states r end queue₀ w.rounds w.queue w.more

  -- what is left of a class, and what a position waits for
  abbrev left : (ℕ → Bool) → ℕ → ℕ
  left = left_of G total first own to cls L want

  abbrev need : (ℕ → Bool) → ℕ → ℕ
  need = need_of G total first own to cls L want

  -- the count of a position stays where it is the same whether the position is finished
  due_same : (l : List ℕ) (r : ℕ) (W X : ℕ → Bool) (i : ℕ) → (counted l r i ≡ false → a i ≡ true → eqb (need W i) 0 ≡ eqb (need X i) 0) → due l r W i ≡ due l r X i
  due_same l r W X i f = go (counted l r i) (a i) f
    where
      go : (C A : Bool) → (C ≡ false → A ≡ true → eqb (need W i) 0 ≡ eqb (need X i) 0)
          → cond C (get_or l i unset) (cond (A && eqb (need W i) 0) (suc r) unset) ≡ cond C (get_or l i unset) (cond (A && eqb (need X i) 0) (suc r) unset)
      go true A g = refl
      go false true g = ap (λ (x : Bool). cond x (suc r) unset) (g refl refl)
      go false false g = refl

  module _ {l : List ℕ} {r end : ℕ} {queue₀ : List ℕ} where
    -- only the places below the total matter
    pub walked_cong : {W : ℕ → Bool} (X : ℕ → Bool) {w : Walk} → ((p : ℕ) → p < total → W p ≡ X p) → Walked l r end queue₀ W w → Walked l r end queue₀ X w
    walked_cong {W} X f s = record {
      sized = s.sized;
      lefts = λ c h. s.lefts c h ∙ left_cong G total first own to cls L want W X c f;
      needs = λ i h. s.needs i h ∙ need_cong G total first own to cls L want W X i f;
      counts = λ i h. s.counts i h ∙ due_same l r W X i (λ C A. ap (λ (x : ℕ). eqb x 0) (need_cong G total first own to cls L want W X i f));
      queued = s.queued;
    }

    module _ (small : suc r < unset) where
      -- one place more
      pub visit_walked : {W : ℕ → Bool} (X : ℕ → Bool) (p : ℕ) → p < total → W p ≡ false → X p ≡ true → ((q : ℕ) → q < total → (q ≡ p → ⊥) → W q ≡ X q)
          → {w : Walk} → Walked l r end queue₀ W w → Walked l r end queue₀ X (visit own cls want a r p w)
      unfolding visit settle enter
      visit_walked {W} X p h out in' same {w} s = go (finishes want (at w.left (cls p))) refl (visit_sized a r (omega arith) own cls want L.owner p h w s.sized)
        where
          o : own p < G.states
          o = L.owner p h

          c : cls p < total
          c = let (k, x, y) = L.seat p h in omega (arith, L.inside (own p) k o x)

          lefts : List ℕ
          lefts = set w.left (cls p) (lowered want (at w.left (cls p)))

          v : Walk
          v = walk lefts w.need w.rounds w.queue w.more

          -- what is left of the class was taken down by one place
          left_at : (d : ℕ) → d < total → Dec (d ≡ cls p) → at lefts d ≡ left X d
          left_at d l (yes e) =
              rw e (get_or-set_same w.left (cls p) _ 0 (omega (arith, c, s.sized.lefts)) ∙ ap (lowered want) (s.lefts (cls p) c)
              ∙ sym (left_here G total first own to cls L want W X p h out in' same))
          left_at d l (no e) = get_or-set_other w.left (cls p) d _ 0 e ∙ s.lefts d l ∙ sym (left_other G total first own to cls L want W X p h out in' same d e)

          -- a position that is not the one of the joint move keeps what it has
          elsewhere : (i : ℕ) → i < G.states → (i ≡ own p → ⊥) → need W i ≡ need X i
          elsewhere i l e = sym (need_other G total first own to cls L want W X p h out in' same i l e)

          built : (needs rounds queue : List ℕ) (more : ℕ) → Sized G.states total (walk lefts needs rounds queue more) → Queued G.states r end queue₀ rounds queue more
              → at needs (own p) ≡ need X (own p) → ((i : ℕ) → (i ≡ own p → ⊥) → at needs i ≡ at w.need i)
              → at rounds (own p) ≡ due l r X (own p) → ((i : ℕ) → (i ≡ own p → ⊥) → at rounds i ≡ at w.rounds i)
              → Walked l r end queue₀ X (walk lefts needs rounds queue more)
          built needs rounds queue more z q d f e g = record {
            sized = z;
            lefts = λ i k. left_at i k (ℕ_discrete i (cls p));
            needs = λ i k. need_at i k (ℕ_discrete i (own p));
            counts = λ i k. count_at i k (ℕ_discrete i (own p));
            queued = q;
          }
            where
              need_at : (i : ℕ) → i < G.states → Dec (i ≡ own p) → at needs i ≡ need X i
              need_at i k (yes x) = rw x d
              need_at i k (no x) = f i x ∙ s.needs i k ∙ elsewhere i k x

              count_at : (i : ℕ) → i < G.states → Dec (i ≡ own p) → at rounds i ≡ due l r X i
              count_at i k (yes x) = rw x e
              count_at i k (no x) = g i x ∙ s.counts i k ∙ due_same l r W X i (λ C A. ap (λ (x : ℕ). eqb x 0) (elsewhere i k x))

          -- what the position of the joint move waits for after it
          now : {t : Bool} → finishes want (at w.left (cls p)) ≡ t → need X (own p) ≡ cond t (lowered true (need W (own p))) (need W (own p))
          now e =
              need_here G total first own to cls L want W X p h out in' same
              ∙ ap (λ (x : Bool). cond x (lowered true (need W (own p))) (need W (own p))) (ap (finishes want) (sym (s.lefts (cls p) c)) ∙ e)

          go : (t : Bool) → finishes want (at w.left (cls p)) ≡ t → Sized G.states total (cond t (settle a r (own p) v) v)
              → Walked l r end queue₀ X (cond t (settle a r (own p) v) v)
          go false e z =
              built w.need w.rounds w.queue w.more z s.queued (s.needs (own p) o ∙ sym (now e)) (λ i x. refl)
              (s.counts (own p) o ∙ due_same l r W X (own p) (λ C A. ap (λ (x : ℕ). eqb x 0) (sym (now e)))) (λ i x. refl)
          go true e z = settled (finishes true (at w.need (own p))) refl z
            where
              needs : List ℕ
              needs = set w.need (own p) (lowered true (at w.need (own p)))

              u : Walk
              u = walk lefts needs w.rounds w.queue w.more

              lower : at needs (own p) ≡ need X (own p)
              lower = get_or-set_same w.need (own p) _ 0 (omega (arith, o, s.sized.needs)) ∙ ap (lowered true) (s.needs (own p) o) ∙ sym (now e)

              others : (i : ℕ) → (i ≡ own p → ⊥) → at needs i ≡ at w.need i
              others i x = get_or-set_other w.need (own p) i _ 0 x

              settled : (t : Bool) → finishes true (at w.need (own p)) ≡ t → Sized G.states total (cond t (enter a r (own p) u) u)
                  → Walked l r end queue₀ X (cond t (enter a r (own p) u) u)
              settled false f z =
                  built needs w.rounds w.queue w.more z s.queued lower others
                  (s.counts (own p) o ∙ due_same l r W X (own p) (λ C A.
                  unmoved (need W (own p)) (ap (finishes true) (sym (s.needs (own p) o)) ∙ f) ∙ ap (λ (x : ℕ). eqb x 0) (sym (now e)))) (λ i x. refl)
              settled true f z = entered (eqb (at w.rounds (own p)) unset && a (own p)) refl z
                where
                  -- the position was not finished before, and it is now
                  before : eqb (need W (own p)) 0 ≡ false
                  before = ne_eqb (need W (own p)) 0 (λ x. absurd (omega (arith, s.needs (own p) o, ltb-true 0 (at w.need (own p)) (and_left _ _ f))))

                  after : eqb (need X (own p)) 0 ≡ true
                  after = ap (λ (x : ℕ). eqb x 0) (now e ∙ ap (lowered true) (sym (s.needs (own p) o))) ∙ and_right (ltb 0 (at w.need (own p))) _ f

                  -- so that it had a count before the round, or has none
                  was : at w.rounds (own p) ≡ cond (counted l r (own p)) (get_or l (own p) unset) unset
                  was =
                      s.counts (own p) o
                      ∙ ap (λ (x : Bool). cond (counted l r (own p)) (get_or l (own p) unset) (cond x (suc r) unset))
                      (ap (λ (x : Bool). a (own p) && x) before ∙ and-false (a (own p)))

                  entered : (t : Bool) → (eqb (at w.rounds (own p)) unset && a (own p)) ≡ t
                      → Sized G.states total (cond t (walk lefts needs (set w.rounds (own p) (r + 1)) (set w.queue w.more (own p)) (w.more + 1)) u)
                      → Walked l r end queue₀ X (cond t (walk lefts needs (set w.rounds (own p) (r + 1)) (set w.queue w.more (own p)) (w.more + 1)) u)
                  entered false g z =
                      built needs w.rounds w.queue w.more z s.queued lower others
                      (s.counts (own p) o ∙ due_same l r W X (own p) (λ C A. absurd (clash (and_both (eq-eqb _ unset (rw C at was)) A) g))) (λ i x. refl)
                  entered true g z =
                      built needs _ _ _ z (pushed small (own p) inside (omega (arith, s.sized.room, sized_room s.sized (own p) o empty)) empty s.queued) lower others
                      (get_or-set_same w.rounds (own p) (r + 1) 0 inside ∙ add-one r ∙ sym due_now) (λ i x. get_or-set_other w.rounds (own p) i (r + 1) 0 x)
                    where
                      inside : own p < length w.rounds
                      inside = omega (arith, o, s.sized.long)

                      empty : at w.rounds (own p) ≡ unset
                      empty = eqb-true (at w.rounds (own p)) unset (and_left _ _ g)

                      first_time : counted l r (own p) ≡ false
                      first_time = unless_true _ (λ C. omega (arith, leb-true (get_or l (own p) unset) r C, empty, rw C at was))

                      due_now : due l r X (own p) ≡ suc r
                      due_now = rw (first_time, and_right (eqb (at w.rounds (own p)) unset) _ g, after)

      module _ {froms index : List ℕ} (is : IsIndex G.states total to froms index) where
        -- the first k of those that lead to position t
        visits_walked : {W : ℕ → Bool} (t : ℕ) → t < G.states → ((p : ℕ) → p < total → to p ≡ t → W p ≡ false) → {w : Walk} → Walked l r end queue₀ W w
            → (k : ℕ) → at froms t + k ≤ at froms (t + 1) → Walked l r end queue₀ (grown to total froms W t k) (visits own cls want a index r (at froms t) k w)
        unfolding visits
        visits_walked {W} t h new s zero g = walked_cong (grown to total froms W t 0) same s
          where
            same : (p : ℕ) → p < total → W p ≡ grown to total froms W t 0 p
            same p m = sym (ap (λ (x : Bool). W p || x) (unless_true _ none) ∙ or-false (W p))
              where
                none : (eqb (to p) t && ltb (slot to total p) (at froms t + 0)) ≡ true → ⊥
                none e =
                    let z = eqb-true (to p) t (and_left _ _ e) in
                    let y : incoming.first to total t ≤ slot to total p = rw z at (slot_from to total p) in
                    omega (arith, is.begins t (omega arith), ltb-true (slot to total p) (at froms t + 0) (and_right (eqb (to p) t) _ e))
        visits_walked {W} t h new s (suc k) g =
            let (p, x, y, z, e) = under G.states total to froms index is t (at froms t + k) h (omega arith) (omega arith) in
            rw e (visit_walked (grown to total froms W t (suc k)) p x (out p x y z) (into p y z) (same p x z) (visits_walked t h new s k (omega arith)))
          where
            out : (p : ℕ) → p < total → to p ≡ t → slot to total p ≡ at froms t + k → grown to total froms W t k p ≡ false
            out p x y z = ap₂ ◌||◌ (new p x y) (ap (λ (b : Bool). eqb (to p) t && b) (le-ltb (slot to total p) (at froms t + k) (omega arith)) ∙ and-false (eqb (to p) t))

            into : (p : ℕ) → to p ≡ t → slot to total p ≡ at froms t + k → grown to total froms W t (suc k) p ≡ true
            into p y z = or_right (W p) (and_both (eq-eqb (to p) t y) (lt-ltb (slot to total p) (at froms t + suc k) (omega arith)))

            same : (p : ℕ) → p < total → slot to total p ≡ at froms t + k → (q : ℕ) → q < total → (q ≡ p → ⊥) → grown to total froms W t k q ≡ grown to total froms W t (suc k) q
            same p x z q m f = ap (λ (b : Bool). W q || (eqb (to q) t && b)) (same_test _ _
                (λ e. lt-ltb (slot to total q) (at froms t + suc k) (omega (arith, ltb-true (slot to total q) (at froms t + k) e)))
                (λ e. lt-ltb (slot to total q) (at froms t + k) (omega (arith, ltb-true (slot to total q) (at froms t + suc k) e, apart))))
              where
                apart : slot to total q ≡ at froms t + k → ⊥
                apart e = f (slot_once to total q p m x (e ∙ sym z))

        -- all that lead to position t
        pub arrive_walked : {W : ℕ → Bool} (t : ℕ) → t < G.states → ((p : ℕ) → p < total → to p ≡ t → W p ≡ false) → {w : Walk} → Walked l r end queue₀ W w
            → Walked l r end queue₀ (λ p. W p || eqb (to p) t) (arrive own cls want a froms index r t w)
        unfolding arrive
        arrive_walked {W} t h new s = walked_cong (λ p. W p || eqb (to p) t) all (visits_walked t h new s (at froms (t + 1) - at froms t) (omega (arith, rise)))
          where
            rise : at froms t ≤ at froms (t + 1)
            rise = omega (arith, is.begins t (omega arith), ends_at is t h, first_mono to total t (suc t) (omega arith))

            all : (p : ℕ) → p < total → grown to total froms W t (at froms (t + 1) - at froms t) p ≡ (W p || eqb (to p) t)
            all p m = ap (λ (x : Bool). W p || x) (same_test _ _ (and_left _ _) (λ e. and_both e (lt-ltb (slot to total p) (at froms t + (at froms (t + 1) - at froms t)) (low e))))
              where
                low : eqb (to p) t ≡ true → slot to total p < at froms t + (at froms (t + 1) - at froms t)
                low e =
                    let y : slot to total p < incoming.first to total (suc t) = rw (eqb-true (to p) t e) at (slot_before to total p m) in
                    omega (arith, rise, ends_at is t h)

        -- all that lead to the first k positions of the queue from lo on
        pub passes_walked : {W : ℕ → Bool} (lo k : ℕ) → lo + k ≤ end → ((j : ℕ) → lo ≤ j → j < end → (p : ℕ) → p < total → to p ≡ at queue₀ j → W p ≡ false)
            → {w : Walk} → Walked l r end queue₀ W w
            → Walked l r end queue₀ (λ p. W p || some< k (λ j. eqb (to p) (at queue₀ (lo + j)))) (passes own cls want a froms index r lo k w)
        unfolding passes
        passes_walked {W} lo zero h new s = walked_cong (λ p. W p || false) (λ p m. sym (or-false (W p))) s
        passes_walked {W} lo (suc k) h new {w} s = step (passes_walked lo k (omega arith) new s)
          where
            W₁ : ℕ → Bool
            W₁ p = W p || some< k (λ j. eqb (to p) (at queue₀ (lo + j)))

            step : {v : Walk} → Walked l r end queue₀ W₁ v
                → Walked l r end queue₀ (λ p. W p || some< (suc k) (λ j. eqb (to p) (at queue₀ (lo + j)))) (arrive own cls want a froms index r (at v.queue (lo + k)) v)
            step {v} x = walked_cong _ next (arrive_walked (at v.queue (lo + k)) (x.sized.listed (lo + k) (omega (arith, x.queued.up))) fresh x)
              where
                here : at v.queue (lo + k) ≡ at queue₀ (lo + k)
                here = x.queued.keeps (lo + k) (omega arith)

                -- an earlier position of the queue is another one
                fresh : (p : ℕ) → p < total → to p ≡ at v.queue (lo + k) → W₁ p ≡ false
                fresh p m e = ap₂ ◌||◌ (new (lo + k) (omega arith) (omega arith) p m (e ∙ here)) (unless_true _ (λ y.
                    let (j, g, z) = some_elim k (λ j. eqb (to p) (at queue₀ (lo + j))) y in
                    x.queued.once (lo + j) (lo + k) (omega arith) (omega (arith, x.queued.up)) (x.queued.keeps (lo + j) (omega arith) ∙ sym (eqb-true (to p) (at queue₀ (lo + j)) z) ∙ e)))

                next : (p : ℕ) → p < total → (W₁ p || eqb (to p) (at v.queue (lo + k))) ≡ (W p || some< (suc k) (λ j. eqb (to p) (at queue₀ (lo + j))))
                next p m = rw here (or_assoc (W p) _ _ ∙ ap (λ (y : Bool). W p || y) (sym (some_next k (λ j. eqb (to p) (at queue₀ (lo + j))))))
