-- The counters of the walk as functions of the places that have been visited: where they start, what one place more changes, and what they tell.
use mathlib.Core.Path.{◌≡◌, refl, sym, ap, ap₂, ◌∙◌}
use mathlib.Core.Bool.{Bool, true, false, ◌&&◌, ◌||◌, not, cond, and-true, and-false, not-not}
use Prim.Native.Nat.{ℕ, zero, suc, ◌+◌, ◌-◌, ◌<◌}
use native.Mathlib.Decide.{ℕ_discrete}
use native.Mathlib.Omega.{arith}
use lib.Dec.{eqb, ltb}
use borrow.Author.Tests.{ltb-true, eqb-true, not-true, lt-ltb, eq-eqb, ne_eqb}
use Rattle.facts.specs.Truth.{clash, unless_false, unless_true, same_test, and_left, and_right, and_both, and_fails, or_cases}
use Rattle.atl.specs.Bounded.{some<}
use Rattle.atl.specs.Game.{Game, IsGame, States}
use Rattle.atl.specs.Marking.{secures, force}
use Rattle.atl.proofs.Bounded.{some_intro, some_elim, some_cong, every_intro, every_elim}
use Rattle.incoming.specs.Index.{bit, many}
use Rattle.incoming.proofs.Counting.{many_cong, many_sum, many_none, many_lt, many_more, select}
use Rattle.marking.specs.Table.{side}
use Rattle.backward.specs.Walk.{lowered, finishes}
use Rattle.backward.proofs.Lines.{Lines}

-- the empty set of places
abbrev pub none : ℕ → Bool
none p = false

-- a counter is above 0 or it is 0
above : (x : ℕ) → ltb 0 x ≡ not (eqb x 0)
above zero = refl
above (suc x) = rw (lt-ltb 0 (suc x) (omega arith), ne_eqb (suc x) 0 (λ e. absurd (omega arith)))

-- a counter that is not finished by one more stays on its side of 0
still : (x : ℕ) (all : Bool) → finishes all x ≡ false → ltb 0 (lowered all x) ≡ ltb 0 x
still zero true f = refl
still zero false f = refl
still (suc x) all f = let o = lt-ltb 0 (suc x) (omega arith) in above (lowered all (suc x)) ∙ ap not (and_fails (ltb 0 (suc x)) _ f o) ∙ sym o

-- a test that passes wherever a counter is above 0, and that the counter is not finished
unfinished : (x : ℕ) (t : Bool) → (0 < x → t ≡ true) → ltb 0 x ≡ t && not (eqb x 0)
unfinished zero t f = sym (and-false t)
unfinished (suc x) t f = rw (f (omega arith)) (above (suc x))

-- a test, by whether another passes too
halves : (t u : Bool) → bit t ≡ bit (t && not u) + bit (t && u)
halves true true = refl
halves true false = refl
halves false u = refl

-- 1 is used up by a number above 0
used : (x : ℕ) → eqb (1 - x) 0 ≡ ltb 0 x
used zero = refl
used (suc x) = eq-eqb (1 - suc x) 0 (omega arith) ∙ sym (lt-ltb 0 (suc x) (omega arith))

module _ (G : Game) (total : ℕ) (first own to cls : ℕ → ℕ) (L : Lines G total first own to cls) (want : Bool) where
  -- how many joint moves of class c have not been visited
  unfoldable pub misses : (ℕ → Bool) → ℕ → ℕ
  misses W c = many total (λ p. eqb (cls p) c && not (W p))

  -- how many of them have been
  unfoldable pub hits : (ℕ → Bool) → ℕ → ℕ
  hits W c = many total (λ p. eqb (cls p) c && W p)

  -- What is left of class c: where `want`, all its joint moves must be visited, and else one.
  unfoldable pub left_of : (ℕ → Bool) → ℕ → ℕ
  left_of W c = cond want (misses W c) (cond (eqb (hits W c) 0) (misses W c) 0)

  -- how many classes position i has
  unfoldable pub kinds : ℕ → ℕ
  kinds i = many (G.moves i) (λ k. ltb 0 (left_of none (first i + k)))

  -- how many of them are not finished
  unfoldable pub opens : (ℕ → Bool) → ℕ → ℕ
  opens W i = many (G.moves i) (λ k. ltb 0 (left_of W (first i + k)))

  -- What position i waits for: where `want`, one finished class is enough, and else it takes all.
  unfoldable pub need_of : (ℕ → Bool) → ℕ → ℕ
  need_of W i = cond want 1 (kinds i) - (kinds i - opens W i)

  -- what is left of a class depends only on which of its own joint moves have been visited
  left_same : (W X : ℕ → Bool) (c : ℕ) → ((q : ℕ) → q < total → cls q ≡ c → W q ≡ X q) → left_of W c ≡ left_of X c
  unfolding left_of misses hits
  left_same W X c f = ap₂ (λ (x y : ℕ). cond want y (cond (eqb x 0) y 0)) (many_cong total _ _ (each (λ x. x))) (many_cong total _ _ (each not))
    where
      each : (g : Bool → Bool) (q : ℕ) → q < total → (eqb (cls q) c && g (W q)) ≡ (eqb (cls q) c && g (X q))
      each g q h = go (eqb (cls q) c) refl
        where
          go : (t : Bool) → eqb (cls q) c ≡ t → (t && g (W q)) ≡ (t && g (X q))
          go true e = ap g (f q h (eqb-true (cls q) c e))
          go false e = refl

  -- what a position waits for depends only on which of its classes are finished
  need_same : (W X : ℕ → Bool) (i : ℕ) → ((k : ℕ) → k < G.moves i → ltb 0 (left_of W (first i + k)) ≡ ltb 0 (left_of X (first i + k))) → need_of W i ≡ need_of X i
  unfolding need_of opens
  need_same W X i f = ap (λ (x : ℕ). cond want 1 (kinds i) - (kinds i - x)) (many_cong (G.moves i) _ _ f)

  pub left_cong : (W X : ℕ → Bool) (c : ℕ) → ((p : ℕ) → p < total → W p ≡ X p) → left_of W c ≡ left_of X c
  left_cong W X c f = left_same W X c (λ q h e. f q h)

  pub need_cong : (W X : ℕ → Bool) (i : ℕ) → ((p : ℕ) → p < total → W p ≡ X p) → need_of W i ≡ need_of X i
  need_cong W X i f = need_same W X i (λ k h. ap (ltb 0) (left_cong W X (first i + k) f))

  pub left_start : (c : ℕ) → left_of none c ≡ many total (λ p. eqb (cls p) c)
  unfolding left_of misses hits
  left_start c =
      ap₂ (λ (x y : ℕ). cond want y (cond (eqb x 0) y 0)) (many_none total _ (λ p h. and-false (eqb (cls p) c))) (many_cong total _ _ (λ p h. and-true (eqb (cls p) c)))
      ∙ go want (many total (λ p. eqb (cls p) c))
    where
      go : (b : Bool) (x : ℕ) → cond b x x ≡ x
      go true x = refl
      go false x = refl

  pub need_start : (i : ℕ) → need_of none i ≡ cond want 1 (many (G.moves i) (λ k. ltb 0 (left_of none (first i + k))))
  unfolding need_of kinds opens
  need_start i = omega arith

  -- a class has the joint moves that have not been visited and those that have
  parts : (W : ℕ → Bool) (c : ℕ) → left_of none c ≡ misses W c + hits W c
  unfolding misses hits
  parts W c = left_start c ∙ many_sum total _ _ _ (λ p h. halves (eqb (cls p) c) (W p))

  -- a class of which something is left has a joint move
  left_some : (W : ℕ → Bool) (c : ℕ) → 0 < left_of W c → ltb 0 (left_of none c) ≡ true
  unfolding left_of
  left_some W c h = lt-ltb 0 (left_of none c) (omega (arith, parts W c, go want (eqb (hits W c) 0) h))
    where
      go : (b t : Bool) {x : ℕ} → 0 < cond b x (cond t x 0) → 0 < x
      go true t o = o
      go false true o = o
      go false false o = absurd (omega arith)

  -- the class of a joint move has one
  member : (p : ℕ) → p < total → 0 < left_of none (cls p)
  member p h = omega (arith, left_start (cls p), many_lt p total (λ q. eqb (cls q) (cls p)) h (eq-eqb (cls p) (cls p) refl))

  -- the class of a joint move of position i has its number among the places of i
  seat_at : (i j : ℕ) → i < G.states → j < G.moves i → (k : ℕ) × (k < G.moves i) × (first i + k ≡ cls (first i + j)) × (ltb 0 (left_of none (first i + k)) ≡ true)
  seat_at i j h l =
      let (k, m, e) = L.seat (first i + j) (L.inside i j h l) in
      let o = L.owned i j h l in
      (k, rw o at m, rw o at e, lt-ltb 0 (left_of none (first i + k)) (rw (rw o at e) (member (first i + j) (L.inside i j h l))))

  -- and a joint move whose class has its number there is one of position i
  owner_at : (p i k : ℕ) → p < total → i < G.states → k < G.moves i → cls p ≡ first i + k → own p ≡ i
  owner_at p i k u h l e = let (m, x, y) = L.seat p u in sym (L.owned (own p) m (L.owner p u) x) ∙ ap own (y ∙ e) ∙ L.owned i k h l

  pub need_some : IsGame G → (i : ℕ) → i < G.states → 0 < need_of none i
  need_some law i h = rw (need_start i) (go want)
    where
      go : (b : Bool) → 0 < cond b 1 (many (G.moves i) (λ k. ltb 0 (left_of none (first i + k))))
      go true = omega arith
      go false = let (k, l, e, o) = seat_at i 0 h (law.movable i h) in omega (arith, many_lt k (G.moves i) (λ k. ltb 0 (left_of none (first i + k))) l o)

  -- how many classes of position i pass the test P
  among : (ℕ → Bool) → ℕ → ℕ
  among P i = many (G.moves i) (λ k. ltb 0 (left_of none (first i + k)) && P (first i + k))

  opens_are : (W : ℕ → Bool) (i : ℕ) → opens W i ≡ among (λ c. not (eqb (left_of W c) 0)) i
  unfolding opens among
  opens_are W i = many_cong (G.moves i) _ _ (λ k h. unfinished (left_of W (first i + k)) _ (left_some W (first i + k)))

  -- the classes that are not finished and those that are
  kinds_are : (W : ℕ → Bool) (i : ℕ) → kinds i ≡ opens W i + among (λ c. eqb (left_of W c) 0) i
  unfolding kinds among
  kinds_are W i = rw (opens_are W i) (many_sum (G.moves i) _ _ _ (λ k h. halves (ltb 0 (left_of none (first i + k))) (eqb (left_of W (first i + k)) 0)))

  -- one place more
  module _ (W X : ℕ → Bool) (p : ℕ) (h : p < total) (out : W p ≡ false) (in' : X p ≡ true) (same : (q : ℕ) → q < total → (q ≡ p → ⊥) → W q ≡ X q) where
    -- one of the class of p more
    more_here : (f g : ℕ → Bool) → f p ≡ true → g p ≡ false → ((q : ℕ) → q < total → (q ≡ p → ⊥) → f q ≡ g q)
        → many total (λ q. eqb (cls q) (cls p) && f q) ≡ suc (many total (λ q. eqb (cls q) (cls p) && g q))
    more_here f g x y s =
        many_more total _ _ p h (and_both (eq-eqb (cls p) (cls p) refl) x) (ap (λ (t : Bool). eqb (cls p) (cls p) && t) y ∙ and-false (eqb (cls p) (cls p)))
        (λ q l o. ap (λ (t : Bool). eqb (cls q) (cls p) && t) (s q l o))

    pub left_here : left_of X (cls p) ≡ lowered want (left_of W (cls p))
    unfolding left_of misses hits
    left_here = go want
      where
        go : (b : Bool) → cond b (misses X (cls p)) (cond (eqb (hits X (cls p)) 0) (misses X (cls p)) 0)
            ≡ lowered b (cond b (misses W (cls p)) (cond (eqb (hits W (cls p)) 0) (misses W (cls p)) 0))
        go true = omega (arith, more_here (λ q. not (W q)) (λ q. not (X q)) (ap not out) (ap not in') (λ q l o. ap not (same q l o)))
        go false = ap (λ (t : Bool). cond t (misses X (cls p)) 0) (ne_eqb (hits X (cls p)) 0 (λ e. absurd (omega (arith, more_here X W in' out (λ q l o. sym (same q l o))))))

    pub left_other : (c : ℕ) → (c ≡ cls p → ⊥) → left_of X c ≡ left_of W c
    left_other c f = left_same X W c (λ q l e. sym (same q l (λ o. f (sym e ∙ ap cls o))))

    pub need_here : need_of X (own p) ≡ cond (finishes want (left_of W (cls p))) (lowered true (need_of W (own p))) (need_of W (own p))
    unfolding need_of opens
    need_here = go (finishes want (left_of W (cls p))) refl
      where
        go : (t : Bool) → finishes want (left_of W (cls p)) ≡ t → need_of X (own p) ≡ cond t (lowered true (need_of W (own p))) (need_of W (own p))
        go true f =
            let (m, l, e) = L.seat p h in
            let o : opens W (own p) ≡ suc (opens X (own p)) =
            many_more (G.moves (own p)) _ _ m l (rw e (and_left _ _ f)) (rw (e, left_here, above) (ap not (and_right (ltb 0 (left_of W (cls p))) _ f)))
            (λ k x d. ap (ltb 0) (sym (left_other (first (own p) + k) (λ z. d (omega arith))))) in
            omega (arith, kinds_are W (own p), kinds_are X (own p))
        go false f = need_same X W (own p) (λ k l. each (first (own p) + k) (ℕ_discrete (first (own p) + k) (cls p)))
          where
            each : (c : ℕ) → Dec (c ≡ cls p) → ltb 0 (left_of X c) ≡ ltb 0 (left_of W c)
            each c (yes e) = rw (e, left_here) (still (left_of W (cls p)) want f)
            each c (no e) = ap (ltb 0) (left_other c e)

    pub need_other : (i : ℕ) → i < G.states → (i ≡ own p → ⊥) → need_of X i ≡ need_of W i
    need_other i l f = need_same X W i (λ k m. ap (ltb 0) (left_other (first i + k) (λ e. f (sym (owner_at p i k h l m (sym e))))))

  -- some class of position i passes a test, where the class of some joint move does
  some_class : (P : ℕ → Bool) (i : ℕ) → i < G.states → ltb 0 (among P i) ≡ some< (G.moves i) (λ j. P (cls (first i + j)))
  unfolding among
  some_class P i h = same_test _ _ there back
    where
      passes : ℕ → Bool
      passes k = ltb 0 (left_of none (first i + k)) && P (first i + k)

      there : ltb 0 (among P i) ≡ true → some< (G.moves i) (λ j. P (cls (first i + j))) ≡ true
      there e =
          let (k, l, x, _) = select (G.moves i) passes 0 (ltb-true 0 (among P i) e) in
          let (q, m, y, _) = select total (λ p. eqb (cls p) (first i + k)) 0 (rw (left_start (first i + k)) at (ltb-true 0 (left_of none (first i + k)) (and_left _ _ x))) in
          let d : cls q ≡ first i + k = eqb-true (cls q) (first i + k) y in
          let (j, u, z) = rw (owner_at q i k m h l d) at (L.found q m) in
          some_intro (G.moves i) (λ j. P (cls (first i + j))) j u (rw (z, d) (and_right (ltb 0 (left_of none (first i + k))) _ x))

      back : some< (G.moves i) (λ j. P (cls (first i + j))) ≡ true → ltb 0 (among P i) ≡ true
      back e =
          let (j, l, x) = some_elim (G.moves i) (λ j. P (cls (first i + j))) e in
          let (k, m, d, o) = seat_at i j h l in
          lt-ltb 0 (among P i) (omega (arith, many_lt k (G.moves i) passes m (and_both o (rw d x))))

  -- a choice secures a set where no joint move of its class leads out of it
  secures_misses : (v : States) (i j : ℕ) → i < G.states → j < G.moves i → secures G v i j ≡ eqb (misses (λ p. v (to p)) (cls (first i + j))) 0
  unfolding secures misses
  secures_misses v i j h l = same_test _ _ (λ e. eq-eqb _ 0 (many_none total _ (λ p m. unless_true _ (there e p m)))) (λ e. every_intro (G.moves i) _ (back (eqb-true _ 0 e)))
    where
      c : ℕ
      c = cls (first i + j)

      there : secures G v i j ≡ true → (p : ℕ) → p < total → eqb (cls p) c && not (v (to p)) ≡ true → ⊥
      there e p m q =
          let s : cls p ≡ c = eqb-true (cls p) c (and_left _ _ q) in
          let (k, x, y, _) = seat_at i j h l in
          let (n, u, z) = rw (owner_at p i k m h x (s ∙ sym y)) at (L.found p m) in
          let g : G.agree i j n ≡ true = L.classed i j n h l u ∙ eq-eqb c (cls (first i + n)) (sym s ∙ ap cls (sym z)) in
          let t : v (G.to i n) ≡ true = or_cases (not (G.agree i j n)) _ (every_elim (G.moves i) _ e n u) (ap not g) in
          clash (ap v (ap to (sym z) ∙ L.leads i n h u) ∙ t) (not-true _ (and_right (eqb (cls p) c) _ q))

      back : misses (λ p. v (to p)) c ≡ 0 → (k : ℕ) → k < G.moves i → not (G.agree i j k) || v (G.to i k) ≡ true
      back e k m = go (G.agree i j k) refl
        where
          go : (t : Bool) → G.agree i j k ≡ t → not t || v (G.to i k) ≡ true
          go false g = refl
          go true g = unless_false _ (λ o.
              let s : c ≡ cls (first i + k) = eqb-true c (cls (first i + k)) (sym (L.classed i j k h l m) ∙ g) in
              let x = and_both (eq-eqb _ c (sym s)) (ap not (ap v (L.leads i k h m) ∙ o)) in
              absurd (omega (arith, e, many_lt (first i + k) total (λ p. eqb (cls p) c && not (v (to p))) (L.inside i k h m) x)))

  -- a choice secures the set where its class is finished; or, for the set outside, where it is not
  secures_left : (w : States) (i j : ℕ) → i < G.states → j < G.moves i
      → secures G (side want w) i j ≡ side want (λ c. eqb (left_of (λ p. w (to p)) c) 0) (cls (first i + j))
  unfolding left_of misses hits
  secures_left w i j h l = secures_misses (side want w) i j h l ∙ go want
    where
      W : ℕ → Bool
      W p = w (to p)

      c : ℕ
      c = cls (first i + j)

      -- where none has been visited, some are left
      split : (t : Bool) (x : ℕ) → (t ≡ true → 0 < x) → t ≡ not (eqb (cond t x 0) 0)
      split true x f = sym (lt-ltb 0 x (f refl)) ∙ above x
      split false x f = refl

      go : (b : Bool) → eqb (misses (λ p. side b w (to p)) c) 0 ≡ side b (λ c. eqb (cond b (misses W c) (cond (eqb (hits W c) 0) (misses W c) 0)) 0) c
      go true = refl
      go false =
          ap (λ (x : ℕ). eqb x 0) (many_cong total _ _ (λ p m. ap (λ (t : Bool). eqb (cls p) c && t) (not-not (W p))))
          ∙ split (eqb (hits W c) 0) (misses W c) (λ e. omega (arith, parts W c, member (first i + j) (L.inside i j h l), eqb-true (hits W c) 0 e))

  pub need_rule : (w : States) (i : ℕ) → i < G.states → eqb (need_of (λ p. w (to p)) i) 0 ≡ side want (force G (side want w)) i
  unfolding force need_of among
  need_rule w i h = go want (force G (side want w)) (some_cong (G.moves i) _ _ (λ j l. secures_left w i j h l) ∙ sym (some_class (side want (λ c. eqb (left_of W c) 0)) i h))
    where
      W : ℕ → Bool
      W p = w (to p)

      -- some class is finished; or, of the other side, some class is not
      go : (b : Bool) (f : States) → f i ≡ ltb 0 (among (side b (λ c. eqb (left_of W c) 0)) i) → eqb (cond b 1 (kinds i) - (kinds i - opens W i)) 0 ≡ side b f i
      go true f e =
          let z : kinds i - opens W i ≡ among (λ c. eqb (left_of W c) 0) i = omega (arith, kinds_are W i) in
          rw (z, e) (used (among (λ c. eqb (left_of W c) 0) i))
      go false f e =
          let z : kinds i - (kinds i - opens W i) ≡ opens W i = omega (arith, kinds_are W i) in
          let o : f i ≡ ltb 0 (opens W i) = e ∙ ap (ltb 0) (sym (opens_are W i)) in
          rw (z, o, above (opens W i)) (sym (not-not _))
