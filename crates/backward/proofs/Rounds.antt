-- The walk round after round: what it has between two rounds, and that it ends with the counts of all sweeps.
use mathlib.Core.Path.{◌≡◌, refl, sym, ap, ◌∙◌}
use mathlib.Core.Bool.{Bool, true, false, ◌&&◌, ◌||◌, cond, and-false, or-false}
use mathlib.Core.List.{List}
use Prim.Native.Nat.{ℕ, zero, suc, ◌+◌, ◌-◌, ◌≤◌, ◌<◌}
use native.Mathlib.Nat.{le_refl}
use native.Mathlib.Numerals.{add-one}
use native.Mathlib.Decide.{dec_lt, ℕ_discrete}
use native.Mathlib.Omega.{arith}
use lib.Dec.{eqb, leb, ltb, leb-suc-suc}
use lib.ListN.{get_or, length}
use lib.Seq.{ext_get_or}
use borrow.Author.Tests.{eqb-true, leb-false, eq-eqb, ne_eqb, lt-ltb, le-ltb, le-leb, lt-leb}
use Rattle.facts.specs.Truth.{unless_true}
use Rattle.atl.specs.Bounded.{some<, tabulate}
use Rattle.atl.specs.Game.{Game, States}
use Rattle.atl.specs.Marking.{unset, counted, recount, swept}
use Rattle.atl.proofs.Bounded.{some_intro, some_elim, length_tabulate, get_d_tabulate}
use Rattle.atl.proofs.Spread as spread
use Rattle.incoming.specs.Index.{at}
use Rattle.incoming.specs.Owners.{IsIncoming}
use Rattle.incoming.proofs.Counting.{many_cong}
use Rattle.marking.specs.Table.{in_tables, Tables}
use Rattle.marking.specs.Rule.{rule}
use Rattle.marking.proofs.Position.{get_d_default}
use Rattle.marking.proofs.Rounds.{is_game_lem, rule_mono, count_none}
use Rattle.backward.specs.Walk.{Walk, walk, kind, passes, Sized, Opens, Lined}
use Rattle.backward.proofs.Lines.{Lines, lines_hold}
use Rattle.backward.proofs.Sizes.{sized_le}
use Rattle.backward.proofs.Counters.{none, left_of, need_of, left_cong, need_cong, left_start, need_start, need_some, need_rule}
use Rattle.backward.proofs.Within.{Walked, passes_walked}

-- the joint move at place p leads to a position whose count in l is below r
abbrev pub lower : (ℕ → ℕ) → List ℕ → ℕ → ℕ → Bool
lower to l r p = ltb (get_or l (to p) unset) r

-- After r rounds: the counts are those of r sweeps; the positions of count r stand from lo to `end` in the queue, each once; and the joint moves that
-- were visited are those to the positions of a lower count.
pub record Between (G : Game) (total : ℕ) (first own to cls : ℕ → ℕ) (L : Lines G total first own to cls) (want : Bool) (a b : States) (r lo end : ℕ) (w : Walk) : Type 0 where
  pub counts : w.rounds ≡ swept G.states (rule G want a) b r
  pub round : r ≤ lo
  pub up : lo ≤ end
  pub more : w.more ≡ end
  pub sized : Sized G.states total w
  pub lefts : (c : ℕ) → c < total → at w.left c ≡ left_of G total first own to cls L want (lower to (swept G.states (rule G want a) b r) r) c
  pub needs : (i : ℕ) → i < G.states → at w.need i ≡ need_of G total first own to cls L want (lower to (swept G.states (rule G want a) b r) r) i
  pub there : (k : ℕ) → k < end → at w.rounds (at w.queue k) < unset
  pub once : (j k : ℕ) → j < k → k < end → at w.queue j ≡ at w.queue k → ⊥
  pub level : (k : ℕ) → lo ≤ k → k < end → at w.rounds (at w.queue k) ≡ r
  pub found : (i : ℕ) → i < G.states → at w.rounds i ≡ r → (k : ℕ) × (lo ≤ k) × (k < end) × (at w.queue k ≡ i)

-- a number below r, or one that passes a test which r alone passes, is at most r
at_most : (x r : ℕ) (t : Bool) → (x ≡ r → t ≡ true) → (t ≡ true → x ≡ r) → (ltb x r || t) ≡ leb x r
at_most x r t f g = go (dec_lt x r) (ℕ_discrete x r)
  where
    go : Dec (x < r) → Dec (x ≡ r) → (ltb x r || t) ≡ leb x r
    go (yes l) _ = rw (lt-ltb x r l, le-leb x r (omega arith))
    go (no l) (yes q) = rw (le-ltb x r (omega arith), f q, le-leb x r (omega arith))
    go (no l) (no q) = rw (le-ltb x r (omega arith), unless_true t (λ e. q (g e)), lt-leb x r (omega arith))

module _ {n : ℕ} {starts successors classes froms index owners : List ℕ} (s : Tables n starts successors classes) (is : IsIncoming n starts successors froms index owners)
    (few : n ≤ 1024) (want : Bool) (a b : States)
  where
    -- the game in the tables, and its joint moves in one line
    abbrev G : Game
    G = in_tables n starts successors classes

    abbrev total : ℕ
    total = at starts n

    abbrev first : ℕ → ℕ
    first = at starts

    abbrev own : ℕ → ℕ
    own = at owners

    abbrev to : ℕ → ℕ
    to = at successors

    abbrev cls : ℕ → ℕ
    cls = kind starts classes owners

    abbrev L : Lines G total first own to cls
    L = lines_hold s is

    -- what a round asks, which grows
    abbrev by : States → States
    by = rule G want a

    mono : (v w : States) → spread.Holds n v w → spread.Holds n (by v) (by w)
    mono = rule_mono G (is_game_lem n starts successors classes s) a want

    -- the counts after r sweeps
    abbrev table : ℕ → List ℕ
    table r = swept n by b r

    -- what a position waits for, where the joint moves in W were visited
    abbrev need : (ℕ → Bool) → ℕ → ℕ
    need = need_of G total first own to cls L want

    -- a count is below the number that stands for none
    small : n < unset
    small = omega arith

    -- the positions that are reached within k
    abbrev within : ℕ → States
    within = spread.reach n by mono b

    -- each joint move leads to a position
    lands : (p : ℕ) → p < total → to p < n
    lands p h = let (j, l, e) = L.found p h in rw e at (s.landed (own p) (L.owner p h) j l)

    -- after r sweeps, the positions of a count of at most k
    counted_is : (r k i : ℕ) → k ≤ r → r < unset → i < n → counted (table r) k i ≡ within k i
    counted_is = spread.swept_leb n by mono b

    -- no count is below 0, and those below r + 1 are those of the positions that are reached within r
    lower_zero : (p : ℕ) → lower to (table 0) 0 p ≡ false
    lower_zero p = le-ltb (get_or (table 0) (to p) unset) 0 (omega arith)

    lower_suc : (r p : ℕ) → suc r < unset → p < total → lower to (table (suc r)) (suc r) p ≡ within r (to p)
    lower_suc r p u h = leb-suc-suc _ r ∙ counted_is (suc r) r (to p) (omega arith) u (lands p h)

    -- where the joint moves into v were visited, the positions of a that wait for nothing are those of which the rule holds
    asked : (W : ℕ → Bool) (v : States) → ((p : ℕ) → p < total → W p ≡ v (to p)) → (i : ℕ) → i < n → (a i && eqb (need W i) 0) ≡ by v i
    unfolding rule
    asked W v f i h =
        ap (λ (x : ℕ). a i && eqb x 0) (need_cong G total first own to cls L want W (λ p. v (to p)) i f)
        ∙ ap (λ (x : Bool). a i && x) (need_rule G total first own to cls L want v i h)

    -- before a round no position is due that has no count
    no_news : (r i : ℕ) → r < unset → i < n → within r i ≡ false → (a i && eqb (need (lower to (table r) r) i) 0) ≡ false
    no_news zero i u h e =
        ap (λ (x : ℕ). a i && eqb x 0) same
        ∙ ap (λ (x : Bool). a i && x) (ne_eqb (need none i) 0 (λ q. omega (arith, some)))
        ∙ and-false (a i)
      where
        same : need (lower to (table 0) 0) i ≡ need none i
        same = need_cong G total first own to cls L want (lower to (table 0) 0) none i (λ p m. lower_zero p)

        some : 0 < need none i
        some = need_some G total first own to cls L want (is_game_lem n starts successors classes s) i h
    no_news (suc r) i u h e = asked (lower to (table (suc r)) (suc r)) (within r) (λ p m. lower_suc r p u m) i h ∙ spread.unreached n by mono b r i e

    -- before the first round
    pub between_start : (count : ℕ) (left need rounds queue : List ℕ) → Opens n starts classes owners want left need → Lined n count rounds queue
        → rounds ≡ tabulate n (λ i. cond (b i) 0 unset) → total ≤ length left → n ≤ length need → n ≤ length queue
        → Between G total first own to cls L want a b 0 0 count (walk left need rounds queue count)
    between_start count left need rounds queue x y e l m k = record {
      counts = count_none s small want a b rounds e;
      round = omega arith;
      up = omega arith;
      more = refl;
      sized = record {
        lefts = l;
        needs = m;
        long = ap length e ∙ length_tabulate n _;
        room = k;
        few = y.few ∙ many_cong n _ _ zeros;
        listed = y.listed;
      };
      lefts = λ c h. all_left c h ∙ left_cong G total first own to cls L want none (lower to (table 0) 0) c (λ p h. sym (lower_zero p));
      needs = λ i h. all_needs i h ∙ need_cong G total first own to cls L want none (lower to (table 0) 0) i (λ p h. sym (lower_zero p));
      there = λ j h. omega (arith, y.zeros j h);
      once = λ i j h g q. omega (arith, y.once i j h g);
      level = λ j h g. y.zeros j g;
      found = λ i h q. let (j, g, o) = y.found i h q in (j, omega arith, g, o);
    }
      where
        -- a count is 0, or there is none
        zeros : (i : ℕ) → i < n → eqb (at rounds i) 0 ≡ ltb (at rounds i) unset
        zeros i h = rw (ap (λ (t : List ℕ). at t i) e ∙ get_d_tabulate n (λ i. cond (b i) 0 unset) 0 i h) (go (b i))
          where
            go : (t : Bool) → eqb (cond t 0 unset) 0 ≡ ltb (cond t 0 unset) unset
            go true = refl
            go false = refl

        all_left : (c : ℕ) → c < total → at left c ≡ left_of G total first own to cls L want none c
        all_left c h = x.lefts c h ∙ sym (left_start G total first own to cls L want c)

        all_needs : (i : ℕ) → i < n → at need i ≡ need_of G total first own to cls L want none i
        all_needs i h =
            x.needs i h
            ∙ ap (λ (t : ℕ). cond want 1 t) (many_cong (G.moves i) _ _ (λ j g. ap (ltb 0) (all_left (first i + j) (L.inside i j h g))))
            ∙ sym (need_start G total first own to cls L want i)

    module _ {r lo end : ℕ} {w : Walk} (x : Between G total first own to cls L want a b r lo end w) where
      -- the queue has no more than all positions, and no more rounds are done
      pub between_le : end ≤ n
      between_le = omega (arith, x.more, sized_le x.sized)

      pub between_round : r ≤ n
      between_round = omega (arith, x.round, x.up, between_le)

      -- and so is the next count
      late : suc r < unset
      late = omega (arith, between_round)

      -- the count of a position, from either table
      count_at : (i : ℕ) → i < n → at w.rounds i ≡ get_or (table r) i unset
      count_at i h = get_d_default w.rounds i 0 unset (omega (arith, x.sized.long)) ∙ ap (λ (l : List ℕ). get_or l i unset) x.counts

      -- a count above r is none
      old : (i : ℕ) → i < n → r < get_or (table r) i unset → get_or (table r) i unset ≡ unset
      old i h l = spread.swept_counts n by mono b r i (omega (arith, late)) h l

      -- the joint moves to the positions of a lower count and those to the positions of count r
      reached : (p : ℕ) → p < total → (lower to (table r) r p || some< (end - lo) (λ j. eqb (to p) (at w.queue (lo + j)))) ≡ counted (table r) r (to p)
      reached p h = at_most (get_or (table r) (to p) unset) r _ there back
        where
          there : get_or (table r) (to p) unset ≡ r → some< (end - lo) (λ j. eqb (to p) (at w.queue (lo + j))) ≡ true
          there e =
              let (k, l, m, q) = x.found (to p) (lands p h) (count_at (to p) (lands p h) ∙ e) in
              let z : lo + (k - lo) ≡ k = omega arith in
              some_intro (end - lo) (λ j. eqb (to p) (at w.queue (lo + j))) (k - lo) (omega arith) (eq-eqb (to p) _ (sym (ap (at w.queue) z ∙ q)))

          back : some< (end - lo) (λ j. eqb (to p) (at w.queue (lo + j))) ≡ true → get_or (table r) (to p) unset ≡ r
          back e =
              let (j, l, q) = some_elim (end - lo) (λ j. eqb (to p) (at w.queue (lo + j))) e in
              sym (count_at (to p) (lands p h)) ∙ ap (at w.rounds) (eqb-true (to p) _ q) ∙ x.level (lo + j) (omega arith) (omega arith)

      -- the next round begins
      begun : Walked G total first own to cls L want a (table r) r end w.queue (lower to (table r) r) w
      begun = record {
        sized = x.sized;
        lefts = x.lefts;
        needs = x.needs;
        counts = λ i h. count_at i h ∙ go i h (counted (table r) r i) refl;
        queued = record {
          up = omega (arith, x.more);
          keeps = λ k h. refl;
          there = λ k h. x.there k (omega (arith, x.more));
          once = λ j k h g. x.once j k h (omega (arith, x.more));
          fresh = λ k h g. absurd (omega (arith, x.more));
          found = λ i h e. absurd (omega (arith, late, old i h (omega (arith, count_at i h)), count_at i h));
        };
      }
        where
          go : (i : ℕ) → i < n → (t : Bool) → counted (table r) r i ≡ t
              → get_or (table r) i unset ≡ cond t (get_or (table r) i unset) (cond (a i && eqb (need (lower to (table r) r) i) 0) (suc r) unset)
          go i h true e = refl
          go i h false e =
              old i h (leb-false (get_or (table r) i unset) r e)
              ∙ ap (λ (t : Bool). cond t (suc r) unset) (sym (no_news r i (omega (arith, late)) h (sym (counted_is r r i (le_refl r) (omega (arith, late)) h) ∙ e)))

      -- a round is over where all joint moves to positions with a count are visited
      over : (queue : List ℕ) (W : ℕ → Bool) (v : Walk) → Walked G total first own to cls L want a (table r) r end queue W v
          → ((p : ℕ) → p < total → W p ≡ counted (table r) r (to p)) → v.rounds ≡ table (suc r)
      unfolding swept recount
      over queue W v y f =
          ext_get_or 0 v.rounds (tabulate n (recount by r (table r))) (y.sized.long ∙ sym (length_tabulate n _)) (λ i h.
          let g : i < n = omega (arith, y.sized.long) in
          y.counts i g
          ∙ ap (λ (t : Bool). cond (counted (table r) r i) (get_or (table r) i unset) (cond t (suc r) unset)) (asked W (counted (table r) r) f i g)
          ∙ sym (get_d_tabulate n (recount by r (table r)) 0 i g))

      -- where no position took the last count, the counts are those of all sweeps
      pub between_end : end ≤ lo → w.rounds ≡ swept n by b n
      between_end h = x.counts ∙ sym (spread.enough n by mono b r n late between_round small (sym (over w.queue (lower to (table r) r) w begun all) ∙ x.counts))
        where
          all : (p : ℕ) → p < total → lower to (table r) r p ≡ counted (table r) r (to p)
          all p g =
              let z : end - lo ≡ 0 = omega arith in
              sym (or-false _) ∙ ap (λ (k : ℕ). lower to (table r) r p || some< k (λ j. eqb (to p) (at w.queue (lo + j)))) (sym z) ∙ reached p g

      -- the next round
      pub between_next : lo < end
          → Between G total first own to cls L want a b (r + 1) end (passes own cls want a froms index r lo (end - lo) w).more (passes own cls want a froms index r lo (end - lo) w)
      between_next h = rw (add-one r) (record {
        counts = over w.queue _ _ y reached;
        round = omega (arith, x.round);
        up = y.queued.up;
        more = refl;
        sized = y.sized;
        lefts = λ c g. y.lefts c g ∙ left_cong G total first own to cls L want W (lower to (table (suc r)) (suc r)) c same;
        needs = λ i g. y.needs i g ∙ need_cong G total first own to cls L want W (lower to (table (suc r)) (suc r)) i same;
        there = y.queued.there;
        once = y.queued.once;
        level = y.queued.fresh;
        found = y.queued.found;
      })
        where
          W : ℕ → Bool
          W p = lower to (table r) r p || some< (end - lo) (λ j. eqb (to p) (at w.queue (lo + j)))

          ahead : (j : ℕ) → lo ≤ j → j < end → (p : ℕ) → p < total → to p ≡ at w.queue j → lower to (table r) r p ≡ false
          ahead j l m p g e = le-ltb (get_or (table r) (to p) unset) r (omega (arith, count_at (to p) (lands p g), ap (at w.rounds) e, x.level j l m))

          y : Walked G total first own to cls L want a (table r) r end w.queue W (passes own cls want a froms index r lo (end - lo) w)
          y = passes_walked G total first own to cls L want a late is.sorted lo (end - lo) (omega (arith, x.up)) ahead begun

          same : (p : ℕ) → p < total → W p ≡ lower to (table (suc r)) (suc r) p
          same p g = reached p g ∙ counted_is r r (to p) (le_refl r) (omega (arith, late)) (lands p g) ∙ sym (lower_suc r p late g)

      -- the same of the tables that one round leaves
      pub between_step : lo < end → (v : Walk) → v ≡ passes own cls want a froms index r lo (end - lo) w → Between G total first own to cls L want a b (r + 1) end v.more v
      between_step h v e = rw e (between_next h)
