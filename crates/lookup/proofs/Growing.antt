-- One node more: where the new node stands, and that the tree with it is a tree of one entry more.
use Prim.Native.Nat.{ℕ, ◌+◌, ◌*◌, ◌≤◌, ◌<◌}
use mathlib.Core.Path.{◌≡◌, refl, sym, ap, ◌∙◌, subst}
use mathlib.Core.Logic.{◌⊎◌, inl, inr}
use mathlib.Core.List.{List}
use native.Mathlib.Nat.{eq-or-lt_of_le}
use native.Mathlib.Decide.{dec_lt, ℕ_discrete}
use native.Mathlib.Omega.{arith}
use lib.ListN.{length, get_or}
use Rattle.facts.specs.Bits.{bit}
use Rattle.tables.specs.Lengths.{state_limit}
use Rattle.lookup.specs.Tree.{fact_limit, Link, Target, entry, node, Way, here, on, Lands, Spotted, Forked, Treed, FirstDifference}
use Rattle.lookup.proofs.Ways.{bit_le, way_join, way_more, way_same, way_rest, way_stops, root, link_of, node_in, entry_stops, way_link, spotted_in, way_low, way_up, way_shared, lands_in}

-- node n, which tests fact d, takes the place of link q: its side s leads to entry n, its side o where link q led
pub record Grafted (n d q s o : ℕ) (tests forks tests' forks' : List ℕ) : Type 0 where
  pub tests_long : length tests' ≡ length tests
  pub forks_long : length forks' ≡ length forks
  pub test_new : get_or tests' n 0 ≡ d
  pub test_kept : (k : ℕ) → k < n → get_or tests' k 0 ≡ get_or tests k 0
  pub at_q : get_or forks' q 0 ≡ state_limit + n
  pub at_new : get_or forks' (2 * n + s) 0 ≡ n
  pub at_old : get_or forks' (2 * n + o) 0 ≡ get_or forks q 0
  pub kept : (p : ℕ) → p < 2 * n → (p ≡ q → ⊥) → get_or forks' p 0 ≡ get_or forks p 0

-- which link of the new tree p is
data Which (n q s o p : ℕ) : Type 0 where
  is_q : p ≡ q → Which n q s o p
  is_new : p ≡ 2 * n + s → Which n q s o p
  is_old : p ≡ 2 * n + o → Which n q s o p
  is_other : Link n p → (p ≡ q → ⊥) → Which n q s o p

which : (n q s o p : ℕ) → s ≤ 1 → o ≤ 1 → (o ≡ s → ⊥) → Link (n + 1) p → Which n q s o p
which n q s o p i j h l = go (ℕ_discrete p q) (dec_lt p (2 * n)) (ℕ_discrete p (2 * n + s))
  where
    go : Dec (p ≡ q) → Dec (p < 2 * n) → Dec (p ≡ 2 * n + s) → Which n q s o p
    go (yes e) a b = is_q e
    go (no e) (yes a) b = is_other (omega arith) e
    go (no e) (no a) (yes b) = is_new b
    go (no e) (no a) (no b) = is_old (omega arith)

module _ {table tests forks : List ℕ} {n x c d q : ℕ} (t : Treed table n tests forks) (l : Lands tests forks x c)
    (f : FirstDifference (get_or table c 0) x d) (at : Spotted tests forks x d q) where
  -- the entry at which the way of x ends
  abbrev y : ℕ
  y = get_or table c 0

  c_in : c < n
  c_in = lands_in t.forked l

  q_in : Link n q
  q_in = spotted_in t.forked at

  -- the way of entry c passes q too, since it differs from x in no fact that is tested before
  abbrev end : ℕ
  end = (t.ends c c_in).0

  ends_at : get_or forks (t.ends c c_in).0 0 ≡ c
  ends_at = (t.ends c c_in).2

  rest : Way tests forks y fact_limit q (t.ends c c_in).0
  rest = way_rest (omega (arith, f.within)) (entry_stops t.forked end fact_limit c_in ends_at) (way_same (λ h b. sym (f.same h b)) at.0) (t.ends c c_in).1

  -- x and entry c answer alike at the target of q
  meets : (k : ℕ) → get_or forks q 0 ≡ state_limit + k → bit y (get_or tests k 0) ≡ bit x (get_or tests k 0)
  meets k e = go (way_rest (omega (arith, f.within)) l.1.1 at.0 l.1.0)
    where
      go : Way tests forks x fact_limit q l.0 → bit y (get_or tests k 0) ≡ bit x (get_or tests k 0)
      go (here s) = absurd (omega (arith, t.forked.room, c_in, l.2, ap (λ (p : ℕ). get_or forks p 0) s))
      go (on j s b v) =
          let (g, h) = node_in t.forked q_in e in
          let same : j ≡ k = omega arith in
          let le = bit_le x (get_or tests k 0) in
          let one : (t.ends c c_in).0 ≡ l.0 =
          t.forked.single end l.0 (way_link t.forked (root t.forked) (t.ends c c_in).1) (spotted_in t.forked l.1) (ends_at ∙ l.2) in
          let from : Way tests forks x fact_limit (2 * k + bit x (get_or tests k 0)) l.0 = subst (λ (m : ℕ). Way tests forks x fact_limit (2 * m + bit x (get_or tests m 0)) l.0) same v in
          let to : Way tests forks y fact_limit 0 l.0 = subst (λ (p : ℕ). Way tests forks y fact_limit 0 p) one (t.ends c c_in).1 in
          (way_up t.forked k (bit x (get_or tests k 0)) q_in e le (way_shared t.forked (link_of t.forked k (bit x (get_or tests k 0)) g h le) from to)).1

  -- so it tests a fact above d
  higher : (k : ℕ) → get_or forks q 0 ≡ state_limit + k → d < get_or tests k 0
  higher k e = go (eq-or-lt_of_le (at.1 k e))
    where
      go : (d ≡ get_or tests k 0) ⊎ (d < get_or tests k 0) → d < get_or tests k 0
      go (inl s) = absurd (f.differ (subst (λ (h : ℕ). bit y h ≡ bit x h) (sym s) (meets k e)))
      go (inr b) = b

  -- an entry whose way passes q agrees with entry c on the facts up to d
  through : (i r h : ℕ) → i < n → Way tests forks (get_or table i 0) fact_limit q r → get_or forks r 0 ≡ i → h ≤ d → bit (get_or table i 0) h ≡ bit y h
  through i r h b w e le = go (t.forked.goes q q_in)
    where
      go : Target n (get_or forks q 0) → bit (get_or table i 0) h ≡ bit y h
      go (entry m) =
          let stop = entry_stops t.forked q fact_limit m refl in
          let same : i ≡ c = sym e ∙ ap (λ (p : ℕ). get_or forks p 0) (way_stops stop w ∙ sym (way_stops stop rest)) ∙ ends_at in
          ap (λ (j : ℕ). bit (get_or table j 0) h) same
      go (node k m j s) =
          let a : h < get_or tests k 0 = omega (arith, higher k s) in
          t.alike i q r k h b q_in w e s a ∙ sym (t.alike c q end k h c_in q_in rest ends_at s a)

  -- ---- the new tree

  module _ {tests' forks' : List ℕ} (g : Grafted n d q (bit x d) (bit y d) tests forks tests' forks') (is : get_or table n 0 ≡ x) (fits : n < state_limit) (more : n < length table) where
    abbrev Kind : ℕ → Type 0
    Kind p = Which n q (bit x d) (bit y d) p

    kind : (p : ℕ) → Link (n + 1) p → Kind p
    kind p m = which n q (bit x d) (bit y d) p (bit_le x d) (bit_le y d) f.differ m

    -- where the links of the new tree lead
    to_q : {p : ℕ} → p ≡ q → get_or forks' p 0 ≡ state_limit + n
    to_q e = ap (λ (m : ℕ). get_or forks' m 0) e ∙ g.at_q

    to_new : {p : ℕ} → p ≡ 2 * n + bit x d → get_or forks' p 0 ≡ n
    to_new e = ap (λ (m : ℕ). get_or forks' m 0) e ∙ g.at_new

    to_old : {p : ℕ} → p ≡ 2 * n + bit y d → get_or forks' p 0 ≡ get_or forks q 0
    to_old e = ap (λ (m : ℕ). get_or forks' m 0) e ∙ g.at_old

    no_n : {p : ℕ} → Link n p → get_or forks p 0 ≡ n → ⊥
    no_n {p} m e = go (t.forked.goes p m)
      where
        go : Target n (get_or forks p 0) → ⊥
        go (entry b) = omega arith
        go (node k b j s) = omega arith

    only_q : {p : ℕ} → Kind p → get_or forks' p 0 ≡ state_limit + n → p ≡ q
    only_q (is_q e) s = e
    only_q (is_new e) s = absurd (omega (arith, to_new e))
    only_q (is_old e) s = absurd (omega (arith, node_in t.forked q_in (sym (to_old e) ∙ s)))
    only_q {p} (is_other m e) s = absurd (omega (arith, node_in t.forked m (sym (g.kept p m.1 e) ∙ s)))

    only_new : {p : ℕ} → Kind p → get_or forks' p 0 ≡ n → p ≡ 2 * n + bit x d
    only_new (is_q e) s = absurd (omega (arith, to_q e))
    only_new (is_new e) s = e
    only_new (is_old e) s = absurd (no_n q_in (sym (to_old e) ∙ s))
    only_new {p} (is_other m e) s = absurd (no_n m (sym (g.kept p m.1 e) ∙ s))

    -- the test of the new node
    test_n : {k : ℕ} → k ≡ n → get_or tests' k 0 ≡ d
    test_n e = ap (λ (m : ℕ). get_or tests' m 0) e ∙ g.test_new

    wider : {a b : ℕ} → b ≡ a → Target n a → Target (n + 1) b
    wider e (entry h) = entry (omega arith)
    wider e (node k i j s) = node k i (omega arith) (e ∙ s)

    goes' : {p : ℕ} → Kind p → Target (n + 1) (get_or forks' p 0)
    goes' (is_q e) = node n t.forked.some (omega arith) (to_q e)
    goes' (is_new e) = entry (omega (arith, to_new e))
    goes' (is_old e) = wider (to_old e) (t.forked.goes q q_in)
    goes' {p} (is_other m e) = wider (g.kept p m.1 e) (t.forked.goes p m)

    single' : {p r : ℕ} → Kind p → Kind r → get_or forks' p 0 ≡ get_or forks' r 0 → p ≡ r
    single' (is_q e) w s = e ∙ sym (only_q w (sym s ∙ to_q e))
    single' (is_new e) w s = e ∙ sym (only_new w (sym s ∙ to_new e))
    single' (is_old e) (is_q h) s = only_q (is_old e) (s ∙ to_q h) ∙ sym h
    single' (is_old e) (is_new h) s = only_new (is_old e) (s ∙ to_new h) ∙ sym h
    single' (is_old e) (is_old h) s = e ∙ sym h
    single' {p} {r} (is_old e) (is_other m h) s = absurd (h (t.forked.single r q m q_in (sym (g.kept r m.1 h) ∙ sym s ∙ to_old e)))
    single' (is_other m e) (is_q h) s = only_q (is_other m e) (s ∙ to_q h) ∙ sym h
    single' (is_other m e) (is_new h) s = only_new (is_other m e) (s ∙ to_new h) ∙ sym h
    single' {p} (is_other m e) (is_old h) s = absurd (e (t.forked.single p q m q_in (sym (g.kept p m.1 e) ∙ s ∙ to_old h)))
    single' {p} {r} (is_other m e) (is_other m' h) s = t.forked.single p r m m' (sym (g.kept p m.1 e) ∙ s ∙ g.kept r m'.1 h)

    low' : {k : ℕ} → (k ≡ n) ⊎ (k < n) → get_or tests' k 0 < fact_limit
    low' (inl e) = omega (arith, test_n e, f.within)
    low' {k} (inr b) = omega (arith, g.test_kept k b, t.forked.low k b)

    rises' : (k b j : ℕ) → 1 ≤ k → k < n + 1 → b ≤ 1 → Kind (2 * k + b) → get_or forks' (2 * k + b) 0 ≡ state_limit + j → get_or tests' k 0 < get_or tests' j 0
    rises' k b j i h o (is_q e) s =
        let last : j ≡ n = omega (arith, to_q e) in
        let old : k < n = omega (arith, q_in) in
        omega (arith, test_n last, g.test_kept k old, way_low t.forked at.0 k b i o (sym e))
    rises' k b j i h o (is_new e) s = absurd (omega (arith, to_new e))
    rises' k b j i h o (is_old e) s =
        let last : k ≡ n = omega (arith, bit_le y d) in
        let there = sym (to_old e) ∙ s in
        let (u, v) = node_in t.forked q_in there in
        omega (arith, test_n last, g.test_kept j v, higher j there)
    rises' k b j i h o (is_other m e) s =
        let there = sym (g.kept (2 * k + b) m.1 e) ∙ s in
        let (u, v) = node_in t.forked m there in
        let old : k < n = omega arith in
        omega (arith, g.test_kept k old, g.test_kept j v, t.forked.rises k b j i old o there)

    forked' : Forked (n + 1) tests' forks'
    forked' = record {
      some = omega arith;
      room = omega arith;
      tests_long = g.tests_long ∙ t.forked.tests_long;
      forks_long = g.forks_long ∙ t.forked.forks_long;
      goes = λ p m. goes' (kind p m);
      single = λ p r m m'. single' (kind p m) (kind r m');
      low = λ k b. low' (eq-or-lt_of_le (omega arith));
      rises = λ k b j i h o. rises' k b j i h o (kind (2 * k + b) (omega arith));
    }

    -- an old node in the new tree, on the way of z
    step_in : {z p r : ℕ} (k : ℕ) → k < n → get_or forks' p 0 ≡ state_limit + k → Way tests' forks' z fact_limit (2 * k + bit z (get_or tests k 0)) r → Way tests' forks' z fact_limit p r
    step_in {z} {p} {r} k b e w =
        on k e (omega (arith, g.test_kept k b, t.forked.low k b)) (subst (λ (h : ℕ). Way tests' forks' z fact_limit (2 * k + bit z h) r) (sym (g.test_kept k b)) w)

    -- the new node, on the way of z
    step_new : {z r : ℕ} → Way tests' forks' z fact_limit (2 * n + bit z d) r → Way tests' forks' z fact_limit q r
    step_new {z} {r} w =
        on n g.at_q (omega (arith, g.test_new, f.within)) (subst (λ (h : ℕ). Way tests' forks' z fact_limit (2 * n + bit z h) r) (sym g.test_new) w)

    -- entry c and whoever passes q with it answer as o does
    step_old : {i r s : ℕ} → i < n → Way tests forks (get_or table i 0) fact_limit q r → get_or forks r 0 ≡ i → Way tests' forks' (get_or table i 0) fact_limit (2 * n + bit y d) s
        → Way tests' forks' (get_or table i 0) fact_limit q s
    step_old {i} {r} {s} b w e v = step_new (subst (λ (h : ℕ). Way tests' forks' (get_or table i 0) fact_limit (2 * n + h) s) (sym (through i r d b w e (omega arith))) v)

    -- the way of an old entry, in the new tree
    carry : {i p r : ℕ} → i < n → Link n p → Way tests forks (get_or table i 0) fact_limit p r → get_or forks r 0 ≡ i
        → (s : ℕ) × Way tests' forks' (get_or table i 0) fact_limit p s × (get_or forks' s 0 ≡ i)
    carry {i} {p} {r} b m (here h) e = go (ℕ_discrete p q)
      where
        go : Dec (p ≡ q) → (s : ℕ) × Way tests' forks' (get_or table i 0) fact_limit p s × (get_or forks' s 0 ≡ i)
        go (yes a) = (
          2 * n + bit y d,
          subst (λ (k : ℕ). Way tests' forks' (get_or table i 0) fact_limit k (2 * n + bit y d)) (sym a) (step_old b (here (h ∙ a)) e (here refl)),
          g.at_old ∙ ap (λ (k : ℕ). get_or forks k 0) (sym (h ∙ a)) ∙ e,
        )
        go (no a) = (p, here refl, g.kept p m.1 a ∙ ap (λ (k : ℕ). get_or forks k 0) (sym h) ∙ e)
    carry {i} {p} {r} b m (on k s a w) e =
        let (u, v) = node_in t.forked m s in
        go (ℕ_discrete p q) v (carry b (link_of t.forked k (bit (get_or table i 0) (get_or tests k 0)) u v (bit_le (get_or table i 0) (get_or tests k 0))) w e)
      where
        go : Dec (p ≡ q) → k < n → (o : ℕ) × Way tests' forks' (get_or table i 0) fact_limit (2 * k + bit (get_or table i 0) (get_or tests k 0)) o × (get_or forks' o 0 ≡ i)
            → (o : ℕ) × Way tests' forks' (get_or table i 0) fact_limit p o × (get_or forks' o 0 ≡ i)
        go (yes h) v (o, z, j) =
            let whole : Way tests forks (get_or table i 0) fact_limit q r = subst (λ (c : ℕ). Way tests forks (get_or table i 0) fact_limit c r) h (on k s a w) in
            let there : get_or forks q 0 ≡ state_limit + k = ap (λ (c : ℕ). get_or forks c 0) (sym h) ∙ s in
            (o, subst (λ (c : ℕ). Way tests' forks' (get_or table i 0) fact_limit c o) (sym h) (step_old b whole e (step_in k v (g.at_old ∙ there) z)), j)
        go (no h) v (o, z, j) = (o, step_in k v (g.kept p m.1 h ∙ s) z, j)

    -- the link of the old tree that link p of the new one stands for
    abbrev Back : ℕ → ℕ → Type 0
    Back p b = (p < 2 * n → b ≡ p) × (2 * n ≤ p → b ≡ q)

    back : {p : ℕ} → Kind p → (b : ℕ) × Back p b × Link n b
    back (is_q e) = (q, (λ h. sym e, λ h. refl), q_in)
    back (is_new e) = (q, (λ h. absurd (omega arith), λ h. refl), q_in)
    back (is_old e) = (q, (λ h. absurd (omega arith), λ h. refl), q_in)
    back {p} (is_other m e) = (p, (λ h. refl, λ h. absurd (omega arith)), m)

    -- it leads to the same, unless it leads to the new node or the new entry
    back_same : {p b : ℕ} → Kind p → Back p b → (get_or forks' p 0 ≡ state_limit + n → ⊥) → (get_or forks' p 0 ≡ n → ⊥) → get_or forks b 0 ≡ get_or forks' p 0
    back_same (is_q e) a h k = absurd (h (to_q e))
    back_same (is_new e) a h k = absurd (k (to_new e))
    back_same (is_old e) a h k = ap (λ (m : ℕ). get_or forks m 0) (a.1 (omega arith)) ∙ sym (to_old e)
    back_same {p} (is_other m e) a h k = ap (λ (j : ℕ). get_or forks j 0) (a.0 m.1) ∙ sym (g.kept p m.1 e)

    -- the way of z to an old entry, in the old tree
    uncarry : {z i p b r : ℕ} → i < n → Link (n + 1) p → Back p b → Way tests' forks' z fact_limit p r → get_or forks' r 0 ≡ i
        → (s : ℕ) × Way tests forks z fact_limit b s × (get_or forks s 0 ≡ i)
    uncarry {z} {i} {p} {b} {r} o m a (here h) e =
        let same : get_or forks' p 0 ≡ i = ap (λ (k : ℕ). get_or forks' k 0) (sym h) ∙ e in
        (b, here refl, back_same (kind p m) a (λ k. omega arith) (λ k. omega arith) ∙ same)
    uncarry {z} {i} {p} {b} {r} o m a (on k s h w) e =
        let (u, v) = node_in forked' m s in
        go u (eq-or-lt_of_le (omega arith)) (λ b' a'. uncarry {b = b'} o (link_of forked' k (bit z (get_or tests' k 0)) u v (bit_le z (get_or tests' k 0))) a' w e)
      where
        go : 1 ≤ k → (k ≡ n) ⊎ (k < n) → ((b' : ℕ) → Back (2 * k + bit z (get_or tests' k 0)) b' → (s : ℕ) × Way tests forks z fact_limit b' s × (get_or forks s 0 ≡ i))
            → (s : ℕ) × Way tests forks z fact_limit b s × (get_or forks s 0 ≡ i)
        go u (inl j) rec =
            let there : p ≡ q = only_q (kind p m) (s ∙ ap (λ (k : ℕ). state_limit + k) j) in
            let same : b ≡ q = a.0 (omega (arith, q_in)) ∙ there in
            rw same (rec q (λ l. absurd (omega arith), λ l. refl))
        go u (inr j) rec =
            let (r', v, f') = rec (2 * k + bit z (get_or tests' k 0)) (λ l. refl, λ l. absurd (omega (arith, bit_le z (get_or tests' k 0)))) in
            let there : get_or forks b 0 ≡ state_limit + k = back_same (kind p m) a (λ l. omega arith) (λ l. omega arith) ∙ s in
            (r', on k there (t.forked.low k j) (subst (λ (c : ℕ). Way tests forks z fact_limit (2 * k + bit z c) r') (g.test_kept k j) v), f')

    -- the way of x does not come back to q
    no_return : (k b : ℕ) → 1 ≤ k → k < n → b ≤ 1 → d ≤ get_or tests k 0 → Way tests forks x d (2 * k + b) q → ⊥
    no_return k b i j h a (here e) = omega (arith, way_low t.forked at.0 k b i h e)
    no_return k b i j h a (on m e s w) = omega (arith, t.forked.rises k b m i j h e)

    -- so in the new tree it comes to the new entry from q, and to q from where it came before
    before : {p r : ℕ} → Link (n + 1) p → Way tests' forks' x fact_limit p r → get_or forks' r 0 ≡ n → (p ≡ 2 * n + bit x d) ⊎ ((p < 2 * n) × Way tests forks x d p q)
    before {p} m (here h) e = inl (only_new (kind p m) (ap (λ (k : ℕ). get_or forks' k 0) (sym h) ∙ e))
    before {p} {r} m (on k s h w) e =
        let (u, v) = node_in forked' m s in
        go (kind p m) u (before (link_of forked' k (bit x (get_or tests' k 0)) u v (bit_le x (get_or tests' k 0))) w e)
      where
        from : k < n → (2 * k + bit x (get_or tests' k 0) ≡ 2 * n + bit x d) ⊎ ((2 * k + bit x (get_or tests' k 0) < 2 * n) × Way tests forks x d (2 * k + bit x (get_or tests' k 0)) q)
            → Way tests forks x d (2 * k + bit x (get_or tests k 0)) q
        from b (inl j) = absurd (omega (arith, bit_le x (get_or tests' k 0)))
        from b (inr (j, v)) = subst (λ (c : ℕ). Way tests forks x d (2 * k + bit x c) q) (g.test_kept k b) v

        go : Kind p → 1 ≤ k
            → (2 * k + bit x (get_or tests' k 0) ≡ 2 * n + bit x d) ⊎ ((2 * k + bit x (get_or tests' k 0) < 2 * n) × Way tests forks x d (2 * k + bit x (get_or tests' k 0)) q)
            → (p ≡ 2 * n + bit x d) ⊎ ((p < 2 * n) × Way tests forks x d p q)
        go (is_q a) u came = inr (omega (arith, q_in), here (sym a))
        go (is_new a) u came = inl a
        go (is_old a) u came =
            let there = sym (to_old a) ∙ s in
            let (i, j) = node_in t.forked q_in there in
            absurd (no_return k (bit x (get_or tests k 0)) i j (bit_le x (get_or tests k 0)) (at.1 k there) (from j came))
        go (is_other o a) u came =
            let there = sym (g.kept p o.1 a) ∙ s in
            let (i, j) = node_in t.forked o there in
            below (dec_lt (get_or tests k 0) d) there i j
          where
            below : Dec (get_or tests k 0 < d) → get_or forks p 0 ≡ state_limit + k → 1 ≤ k → k < n → (p ≡ 2 * n + bit x d) ⊎ ((p < 2 * n) × Way tests forks x d p q)
            below (yes b) there i j = inr (o.1, on k there b (from j came))
            below (no b) there i j = absurd (no_return k (bit x (get_or tests k 0)) i j (bit_le x (get_or tests k 0)) (omega arith) (from j came))

    -- the way of x to q is as it was
    early : {p : ℕ} → Link n p → Way tests forks x d p q → Way tests' forks' x fact_limit p q
    early m (here e) = here e
    early {p} m (on k e a w) =
        let (i, j) = node_in t.forked m e in
        let other : p ≡ q → ⊥ = λ s. omega (arith, at.1 k (ap (λ (r : ℕ). get_or forks r 0) (sym s) ∙ e)) in
        step_in k j (g.kept p m.1 other ∙ e) (early (link_of t.forked k (bit x (get_or tests k 0)) i j (bit_le x (get_or tests k 0))) w)

    ends' : (i : ℕ) → (i ≡ n) ⊎ (i < n) → (r : ℕ) × Way tests' forks' (get_or table i 0) fact_limit 0 r × (get_or forks' r 0 ≡ i)
    ends' i (inl e) =
        let here_x : get_or table i 0 ≡ x = ap (λ (k : ℕ). get_or table k 0) e ∙ is in
        rw here_x (2 * n + bit x d, way_join (early (root t.forked) at.0) (step_new (here refl)), g.at_new ∙ sym e)
    ends' i (inr b) = let (r, w, e) = t.ends i b in carry b (root t.forked) w e

    -- x agrees with entry k on the facts below the test of node k, where it passes that
    alike_x : {p r : ℕ} (k h : ℕ) → k < n → Link (n + 1) p → Way tests' forks' x fact_limit p r → get_or forks' r 0 ≡ n → get_or forks' p 0 ≡ state_limit + k
        → h < get_or tests k 0 → bit x h ≡ bit (get_or table k 0) h
    alike_x {p} k h b m w e s a = go (before m w e)
      where
        other : p ≡ q → ⊥
        other i = omega (arith, to_q i)

        turn : p < 2 * n → Way tests forks x d p q → bit x h ≡ bit (get_or table k 0) h
        turn i (here j) = absurd (other (sym j))
        turn i (on j o v z) =
            let there : get_or forks p 0 ≡ state_limit + k = sym (g.kept p i other) ∙ s in
            let same : j ≡ k = omega arith in
            let low : get_or tests k 0 < d = subst (λ (c : ℕ). get_or tests c 0 < d) same v in
            let old : Link n p = (m.0, i) in
            let way : Way tests forks y fact_limit p (t.ends c c_in).0 =
            way_join (way_more (omega (arith, f.within)) (way_same (λ c b. sym (f.same c b)) (on j o v z))) rest in
            sym (f.same h (omega arith)) ∙ t.alike c p end k h c_in old way ends_at there a

        go : (p ≡ 2 * n + bit x d) ⊎ ((p < 2 * n) × Way tests forks x d p q) → bit x h ≡ bit (get_or table k 0) h
        go (inl i) = absurd (omega (arith, to_new i))
        go (inr (i, v)) = turn i v

    alike' : {p r : ℕ} (i k h : ℕ) → (i ≡ n) ⊎ (i < n) → (k ≡ n) ⊎ (k < n) → Link (n + 1) p → Way tests' forks' (get_or table i 0) fact_limit p r → get_or forks' r 0 ≡ i
        → get_or forks' p 0 ≡ state_limit + k → h < get_or tests' k 0 → bit (get_or table i 0) h ≡ bit (get_or table k 0) h
    alike' i k h (inl a) (inl b) m w e s j = ap (λ (o : ℕ). bit (get_or table o 0) h) (a ∙ sym b)
    alike' {p} {r} i k h (inl a) (inr b) m w e s j =
        let here_x : get_or table i 0 ≡ x = ap (λ (k : ℕ). get_or table k 0) a ∙ is in
        ap (λ (z : ℕ). bit z h) here_x
        ∙ alike_x k h b m (subst (λ (z : ℕ). Way tests' forks' z fact_limit p r) here_x w) (e ∙ a) s (omega (arith, g.test_kept k b))
    alike' {p} {r} i k h (inr a) (inl b) m w e s j =
        let there : p ≡ q = only_q (kind p m) (s ∙ ap (λ (k : ℕ). state_limit + k) b) in
        let (r', v, o) = uncarry {b = q} a m (λ l. sym there, λ l. refl) w e in
        let below : h < d = omega (arith, test_n b) in
        through i r' h a v o (omega arith) ∙ f.same h below ∙ ap (λ (z : ℕ). bit z h) (sym is) ∙ ap (λ (l : ℕ). bit (get_or table l 0) h) (sym b)
    alike' {p} {r} i k h (inr a) (inr b) m w e s j =
        let (b', back_is, old) = back (kind p m) in
        let (r', v, o) = uncarry {b = b'} a m back_is w e in
        t.alike i b' r' k h a old v o (back_same (kind p m) back_is (λ l. omega arith) (λ l. omega arith) ∙ s) (omega (arith, g.test_kept k b))

    pub grown : Treed table (n + 1) tests' forks'
    grown = record {
      forked = forked';
      inside = omega arith;
      ends = λ i b. ends' i (eq-or-lt_of_le (omega arith));
      alike = λ i p r k h b m w e s. alike' i k h (eq-or-lt_of_le (omega arith)) (eq-or-lt_of_le (omega (arith, node_in forked' m s))) m w e s;
    }
