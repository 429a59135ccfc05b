-- The laws of ways: that they join, where they end, and what they pass.
use Prim.Native.Nat.{ℕ, suc, ◌+◌, ◌*◌, ◌≤◌, ◌<◌}
use mathlib.Core.Path.{◌≡◌, refl, sym, ap, ◌∙◌, subst}
use mathlib.Core.Logic.{◌⊎◌, inl, inr}
use mathlib.Core.List.{List}
use native.Mathlib.Omega.{arith}
use lib.ListN.{get_or}
use Rattle.facts.specs.Bits.{bit}
use Rattle.tables.specs.Lengths.{state_limit}
use Rattle.lookup.specs.Tree.{fact_limit, Link, Target, entry, node, Way, here, on, Stop, Spotted, Lands, Forked}

pub bit_le : (x f : ℕ) → bit x f ≤ 1
bit_le x f = omega arith

-- a way to link r whose last step is by node k, to which link q leads
abbrev pub LastStep : (tests forks : List ℕ) → (x d p r : ℕ) → Type 0
LastStep tests forks x d p r =
    (q : ℕ) × (k : ℕ) × Way tests forks x d p q × (get_or forks q 0 ≡ state_limit + k) × (get_or tests k 0 < d) × (r ≡ 2 * k + bit x (get_or tests k 0))

module _ {tests forks : List ℕ} where
  -- a way goes on from its end
  pub way_join : {x d p q r : ℕ} → Way tests forks x d p q → Way tests forks x d q r → Way tests forks x d p r
  way_join {x} {d} {r = r} (here e) w = subst (λ (s : ℕ). Way tests forks x d s r) e w
  way_join (on k e b v) w = on k e b (way_join v w)

  -- by one node
  pub way_next : {x d p q : ℕ} (k : ℕ) → Way tests forks x d p q → get_or forks q 0 ≡ state_limit + k → get_or tests k 0 < d → Way tests forks x d p (2 * k + bit x (get_or tests k 0))
  way_next k w e b = way_join w (on k e b (here refl))

  -- a way over lower tests is one over more
  pub way_more : {x d e p q : ℕ} → d ≤ e → Way tests forks x d p q → Way tests forks x e p q
  way_more h (here e) = here e
  way_more h (on k e b v) = on k e (omega arith) (way_more h v)

  -- numbers that agree on the facts below d have the same ways over them
  pub way_same : {x y d p q : ℕ} → ((f : ℕ) → f < d → bit x f ≡ bit y f) → Way tests forks x d p q → Way tests forks y d p q
  way_same s (here e) = here e
  way_same {x} {y} {d} {q = q} s (on k e b v) = on k e b (subst (λ (c : ℕ). Way tests forks y d (2 * k + c) q) (s (get_or tests k 0) b) (way_same s v))

  -- what is left of a longer way
  pub way_rest : {x d e p q r : ℕ} → d ≤ e → Stop tests forks e r → Way tests forks x d p q → Way tests forks x e p r → Way tests forks x e q r
  way_rest {x} {e = e} {r = r} h stop (here s) w = subst (λ (c : ℕ). Way tests forks x e c r) (sym s) w
  way_rest h stop (on k s b v) (here t) = absurd (omega (arith, stop k (ap (λ (c : ℕ). get_or forks c 0) t ∙ s)))
  way_rest {x} {e = e} {r = r} h stop (on k s b v) (on j t c w) =
      let same : j ≡ k = omega arith in
      way_rest h stop v (subst (λ (m : ℕ). Way tests forks x e (2 * m + bit x (get_or tests m 0)) r) same w)

  -- from where it stops no way goes on
  pub way_stops : {x d p q : ℕ} → Stop tests forks d p → Way tests forks x d p q → q ≡ p
  way_stops stop (here e) = e
  way_stops stop (on k e b v) = absurd (omega (arith, stop k e))

  -- so there is one link where the way of x stops
  pub spotted_once : {x d p q : ℕ} → Spotted tests forks x d p → Spotted tests forks x d q → q ≡ p
  spotted_once (v, s) (w, t) = way_stops s (way_rest (omega arith) t v w)

  -- the last step of a way
  pub way_last : {x d p r : ℕ} → Way tests forks x d p r → (r ≡ p) ⊎ LastStep tests forks x d p r
  way_last (here e) = inl e
  way_last {x} {d} {p} {r} (on k e b v) = go (way_last v)
    where
      go : (r ≡ 2 * k + bit x (get_or tests k 0)) ⊎ LastStep tests forks x d (2 * k + bit x (get_or tests k 0)) r → (r ≡ p) ⊎ LastStep tests forks x d p r
      go (inl s) = inr (p, k, here refl, e, b, s)
      go (inr (q, j, w, s, c, t)) = inr (q, j, on k e b w, s, c, t)

-- how many nodes a way passes
unfoldable pub steps : {tests forks : List ℕ} {x d p r : ℕ} → Way tests forks x d p r → ℕ
steps (here e) = 0
steps (on k e b w) = suc (steps w)

module _ {n : ℕ} {tests forks : List ℕ} (t : Forked n tests forks) where
  -- the root's link, and the links of a node
  pub root : Link n 0
  root = omega (arith, t.some)

  pub link_of : (k b : ℕ) → 1 ≤ k → k < n → b ≤ 1 → Link n (2 * k + b)
  link_of k b i j h = omega arith

  -- a node that a link leads to is one of the tree
  pub node_in : {p k : ℕ} → Link n p → get_or forks p 0 ≡ state_limit + k → (1 ≤ k) × (k < n)
  node_in {p} {k} l e = go (t.goes p l)
    where
      go : Target n (get_or forks p 0) → (1 ≤ k) × (k < n)
      go (entry b) = absurd (omega (arith, t.room))
      go (node j b c s) = omega arith

  -- at an entry every way stops
  pub entry_stops : {i : ℕ} (r d : ℕ) → i < n → get_or forks r 0 ≡ i → Stop tests forks d r
  entry_stops r d b e k s = absurd (omega (arith, t.room))

  -- a way stays on the links of the tree
  pub way_link : {x d p r : ℕ} → Link n p → Way tests forks x d p r → Link n r
  way_link l (here e) = subst (λ (q : ℕ). Link n q) (sym e) l
  way_link {x} l (on k e b w) = let (i, j) = node_in l e in way_link (link_of k (bit x (get_or tests k 0)) i j (bit_le x (get_or tests k 0))) w

  pub spotted_in : {x d p : ℕ} → Spotted tests forks x d p → Link n p
  spotted_in s = way_link root s.0

  -- a node whose link the way from the root passes tests a fact below d
  pub way_low : {x d r : ℕ} → Way tests forks x d 0 r → (k b : ℕ) → 1 ≤ k → b ≤ 1 → r ≡ 2 * k + b → get_or tests k 0 < d
  way_low {x} {d} {r} w k b i j e = go (way_last w)
    where
      go : (r ≡ 0) ⊎ LastStep tests forks x d 0 r → get_or tests k 0 < d
      go (inl z) = absurd (omega arith)
      go (inr (q, m, v, s, h, u)) =
          let same : m ≡ k = omega (arith, bit_le x (get_or tests m 0)) in
          subst (λ (a : ℕ). get_or tests a 0 < d) same h

  -- whoever comes to a link of node k came by the one link to that node, and by the answer of that link
  pub way_up : {y d p : ℕ} (k b : ℕ) → Link n p → get_or forks p 0 ≡ state_limit + k → b ≤ 1 → Way tests forks y d 0 (2 * k + b) → Way tests forks y d 0 p × (bit y (get_or tests k 0) ≡ b)
  way_up {y} {d} {p} k b l e h w = go (way_last w)
    where
      go : (2 * k + b ≡ 0) ⊎ LastStep tests forks y d 0 (2 * k + b) → Way tests forks y d 0 p × (bit y (get_or tests k 0) ≡ b)
      go (inl z) = absurd (omega (arith, node_in l e))
      go (inr (q, m, v, s, a, u)) =
          let same : m ≡ k = omega (arith, bit_le y (get_or tests m 0)) in
          let one : q ≡ p = t.single q p (way_link root v) l (s ∙ ap (λ (j : ℕ). state_limit + j) same ∙ sym e) in
          (subst (λ (j : ℕ). Way tests forks y d 0 j) one v, subst (λ (j : ℕ). bit y (get_or tests j 0) ≡ b) same (omega arith))

  -- where two ways come to the same link, the second passes every link from which the first comes
  pub way_shared : {x y d e p r : ℕ} → Link n p → Way tests forks x d p r → Way tests forks y e 0 r → Way tests forks y e 0 p
  way_shared {y = y} {e = e} l (here s) w = subst (λ (j : ℕ). Way tests forks y e 0 j) s w
  way_shared {x} l (on k s b v) w =
      let (i, j) = node_in l s in
      let h = bit_le x (get_or tests k 0) in
      (way_up k (bit x (get_or tests k 0)) l s h (way_shared (link_of k (bit x (get_or tests k 0)) i j h) v w)).0

  -- the end of a way is an entry
  pub lands_in : {x c : ℕ} → Lands tests forks x c → c < n
  lands_in {x} {c} (p, (w, s), e) = go (t.goes p (spotted_in (w, s)))
    where
      go : Target n (get_or forks p 0) → c < n
      go (entry b) = omega arith
      go (node k b j m) = absurd (omega (arith, s k m, t.low k j))

  -- and there is one
  pub lands_once : {x c r i : ℕ} → Lands tests forks x c → Way tests forks x fact_limit 0 r → i < n → get_or forks r 0 ≡ i → c ≡ i
  lands_once {x} {c} {r} {i} (p, s, e) w b h = e ∙ ap (λ (j : ℕ). get_or forks j 0) (sym (spotted_once s (w, entry_stops r fact_limit b h))) ∙ h

  -- behind a node of test f there are fewer than 64 - f steps
  steps_under : {x d r : ℕ} (k b : ℕ) → 1 ≤ k → k < n → b ≤ 1 → {p : ℕ} → p ≡ 2 * k + b → (w : Way tests forks x d p r) → steps w + get_or tests k 0 < fact_limit
  unfolding steps
  steps_under k b i j h q (here e) = omega (arith, t.low k j)
  steps_under {x} k b i j h {p} q (on m e a w) =
      let l : Link n p = omega arith in
      let (u, v) = node_in l e in
      omega (arith, t.rises k b m i j h (ap (λ (c : ℕ). get_or forks c 0) (sym q) ∙ e), steps_under m (bit x (get_or tests m 0)) u v (bit_le x (get_or tests m 0)) refl w)

  -- every way from the root has at most 64 steps
  pub few_steps : {x d r : ℕ} (w : Way tests forks x d 0 r) → steps w ≤ fact_limit
  unfolding steps
  few_steps (here e) = omega arith
  few_steps {x} (on m e a w) = let (u, v) = node_in root e in omega (arith, steps_under m (bit x (get_or tests m 0)) u v (bit_le x (get_or tests m 0)) refl w)
