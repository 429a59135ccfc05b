-- The loop over a way: where it stands, and that it ends.
use Prim.Native.Nat.{ℕ, ◌+◌, ◌-◌, ◌*◌, ◌≤◌, ◌<◌}
use mathlib.Core.Path.{◌≡◌, refl, sym, ap, ◌∙◌, subst}
use mathlib.Core.Bool.{Bool, cond}
use mathlib.Core.List.{List}
use native.Mathlib.Omega.{arith}
use lib.Dec.{ltb}
use lib.ListN.{get_or}
use borrow.Author.Tests.{lt-ltb, le-ltb}
use Rattle.facts.specs.Bits.{bit}
use Rattle.tables.specs.Lengths.{state_limit}
use Rattle.lookup.specs.Tree.{fact_limit, Link, Target, entry, node, Way, here, Spotted, Forked}
use Rattle.lookup.proofs.Ways.{bit_le, root, link_of, node_in, way_link, way_next}

-- the way of x from the root has come to link p, which leads to c
pub record Walked (tests forks : List ℕ) (x d p c : ℕ) : Type 0 where
  pub way : Way tests forks x d 0 p
  pub leads : c ≡ get_or forks p 0

-- how many facts a node can still leave to be tested; an entry none
pub left : List ℕ → ℕ → ℕ
left tests c = cond (ltb c state_limit) 0 (fact_limit - get_or tests (c - state_limit) 0)

pub walk_start : (tests forks : List ℕ) (x d c : ℕ) → c ≡ get_or forks 0 0 → Walked tests forks x d 0 c
walk_start tests forks x d c e = record { way = here refl; leads = e }

module _ {n : ℕ} {tests forks : List ℕ} (t : Forked n tests forks) {x d p c : ℕ} (w : Walked tests forks x d p c) where
  at_link : Link n p
  at_link = way_link t (root t) w.way

  -- the way stops at an entry
  pub walk_over : c < state_limit → Spotted tests forks x d p
  walk_over b = (w.way, λ k e. absurd (omega (arith, w.leads)))

  module _ (b : state_limit ≤ c) where
    at_node : get_or forks p 0 ≡ state_limit + (c - state_limit)
    at_node = omega (arith, w.leads)

    pub node_below : (1 ≤ c - state_limit) × (c - state_limit < n)
    node_below = node_in t at_link at_node

    -- or at a node with a higher test
    pub walk_high : d ≤ get_or tests (c - state_limit) 0 → Spotted tests forks x d p
    walk_high h = (w.way, λ k e. let same : c - state_limit ≡ k = omega (arith, at_node) in subst (λ (j : ℕ). d ≤ get_or tests j 0) same h)

    module _ (h : get_or tests (c - state_limit) 0 < d) (p' c' : ℕ) (p_is : p' ≡ 2 * (c - state_limit) + bit x (get_or tests (c - state_limit) 0)) where
      pub walk_next : c' ≡ get_or forks p' 0 → Walked tests forks x d p' c'
      walk_next e = record { way = subst (λ (r : ℕ). Way tests forks x d 0 r) (sym p_is) (way_next (c - state_limit) w.way at_node h); leads = e }

      left_node : (c : ℕ) → state_limit ≤ c → left tests c ≡ fact_limit - get_or tests (c - state_limit) 0
      unfolding left
      left_node c a = ap (λ (r : Bool). cond r 0 (fact_limit - get_or tests (c - state_limit) 0)) (le-ltb c state_limit a)

      left_entry : (c : ℕ) → c < state_limit → left tests c ≡ 0
      unfolding left
      left_entry c a = ap (λ (r : Bool). cond r 0 (fact_limit - get_or tests (c - state_limit) 0)) (lt-ltb c state_limit a)

      pub walk_less : c' ≡ get_or forks p' 0 → left tests c' < left tests c
      walk_less e =
          let (i, j) = node_below in
          go i j (t.goes p' (subst (λ (r : ℕ). Link n r) (sym p_is) (link_of t (c - state_limit) (bit x (get_or tests (c - state_limit) 0)) i j (bit_le x (get_or tests (c - state_limit) 0)))))
        where
          go : 1 ≤ c - state_limit → c - state_limit < n → Target n (get_or forks p' 0) → left tests c' < left tests c
          go i j (entry m) = omega (arith, t.room, left_node c b, left_entry c' (omega (arith, t.room)), t.low (c - state_limit) j)
          go i j (node k u v m) =
              let a : state_limit ≤ c' = omega arith in
              let same : k ≡ c' - state_limit = omega arith in
              let test = ap (λ (r : ℕ). get_or tests r 0) same in
              let higher = t.rises (c - state_limit) (bit x (get_or tests (c - state_limit) 0)) k i j (bit_le x (get_or tests (c - state_limit) 0)) (ap (λ (r : ℕ). get_or forks r 0) (sym p_is) ∙ m) in
              omega (arith, left_node c b, left_node c' a, t.low k v, t.low (c - state_limit) j)
