-- A number comes into the tree: the tables of one entry, and the stores that make the new node.
use Prim.Native.Nat.{ℕ, ◌+◌, ◌*◌, ◌≤◌, ◌<◌}
use mathlib.Core.Path.{◌≡◌, refl, sym, ap, ◌∙◌, subst}
use mathlib.Core.List.{List}
use native.Mathlib.Omega.{arith}
use lib.ListN.{length, get_or, set, replicate, length-set, length-replicate, get_or-replicate}
use lib.Seq.{get_or-set_same, get_or-set_other}
use Rattle.facts.specs.Bits.{bit}
use Rattle.tables.specs.Lengths.{state_limit}
use Rattle.lookup.specs.Tree.{link_limit, fact_limit, entry, Way, here, Lands, Spotted, Treed, Enrolled, FirstDifference}
use Rattle.lookup.proofs.Ways.{bit_le, node_in, spotted_in, lands_in}
use Rattle.lookup.proofs.Growing.{Grafted, grown}

-- a table that agrees on the first n entries has the same tree
pub treed_same : {table : List ℕ} (u : List ℕ) {n : ℕ} {tests forks : List ℕ} → Treed table n tests forks → n ≤ length u
    → ((i : ℕ) → i < n → get_or u i 0 ≡ get_or table i 0) → Treed u n tests forks
treed_same u {n} {tests} {forks} t b e = record {
  forked = t.forked;
  inside = b;
  ends = λ i h. rw (e i h) (t.ends i h);
  alike = λ i p r k f h m w s o a.
      ap (λ (z : ℕ). bit z f) (e i h)
      ∙ t.alike i p r k f h m (subst (λ (z : ℕ). Way tests forks z fact_limit p r) (e i h) w) s o a
      ∙ ap (λ (z : ℕ). bit z f) (sym (e k (node_in t.forked m o).1));
}

-- tables of zeros are the tree of one entry
zero_at : (size p : ℕ) → p < size → ◌≡◌ {A = ℕ} (get_or (replicate size 0) p 0) 0
zero_at size p b = get_or-replicate size p 0 0 b

pub treed_first : (table : List ℕ) → 1 ≤ length table → Treed table 1 (replicate state_limit 0) (replicate link_limit 0)
treed_first table b = record {
  forked = record {
    some = omega arith;
    room = omega arith;
    tests_long = length-replicate {A = ℕ} state_limit 0;
    forks_long = length-replicate {A = ℕ} link_limit 0;
    goes = λ p m. entry (omega (arith, zero_at link_limit p (omega arith)));
    single = λ p q m o e. omega arith;
    low = λ k h. omega (arith, zero_at state_limit k (omega arith));
    rises = λ k c j h o. absurd (omega arith);
  };
  inside = b;
  ends = λ i h. (0, here refl, zero_at link_limit 0 (omega arith) ∙ omega arith);
  alike = λ i p r k f h m w s o. absurd (omega (arith, zero_at link_limit p (omega arith)));
}

-- the stores that make node n
module _ (n d q s o : ℕ) (tests forks : List ℕ) (b : q < 2 * n) (i : s ≤ 1) (j : o ≤ 1) (differ : o ≡ s → ⊥) (fits : n < state_limit)
    (tests_long : length tests ≡ state_limit) (forks_long : length forks ≡ link_limit) where
  abbrev f₁ : List ℕ
  f₁ = set forks (2 * n + s) n

  abbrev f₂ : List ℕ
  f₂ = set f₁ (2 * n + o) (get_or forks q 0)

  long₁ : length (set forks (2 * n + s) n) ≡ link_limit
  long₁ = length-set forks (2 * n + s) n ∙ forks_long

  long₂ : length (set (set forks (2 * n + s) n) (2 * n + o) (get_or forks q 0)) ≡ link_limit
  long₂ = length-set f₁ (2 * n + o) (get_or forks q 0) ∙ long₁

  grafted : Grafted n d q s o tests forks (set tests n d) (set (set (set forks (2 * n + s) n) (2 * n + o) (get_or forks q 0)) q (state_limit + n))
  grafted = record {
    tests_long = length-set tests n d;
    forks_long = length-set f₂ q (state_limit + n) ∙ long₂ ∙ sym forks_long;
    test_new = get_or-set_same tests n d 0 (omega arith);
    test_kept = λ k h. get_or-set_other tests n k d 0 (λ e. omega arith);
    at_q = get_or-set_same f₂ q (state_limit + n) 0 (omega (arith, long₂));
    at_new =
        get_or-set_other f₂ q (2 * n + s) (state_limit + n) 0 (λ e. omega arith)
        ∙ get_or-set_other f₁ (2 * n + o) (2 * n + s) (get_or forks q 0) 0 (λ e. omega arith)
        ∙ get_or-set_same forks (2 * n + s) n 0 (omega arith);
    at_old =
        get_or-set_other f₂ q (2 * n + o) (state_limit + n) 0 (λ e. omega arith)
        ∙ get_or-set_same f₁ (2 * n + o) (get_or forks q 0) 0 (omega (arith, long₁));
    kept = λ p h e.
        get_or-set_other f₂ q p (state_limit + n) 0 e
        ∙ get_or-set_other f₁ (2 * n + o) p (get_or forks q 0) 0 (λ e. omega arith)
        ∙ get_or-set_other forks (2 * n + s) p n 0 (λ e. omega arith);
  }

-- with node n in the place of link q, x is entry n
pub enrolled : {table tests forks : List ℕ} {n x c d q : ℕ} → Treed table n tests forks → n < state_limit → Lands tests forks x c
    → FirstDifference (get_or table c 0) x d → Spotted tests forks x d q
    → (new old : ℕ) → new ≡ 2 * n + bit x d → old ≡ 2 * n + bit (get_or table c 0) d
    → Enrolled table n x (set tests n d) (set (set (set forks new n) old (get_or forks q 0)) q (state_limit + n))
enrolled {table} {tests} {forks} {n} {x} {c} {d} {q} t fits l f at new old new_is old_is u b e is =
    let same : get_or table c 0 ≡ get_or u c 0 = sym (e c (lands_in t.forked l)) in
    let differs = subst (λ (z : ℕ). FirstDifference z x d) same f in
    let q_in = spotted_in t.forked at in
    rw (new_is, old_is, same)
    (grown (treed_same u t (omega arith) e) l differs at
    (grafted n d q (bit x d) (bit (get_or u c 0) d) tests forks q_in.1 (bit_le x d) (bit_le (get_or u c 0) d) differs.differ fits t.forked.tests_long t.forked.forks_long) is fits b)
