-- The numbers of a table in a tree of tests. An entry of the table is written as its index, and node k as state_limit + k. Link 0 leads to the root; node k tests one fact
-- of a number, and goes on at link 2 k where the number does not have it, at link 2 k + 1 where it does. Node k was made when entry k came in, so there is no node 0.
use Rattle.std.specs.Prelude.{ℕ, ◌+◌, ◌*◌, ◌≤◌, ◌<◌, ◌≡◌, List, length, get_or}
use Rattle.facts.specs.Bits.{bit}
use Rattle.tables.specs.Lengths.{state_limit}

-- How many places for links there are.
abbrev pub link_limit : ℕ
link_limit = 2048

-- How many facts can be tested.
abbrev pub fact_limit : ℕ
fact_limit = 64

-- The links of a tree of n entries: the root's, and two of each node.
abbrev pub Link : ℕ → ℕ → Type 0
Link n p = (p ≡ 1 → ⊥) × (p < 2 * n)

-- Where a link of such a tree leads: to an entry, or to a node.
pub data Target (n c : ℕ) : Type 0 where
  entry : c < n → Target n c
  node : (k : ℕ) → 1 ≤ k → k < n → c ≡ state_limit + k → Target n c

-- The way of x from link p to link r, over nodes that test a fact below d.
pub data Way (tests forks : List ℕ) (x d : ℕ) : ℕ → ℕ → Type 0 where
  here : {p r : ℕ} → r ≡ p → Way tests forks x d p r
  on : {p r : ℕ} (k : ℕ) → get_or forks p 0 ≡ state_limit + k → get_or tests k 0 < d → Way tests forks x d (2 * k + bit x (get_or tests k 0)) r → Way tests forks x d p r

-- Link p does not lead to a node that tests a fact below d.
abbrev pub Stop : (tests forks : List ℕ) → ℕ → ℕ → Type 0
Stop tests forks d p = (k : ℕ) → get_or forks p 0 ≡ state_limit + k → d ≤ get_or tests k 0

-- The first such link on the way of x is p.
abbrev pub Spotted : (tests forks : List ℕ) → (x d p : ℕ) → Type 0
Spotted tests forks x d p = Way tests forks x d 0 p × Stop tests forks d p

-- The way of x ends at a link to c.
abbrev pub Lands : (tests forks : List ℕ) → (x c : ℕ) → Type 0
Lands tests forks x c = (p : ℕ) × Spotted tests forks x fact_limit p × (c ≡ get_or forks p 0)

-- The links make a tree of n entries: each leads somewhere, no two to the same, and a node's links lead to entries and to nodes that test a higher fact.
pub record Forked (n : ℕ) (tests forks : List ℕ) : Type 0 where
  pub some : 1 ≤ n
  pub room : n ≤ state_limit
  pub tests_long : length tests ≡ state_limit
  pub forks_long : length forks ≡ link_limit
  pub goes : (p : ℕ) → Link n p → Target n (get_or forks p 0)
  pub single : (p q : ℕ) → Link n p → Link n q → get_or forks p 0 ≡ get_or forks q 0 → p ≡ q
  pub low : (k : ℕ) → k < n → get_or tests k 0 < fact_limit
  pub rises : (k b j : ℕ) → 1 ≤ k → k < n → b ≤ 1 → get_or forks (2 * k + b) 0 ≡ state_limit + j → get_or tests k 0 < get_or tests j 0

-- The first n entries of the table are the entries of the tree: the way of each ends at it, and where it passes node k, it agrees with entry k on all facts below the one tested.
pub record Treed (table : List ℕ) (n : ℕ) (tests forks : List ℕ) : Type 0 where
  pub forked : Forked n tests forks
  pub inside : n ≤ length table
  pub ends : (i : ℕ) → i < n → (r : ℕ) × Way tests forks (get_or table i 0) fact_limit 0 r × (get_or forks r 0 ≡ i)
  pub alike : (i p r k f : ℕ) → i < n → Link n p → Way tests forks (get_or table i 0) fact_limit p r → get_or forks r 0 ≡ i → get_or forks p 0 ≡ state_limit + k
      → f < get_or tests k 0 → bit (get_or table i 0) f ≡ bit (get_or table k 0) f

-- Every table that has the first n entries of this one, and x behind them, has its first n + 1 entries in the tree.
abbrev pub Enrolled : List ℕ → (n x : ℕ) → (tests forks : List ℕ) → Type 0
Enrolled table n x tests forks =
    (u : List ℕ) → n < length u → ((i : ℕ) → i < n → get_or u i 0 ≡ get_or table i 0) → get_or u n 0 ≡ x → Treed u (n + 1) tests forks

-- d is the lowest fact in which a and b differ.
pub record FirstDifference (a b d : ℕ) : Type 0 where
  pub within : d < fact_limit
  pub differ : bit a d ≡ bit b d → ⊥
  pub same : (f : ℕ) → f < d → bit a f ≡ bit b f
