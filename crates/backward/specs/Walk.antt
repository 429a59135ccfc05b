-- The walk backwards, as it computes: each joint move that leads to a position with a count is visited once. It is taken off its class; where that
-- finishes the class, the class is taken off its position; and where that finishes the position, the position takes a count.
use Rattle.std.specs.Prelude.{◌≡◌, Bool, true, false, ◌&&◌, cond, List, ℕ, zero, suc, ◌+◌, ◌-◌, ◌≤◌, ◌<◌, eqb, ltb, length, set}
use Rattle.atl.specs.Game.{States}
use Rattle.atl.specs.Marking.{unset}
use Rattle.incoming.specs.Index.{many, at}
use Rattle.radix.specs.Classes.{moves_at}

-- The class of the joint move at a place, among those of all positions: its number stands among the places of its position.
abbrev pub kind : List ℕ → List ℕ → List ℕ → ℕ → ℕ
kind starts classes owners p = at starts (at owners p) + at classes p

-- What is left of a counter after one more: one less; or, where one is enough, nothing.
abbrev pub lowered : Bool → ℕ → ℕ
lowered true x = x - 1
lowered false x = 0

-- the counter is finished by that
abbrev pub finishes : Bool → ℕ → Bool
finishes all x = ltb 0 x && eqb (lowered all x) 0

-- What the walk has at a moment: of each class the joint moves that it waits for, of each position the classes that it waits for, the counts, and
-- the positions that have a count in the order in which they took it, `more` of them.
pub record Walk : Type 0 where
  pub left : List ℕ
  pub need : List ℕ
  pub rounds : List ℕ
  pub queue : List ℕ
  pub more : ℕ

abbrev pub walk : List ℕ → List ℕ → List ℕ → List ℕ → ℕ → Walk
walk left need rounds queue more = record { left = left; need = need; rounds = rounds; queue = queue; more = more }

-- Position i takes count r + 1, where it has none and is one of a.
unfoldable pub enter : States → ℕ → ℕ → Walk → Walk
enter a r i w =
    cond (eqb (at w.rounds i) unset && a i)
    (walk w.left w.need (set w.rounds i (r + 1)) (set w.queue w.more i) (w.more + 1))
    w

-- A class of position i is finished.
unfoldable pub settle : States → ℕ → ℕ → Walk → Walk
settle a r i w =
    let v = walk w.left (set w.need i (lowered true (at w.need i))) w.rounds w.queue w.more in
    cond (finishes true (at w.need i)) (enter a r i v) v

-- `own` has the position of each joint move, `cls` its class. A class is finished by all its joint moves where `want`, and else by one of them.
module _ (own cls : ℕ → ℕ) (want : Bool) (a : States) where
  -- The joint move at place p leads to a position of count r.
  unfoldable pub visit : ℕ → ℕ → Walk → Walk
  visit r p w =
      let v = walk (set w.left (cls p) (lowered want (at w.left (cls p)))) w.need w.rounds w.queue w.more in
      cond (finishes want (at w.left (cls p))) (settle a r (own p) v) v

  -- `froms` and `index` are the index: the first k joint moves of those from slot `first` on
  unfoldable pub visits : List ℕ → ℕ → ℕ → ℕ → Walk → Walk
  visits index r first zero w = w
  visits index r first (suc k) w = visit r (at index (first + k)) (visits index r first k w)

  -- all joint moves that lead to position t
  unfoldable pub arrive : List ℕ → List ℕ → ℕ → ℕ → Walk → Walk
  arrive froms index r t w = visits index r (at froms t) (at froms (t + 1) - at froms t) w

  -- all that lead to the first k positions of the queue from lo on
  unfoldable pub passes : List ℕ → List ℕ → ℕ → ℕ → ℕ → Walk → Walk
  passes froms index r lo zero w = w
  passes froms index r lo (suc k) w = let v = passes froms index r lo k w in arrive froms index r (at v.queue (lo + k)) v

-- The tables have room, and the queue has one entry for each position with a count.
pub record Sized (n total : ℕ) (w : Walk) : Type 0 where
  pub lefts : total ≤ length w.left
  pub needs : n ≤ length w.need
  pub long : length w.rounds ≡ n
  pub room : n ≤ length w.queue
  pub few : w.more ≡ many n (λ i. ltb (at w.rounds i) unset)
  pub listed : (k : ℕ) → k < w.more → at w.queue k < n

-- The counters before the walk: of each class how many joint moves it has; of each position 1, or else how many classes it has.
pub record Opens (n : ℕ) (starts classes owners : List ℕ) (want : Bool) (left need : List ℕ) : Type 0 where
  pub lefts : (c : ℕ) → c < at starts n → at left c ≡ many (at starts n) (λ p. eqb (kind starts classes owners p) c)
  pub needs : (i : ℕ) → i < n → at need i ≡ cond want 1 (many (moves_at starts i) (λ k. ltb 0 (at left (at starts i + k))))

-- The queue has the positions of count 0 among the first i, in number order, and `more` is how many they are.
pub record Lined (i more : ℕ) (rounds queue : List ℕ) : Type 0 where
  pub few : more ≡ many i (λ j. eqb (at rounds j) 0)
  pub listed : (k : ℕ) → k < more → at queue k < i
  pub zeros : (k : ℕ) → k < more → at rounds (at queue k) ≡ 0
  pub once : (j k : ℕ) → j < k → k < more → at queue j < at queue k
  pub found : (j : ℕ) → j < i → at rounds j ≡ 0 → (k : ℕ) × (k < more) × (at queue k ≡ j)
