-- The tables are a game, its rule grows and asks only of the n positions, and what the table of counts has after r sweeps.
use mathlib.Core.Path.{◌≡◌, refl, ap, ◌∙◌}
use mathlib.Core.Bool.{Bool, true, false, ◌&&◌, ◌||◌, not, cond}
use mathlib.Core.List.{List}
use Prim.Native.Nat.{ℕ, ◌+◌, ◌≤◌, ◌<◌}
use native.Mathlib.Omega.{arith}
use lib.ListN.{get_or, length}
use borrow.Author.Tests.{eq-eqb, not-true}
use Rattle.facts.specs.Truth.{clash, unless_true, and_left, and_right, and_both}
use Rattle.atl.specs.Bounded.{tabulate}
use Rattle.atl.specs.Game.{Game, IsGame, States}
use Rattle.atl.specs.Marking.{unset, secures, force, swept}
use Rattle.atl.proofs.Bounded.{some_cong, every_cong}
use Rattle.atl.proofs.Play as play
use Rattle.atl.proofs.Spread as spread
use Rattle.marking.specs.Table.{in_tables, Tables}
use Rattle.marking.proofs.Position.{get_d_default}
use Rattle.marking.specs.Rule.{rule, Counts}

-- the tables are a game
pub is_game_lem : (n : ℕ) (starts successors classes : List ℕ) → Tables n starts successors classes → IsGame (in_tables n starts successors classes)
is_game_lem n starts successors classes s = record {
  movable = λ i h. let z = s.placed.up i h in omega arith;
  stays = λ i j h l. s.landed i h j l;
  agrees = λ i j h l. eq-eqb (get_or classes (get_or starts i 0 + j) 0) _ refl;
}

-- more is reached from more
module _ (G : Game) (law : IsGame G) (a : States) where
  pub rule_mono : (want : Bool) (v w : States) → spread.Holds G.states v w → spread.Holds G.states (rule G want a v) (rule G want a w)
  unfolding rule
  rule_mono true v w f i h e = and_both (and_left (a i) _ e) (play.force_mono G law v w f i h (and_right (a i) _ e))
  rule_mono false v w f i h e =
      and_both (and_left (a i) _ e)
      (ap not (unless_true _ (λ q. clash (play.force_mono G law (λ j. not (w j)) (λ j. not (v j)) back i h q) (not-true _ (and_right (a i) _ e)))))
    where
      back : spread.Holds G.states (λ j. not (w j)) (λ j. not (v j))
      back j l q = ap not (unless_true _ (λ m. clash (f j l m) (not-true _ q)))

-- what the rule says of a position depends only on where it leads
module _ (G : Game) where
  force_near : (v w : States) (i : ℕ) → ((j : ℕ) → j < G.moves i → v (G.to i j) ≡ w (G.to i j)) → force G v i ≡ force G w i
  unfolding force secures
  force_near v w i f = some_cong (G.moves i) _ _ (λ j l. every_cong (G.moves i) _ _ (λ k m. ap (λ (x : Bool). not (G.agree i j k) || x) (f k m)))

  rule_near : (want : Bool) (a v w : States) (i : ℕ) → ((j : ℕ) → j < G.moves i → v (G.to i j) ≡ w (G.to i j)) → rule G want a v i ≡ rule G want a w i
  unfolding rule
  rule_near true a v w i f = ap (λ (x : Bool). a i && x) (force_near v w i f)
  rule_near false a v w i f = ap (λ (x : Bool). a i && not x) (force_near (λ j. not (v j)) (λ j. not (w j)) i (λ j l. ap not (f j l)))

module _ {n : ℕ} {starts successors classes : List ℕ} (s : Tables n starts successors classes) (want : Bool) (a : States) where
  -- the rule asks only of the n positions
  pub rule_cong : (v w : States) → ((i : ℕ) → i < n → v i ≡ w i) → (i : ℕ) → i < n
      → rule (in_tables n starts successors classes) want a v i ≡ rule (in_tables n starts successors classes) want a w i
  rule_cong v w f i h = rule_near (in_tables n starts successors classes) want a v w i (λ j l. f _ ((is_game_lem n starts successors classes s).stays i j h l))

-- the table after r sweeps
module _ {n : ℕ} {starts successors classes : List ℕ} (s : Tables n starts successors classes) (small : n < unset) (want : Bool) (a b : States) where
  abbrev q : States → States
  q = rule (in_tables n starts successors classes) want a

  mono : (v w : States) → spread.Holds n v w → spread.Holds n (q v) (q w)
  mono = rule_mono (in_tables n starts successors classes) (is_game_lem n starts successors classes s) a want

  pub count_none : (m : List ℕ) → m ≡ tabulate n (λ i. cond (b i) 0 unset) → m ≡ swept n q b 0
  unfolding swept
  count_none m e = e

  module _ (r : ℕ) (m : List ℕ) (d : m ≡ swept n q b r) where
    pub count_length : length m ≡ n
    count_length = ap length d ∙ spread.length_swept n q mono b r

    pub count_counts : r ≤ n → Counts r m
    count_counts h i k o =
        let z = get_d_default m i 0 unset k in
        let y : get_or m i unset ≡ get_or (swept n q b r) i unset = ap (λ (x : List ℕ). get_or x i unset) d in
        z ∙ y ∙ spread.swept_counts n q mono b r i (omega arith) (omega (arith, count_length)) (omega arith)
