-- The table of classes gives the game of the roles' choices, and what the marking does there.
use mathlib.Core.Path.{◌≡◌, refl, sym, ap, ap₂, ◌∙◌}
use mathlib.Core.Bool.{Bool, true, false, ◌&&◌, not, cond}
use mathlib.Core.List.{List, ◌++◌}
use Prim.Native.Nat.{ℕ, zero, suc, ◌+◌, ◌≤◌, ◌<◌}
use native.Mathlib.Omega.{arith}
use lib.Dec.{eqb, leb}
use lib.ListN.{get_or, length, take, drop}
use lib.Seq.{take_at}
use Rattle.facts.specs.Bits.{has}
use Rattle.atl.specs.Bounded.{tabulate}
use Rattle.atl.specs.Game.{Game, States, everything}
use Rattle.atl.specs.Marking.{unset, counted, force, marked, swept, onward, doomed, next, eventually, rounds, losses, plan}
use Rattle.atl.proofs.Bounded.{length_tabulate, get_d_tabulate}
use Rattle.atl.proofs.Play as play
use Rattle.atl.proofs.Same.{Same, force_same, swept_same}
use Rattle.meaning.specs.Radix.{product, alike}
use Rattle.radix.specs.Classes.{row, class_of, moves_at, classed, Starts, Counted}
use Rattle.radix.proofs.Laws.{alike_eqb, rep_lt}
use Rattle.radix.proofs.Filling.{classed_at, classed_length}
use Rattle.marking.specs.Table.{in_tables, side, Tables}
use Rattle.marking.specs.Rule.{bits, rule}
use Rattle.marking.proofs.Rounds.{is_game_lem}
use Rattle.marks.specs.Noted.{noted}
use Rattle.marks.specs.Model.{Model, in_counts}
use Rattle.marks.specs.Node.{timed, counts_in}
use Rattle.sheet.specs.declared.question.Future.{Future}
use Rattle.sheet.specs.declared.question.Future.TheVariants.{Next, Always, Eventually, Until}
use Rattle.marks.proofs.Noting.{noted_cong}

class_lt : (counts : List ℕ) (mask i j : ℕ) → j < product (row counts i) → class_of counts mask i j < product (row counts i)
unfolding class_of
class_lt counts mask i j h = rep_lt (row counts i) (has mask) j h

class_alike : (counts : List ℕ) (mask i j k : ℕ) → j < product (row counts i) → k < product (row counts i)
    → eqb (class_of counts mask i j) (class_of counts mask i k) ≡ alike (row counts i) (has mask) j k
unfolding class_of
class_alike counts mask i j k h l = sym (alike_eqb (row counts i) (has mask) j k h l)

rule_same : (G H : Game) (want : Bool) (a w : States) (i : ℕ) → ((v : States) → force G v i ≡ force H v i) → rule G want a w i ≡ rule H want a w i
unfolding rule
rule_same G H true a w i f = ap (λ (x : Bool). a i && x) (f w)
rule_same G H false a w i f = ap (λ (x : Bool). a i && not x) (f (λ j. not (w j)))

length_swept : (n : ℕ) (p : States → States) (b : States) (r : ℕ) → length (swept n p b r) ≡ n
unfolding swept
length_swept n p b zero = length_tabulate n _
length_swept n p b (suc r) = length_tabulate n _

-- a table that was lent in part comes back whole
pub back : (n : ℕ) (p : States → States) (b : States) (r : ℕ) (l rs : List ℕ) → rs ≡ swept n p b r → take n (rs ++ drop n l) ≡ rs
back n p b r l rs e = take_at rs (drop n l) n (ap length e ∙ length_swept n p b r)

module _ {states joints n : ℕ} {starts successors counts : List ℕ} (m : Model states joints n starts successors counts) (mask : ℕ) (l : List ℕ) (room : joints ≤ length l) where
  -- what is asked for the classes
  pub classes_asks : Starts n starts (length l) × Counted n starts counts
  classes_asks =
      (record { long = m.placed.long; up = m.placed.up; within = λ i h. let z = m.placed.within i h in omega (arith, m.fits) }, m.counted)

  module _ (classes : List ℕ) (e : classes ≡ classed starts counts mask l n) where
    at : (i : ℕ) → i < n → (j : ℕ) → j < moves_at starts i → get_or classes (get_or starts i 0 + j) 0 ≡ class_of counts mask i j
    at i h j g = ap (λ (x : List ℕ). get_or x (get_or starts i 0 + j) 0) e ∙ classed_at starts counts mask l n classes_asks.0 n (omega arith) i h j g

    -- what the marking asks of its tables
    pub tables : Tables n starts successors classes
    tables = record {
      placed = m.placed;
      classed = let z = classed_length starts counts mask l n classes e in omega (arith, m.fits);
      landed = m.landed;
      low = λ i h j g. rw (at i h j g, m.counted.full i h) (class_lt counts mask i j (rw (m.counted.full i h) at g));
    }

    pub same : Same (in_tables n starts successors classes) (in_counts n starts successors counts mask)
    same = record {
      states = refl;
      moves = λ i h. refl;
      to = λ i j h g. refl;
      agree = λ i j k h g o.
          ap₂ eqb (at i h j g) (at i h k o) ∙ class_alike counts mask i j k (rw (m.counted.full i h) at g) (rw (m.counted.full i h) at o);
    }

    pub same_counts : (want : Bool) (a b : States) (rs : List ℕ) → rs ≡ swept n (rule (in_tables n starts successors classes) want a) b n
        → rs ≡ swept n (rule (in_counts n starts successors counts mask) want a) b n
    same_counts want a b rs q =
        q ∙ swept_same n _ _ _ (λ w i h.
        rule_same (in_tables n starts successors classes) (in_counts n starts successors counts mask) want a w i (λ v. force_same _ _ same v i h)) n

    -- NEXT: the table has 0 at the positions of the set
    begun_counted : (b : States) (t : List ℕ) → t ≡ tabulate n (λ i. cond (b i) 0 unset) → (i : ℕ) → i < n → counted t 0 i ≡ b i
    begun_counted b t q i h =
        ap (λ (x : ℕ). leb x 0) (ap (λ (x : List ℕ). get_or x i unset) q ∙ get_d_tabulate n (λ i. cond (b i) 0 unset) unset i h) ∙ go (b i)
      where
        go : (x : Bool) → leb (cond x 0 unset) 0 ≡ x
        go true = refl
        go false = refl

    pub same_next : (b : States) (t : List ℕ) → t ≡ tabulate n (λ i. cond (b i) 0 unset) → (k : ℕ) (marks ms : List ℕ)
        → ms ≡ noted n k (force (in_tables n starts successors classes) (counted t 0)) marks → ms ≡ noted n k (force (in_counts n starts successors counts mask) b) marks
    same_next b t q k marks ms f =
        f ∙ noted_cong n k _ _ marks (λ i h.
        play.force_cong (in_tables n starts successors classes) (is_game_lem n starts successors classes tables) (counted t 0) b (begun_counted b t q) i h
        ∙ force_same _ _ same b i h)

-- The sets that are noted are those of the marking.
module _ (G : Game) (k : ℕ) (marks ms : List ℕ) where
  noted_marked : (p : States) (w : States) → ms ≡ noted G.states k p marks → ((i : ℕ) → i < G.states → w i ≡ p i) → ms ≡ noted G.states k w marks
  noted_marked p w e f = e ∙ noted_cong G.states k p w marks (λ i h. sym (f i h))

  pub noted_eventually : (a : ℕ) → ms ≡ noted G.states k (side true (counted (counts_in G true false marks a a) G.states)) marks
      → ms ≡ noted G.states k (marked (eventually G (bits marks a))) marks
  unfolding rule onward
  noted_eventually a e =
      noted_marked _ _ e (λ i h. get_d_tabulate G.states (counted (rounds G everything (bits marks a)) G.states) false i h)

  module _ (f : Future) where
    pub timed_next : (a : ℕ) → f ≡ Next a → ms ≡ noted G.states k (force G (bits marks a)) marks → ms ≡ noted G.states k (marked (timed G (bits marks) f)) marks
    unfolding timed next
    timed_next a q e = rw q (noted_marked _ _ e (λ i h. get_d_tabulate G.states (force G (bits marks a)) false i h))

    pub timed_always : (a : ℕ) → f ≡ Always a → ms ≡ noted G.states k (side false (counted (counts_in G false false marks a a) G.states)) marks
        → ms ≡ noted G.states k (marked (timed G (bits marks) f)) marks
    unfolding timed rule doomed
    timed_always a q e =
        rw q (noted_marked _ _ e (λ i h. get_d_tabulate G.states (λ i. not (counted (losses G (bits marks a)) G.states i)) false i h))

    pub timed_eventually : (a : ℕ) → f ≡ Eventually a → ms ≡ noted G.states k (side true (counted (counts_in G true false marks a a) G.states)) marks
        → ms ≡ noted G.states k (marked (timed G (bits marks) f)) marks
    unfolding timed
    timed_eventually a q e = rw q (noted_eventually a e)

    pub timed_until : (a b : ℕ) → f ≡ Until a b → ms ≡ noted G.states k (side true (counted (counts_in G true true marks a b) G.states)) marks
        → ms ≡ noted G.states k (marked (timed G (bits marks) f)) marks
    unfolding timed rule onward
    timed_until a b q e =
        rw q (noted_marked _ _ e (λ i h. get_d_tabulate G.states (counted (rounds G (bits marks a) (bits marks b)) G.states) false i h))

-- EVENTUALLY: the counts, and the choices by them
pub counts_eventually : (G : Game) (marks : List ℕ) (a : ℕ) → counts_in G true false marks a a ≡ rounds G everything (bits marks a)
unfolding rule onward
counts_eventually G marks a = refl

pub choices_eventually : (G : Game) (marks rs rs' cs : List ℕ) (a : ℕ) → rs' ≡ counts_in G true false marks a a ++ drop G.states rs → cs ≡ plan G (take G.states rs')
    → cs ≡ plan G (rounds G everything (bits marks a))
choices_eventually G marks rs rs' cs a e f =
    f ∙ ap (plan G)
    (ap (take G.states) e ∙ back G.states _ _ G.states rs (counts_in G true false marks a a) refl ∙ counts_eventually G marks a)
