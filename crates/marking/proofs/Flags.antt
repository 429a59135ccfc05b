-- One flag a class tells which choices secure a set.
use mathlib.Core.Path.{◌≡◌, refl, sym, ap, ◌∙◌}
use mathlib.Core.Bool.{Bool, true, false, cond, ◌&&◌, ◌||◌, not, and-true, and-false, or-true, and_assoc}
use mathlib.Core.List.{List, [], ◌∷◌, ◌++◌}
use Prim.Native.Nat.{ℕ, zero, suc, ◌+◌, ◌≤◌, ◌<◌}
use native.Mathlib.Nat.{le_refl}
use native.Mathlib.Decide.{ℕ_discrete}
use native.Mathlib.Omega.{arith}
use lib.Dec.{eqb}
use lib.ListN.{get_or, set, length, length-set, drop, replicate}
use lib.Seq.{get_or-set_same, get_or-set_other}
use borrow.Author.Tests.{eq-eqb, ne_eqb, lt-ltb, le-ltb}
use Rattle.atl.specs.Bounded.{some<, every<, lowest}
use Rattle.atl.specs.Game.{Game, States}
use Rattle.atl.specs.Marking.{secures}
use Rattle.atl.proofs.Bounded.{lowest_cong, lowest_lt, lowest_none, some_fails, every_next}
use Rattle.radix.specs.Classes.{moves_at}
use Rattle.radix.proofs.Filling.{filled_at, filled_length, put_ranged, ranged_cong, replicated}
use Rattle.marking.specs.Table.{in_tables, Tables}
use Rattle.marking.specs.Flags.{cleared, strike, strikes, clean, first_of, found_of}
use Rattle.std.specs.Prelude.{Some, None, position}
use Rattle.std.specs.List.{position_or_len}

pub cleared_zero : (l : List ℕ) (k x : ℕ) → k ≤ length l → x < k → get_or (cleared l k) x 0 ≡ 0
cleared_zero l k x h m = filled_at (λ x. 0) l k x h m

-- the flags of a part cleared
pub clear_part : (k n : ℕ) (l ys : List ℕ) → k ≤ length l → length ys ≡ k → ys ≡ replicate n 0 → ys ++ drop k l ≡ cleared l k
clear_part k n l ys h d e =
    put_ranged 0 k l ys d (omega arith) ∙ ranged_cong (λ j. get_or ys j 0) (λ x. 0) 0 l k (λ j g. replicated n 0 ys e j (omega arith))

module _ (successors classes : List ℕ) (w : States) (first : ℕ) where
  pub length_strikes : (l : List ℕ) (k : ℕ) → length (strikes successors classes w first l k) ≡ length l
  unfolding strikes
  length_strikes l zero = refl
  length_strikes l (suc k) = go (w (get_or successors (first + k) 0)) (length_strikes l k)
    where
      go : (x : Bool) → length (strikes successors classes w first l k) ≡ length l → length (strike x (strikes successors classes w first l k) (get_or classes (first + k) 0)) ≡ length l
      go true e = e
      go false e = length-set (strikes successors classes w first l k) (get_or classes (first + k) 0) 1 ∙ e

  -- no joint move of class x among the first k leads out of the set
  spared : ℕ → ℕ → Bool
  spared k x = every< k (λ j. not (eqb x (get_or classes (first + j) 0)) || w (get_or successors (first + j) 0))

  strikes_spared : (l : List ℕ) (k x : ℕ) → x < length l → eqb (get_or (strikes successors classes w first l k) x 0) 0 ≡ (eqb (get_or l x 0) 0 && spared k x)
  unfolding strikes spared
  strikes_spared l zero x h = sym (and-true (eqb (get_or l x 0) 0))
  strikes_spared l (suc k) x h =
      go (w (get_or successors (first + k) 0)) (ℕ_discrete x (get_or classes (first + k) 0))
      ∙ ap (λ z. z && (not (eqb x (get_or classes (first + k) 0)) || w (get_or successors (first + k) 0))) (strikes_spared l k x h)
      ∙ and_assoc (eqb (get_or l x 0) 0) _ _
      ∙ ap (λ z. eqb (get_or l x 0) 0 && z) (sym (every_next k _))
    where
      m : List ℕ
      m = strikes successors classes w first l k

      c : ℕ
      c = get_or classes (first + k) 0

      go : (b : Bool) → Dec (x ≡ c) → eqb (get_or (strike b m c) x 0) 0 ≡ (eqb (get_or m x 0) 0 && (not (eqb x c) || b))
      go true d = sym (ap (λ z. eqb (get_or m x 0) 0 && z) (or-true (not (eqb x c))) ∙ and-true (eqb (get_or m x 0) 0))
      go false (yes e) =
          let n : x < length m = rw (length_strikes l k) h in
          ap (λ z. eqb z 0) (ap (λ y. get_or (set m y 1) x 0) (sym e) ∙ get_or-set_same m x 1 0 n)
          ∙ sym (ap (λ z. eqb (get_or m x 0) 0 && (not z || false)) (eq-eqb x c e) ∙ and-false (eqb (get_or m x 0) 0))
      go false (no e) =
          ap (λ z. eqb z 0) (get_or-set_other m c x 1 0 e)
          ∙ sym (ap (λ z. eqb (get_or m x 0) 0 && (not z || false)) (ne_eqb x c e) ∙ and-true (eqb (get_or m x 0) 0))

-- the place of the first that passes
position_lowest : (p : ℕ → Bool) (xs : List ℕ) → position_or_len p xs ≡ lowest (length xs) (λ j. p (get_or xs j 0))
position_lowest p [] = refl
position_lowest p (x ∷ xs) = go (p x) (position_lowest p xs)
  where
    go : (b : Bool) → position_or_len p xs ≡ lowest (length xs) (λ j. p (get_or xs j 0))
        → cond (not b) (1 + position_or_len p xs) 0 ≡ cond b 0 (suc (lowest (length xs) (λ j. p (get_or xs j 0))))
    go true e = refl
    go false e = omega arith

position_first : (p : ℕ → Bool) (xs : List ℕ) → position p xs ≡ first_of (length xs) (λ j. p (get_or xs j 0))
unfolding first_of
position_first p xs = ap (found_of (length xs)) (position_lowest p xs)

-- The flags of a state: cleared, and then struck by each of its joint moves.
module _ (n : ℕ) (starts successors classes : List ℕ) (s : Tables n starts successors classes) (w : States) (i : ℕ) (h : i < n) where
  abbrev G : Game
  G = in_tables n starts successors classes

  module _ (l : List ℕ) (first count : ℕ) (a : first ≡ get_or starts i 0) (b : count ≡ moves_at starts i) (room : count ≤ length l) where
    abbrev flags : List ℕ
    flags = strikes successors classes w first (cleared l count) count

    pub clean_secures : (j : ℕ) → j < count → clean classes flags first j ≡ secures G w i j
    unfolding secures spared
    clean_secures j m =
        let o : get_or classes (first + j) 0 < count = rw (a, b) (s.low i h j (omega arith)) in
        let z : get_or (cleared l count) (get_or classes (first + j) 0) 0 ≡ 0 = cleared_zero l count _ room o in
        strikes_spared successors classes w first (cleared l count) count (get_or classes (first + j) 0) (omega (arith, filled_length (λ x. 0) l count (cleared l count) refl))
        ∙ ap (λ y. eqb y 0 && spared successors classes w first count (get_or classes (first + j) 0)) z
        ∙ rw (a, b)

    pub first_clean_lem : first_of count (clean classes flags first) ≡ first_of (G.moves i) (secures G w i)
    unfolding first_of
    first_clean_lem = ap (found_of count) (lowest_cong count _ _ clean_secures) ∙ rw b

    -- the first of a list of those classes that is not struck out is that of the lowest choice
    pub clean_position : (xs : List ℕ) → length xs ≡ count → ((j : ℕ) → j < count → get_or xs j 0 ≡ get_or classes (first + j) 0)
        → position (λ c. eqb (get_or flags c 0) 0) xs ≡ first_of (G.moves i) (secures G w i)
    unfolding first_of
    clean_position xs d e =
        position_first (λ c. eqb (get_or flags c 0) 0) xs
        ∙ ap (λ k. found_of k (lowest k (λ j. eqb (get_or flags (get_or xs j 0) 0) 0))) d
        ∙ ap (found_of count) (lowest_cong count _ _ (λ j m. ap (λ c. eqb (get_or flags c 0) 0) (e j m)))
        ∙ first_clean_lem

-- whether something was found
pub first_found : (n : ℕ) (p : ℕ → Bool) (j : ℕ) → first_of n p ≡ Some j → (some< n p ≡ true) × (lowest n p ≡ j)
unfolding first_of
first_found n p j e = go (some< n p) refl
  where
    go : (x : Bool) → some< n p ≡ x → (some< n p ≡ true) × (lowest n p ≡ j)
    go true q =
        let f : found_of n (lowest n p) ≡ Some (lowest n p) = rw (lt-ltb (lowest n p) n (lowest_lt n p q)) in
        (q, cc)
    go false q =
        let f : found_of n (lowest n p) ≡ None = rw (lowest_none n p (some_fails n p q), le-ltb n n (le_refl n)) in
        let z : ◌≡◌ {A = ℕ} 0 1 = cc in
        absurd (omega arith)

pub first_none : (n : ℕ) (p : ℕ → Bool) → first_of n p ≡ None → some< n p ≡ false
unfolding first_of
first_none n p e = go (some< n p) refl
  where
    go : (x : Bool) → some< n p ≡ x → some< n p ≡ false
    go true q =
        let f : found_of n (lowest n p) ≡ Some (lowest n p) = rw (lt-ltb (lowest n p) n (lowest_lt n p q)) in
        let z : ◌≡◌ {A = ℕ} 0 1 = cc in
        absurd (omega arith)
    go false q = q
