-- What the loops over the joint moves and the positions come to.
use mathlib.Core.Path.{◌≡◌, refl, sym, ap, ap₂, ◌∙◌}
use mathlib.Core.List.{List, [], ◌∷◌, ◌++◌}
use Prim.Native.Nat.{ℕ, zero, suc, ◌+◌, ◌-◌, ◌*◌, ◌≤◌, ◌<◌}
use native.Mathlib.Nat.{add-zero, zero-add, le_refl, not-suc-le-zero}
use native.Mathlib.Decide.{ℕ_discrete, dec_lt}
use native.Mathlib.Numerals.{add-one}
use native.Mathlib.Omega.{arith}
use lib.ListN.{get_or, set, length, length-set, take, drop, length-take, length-drop, length-append, replicate, length-replicate}
use lib.Seq.{get_or-set_same, get_or-set_other, ext_get_or}
use borrow.Rule.Slice.PartMut.{put_mid}
use Rattle.std.proofs.lemmas.List.{get_or-replicate, get_or-take, get_or-drop, get_or_append_left, get_or-append_right}
use Rattle.atl.specs.Bounded.{tabulate}
use Rattle.atl.proofs.Bounded.{length_tabulate, get_d_tabulate}
use Rattle.facts.specs.Bits.{has}
use Rattle.meaning.specs.Radix.{product}
use Rattle.radix.specs.Classes.{row, rep, class_of, moves_at, ranged, filled, classed, Starts, Counted}

-- one state's entries
module _ (f : ℕ → ℕ) (first : ℕ) (l : List ℕ) where
  pub ranged_none : l ≡ ranged f first l 0
  unfolding ranged
  ranged_none = refl

  pub ranged_more : (j x : ℕ) (m : List ℕ) → m ≡ ranged f first l j → x ≡ f j → set m (first + j) x ≡ ranged f first l (j + 1)
  unfolding ranged
  ranged_more j x m e d = rw (add-one, d) (ap (λ y. set y (first + j) (f j)) e)

  pub length_ranged : (j : ℕ) → length (ranged f first l j) ≡ length l
  unfolding ranged
  length_ranged zero = refl
  length_ranged (suc j) = length-set (ranged f first l j) (first + j) _ ∙ length_ranged j

  pub ranged_length : (j : ℕ) (m : List ℕ) → m ≡ ranged f first l j → length m ≡ length l
  ranged_length j m e = ap length e ∙ length_ranged j

  pub ranged_at : (k j : ℕ) → first + k ≤ length l → j < k → get_or (ranged f first l k) (first + j) 0 ≡ f j
  unfolding ranged
  ranged_at zero j h m = absurd (not-suc-le-zero m)
  ranged_at (suc k) j h m = go (ℕ_discrete j k) (ranged_at k j (omega arith))
    where
      go : Dec (j ≡ k) → (j < k → get_or (ranged f first l k) (first + j) 0 ≡ f j) → get_or (set (ranged f first l k) (first + k) (f k)) (first + j) 0 ≡ f j
      go (yes e) rec = rw e (get_or-set_same (ranged f first l k) (first + k) _ 0 (omega (arith, length_ranged k)))
      go (no e) rec = get_or-set_other (ranged f first l k) (first + k) (first + j) _ 0 (λ q. e (omega arith)) ∙ rec (omega arith)

  pub ranged_before : (k p : ℕ) → p < first → get_or (ranged f first l k) p 0 ≡ get_or l p 0
  unfolding ranged
  ranged_before zero p h = refl
  ranged_before (suc k) p h = get_or-set_other (ranged f first l k) (first + k) p _ 0 (omega arith) ∙ ranged_before k p h

  pub ranged_after : (k p d : ℕ) → first + k ≤ p → get_or (ranged f first l k) p d ≡ get_or l p d
  unfolding ranged
  ranged_after zero p d h = refl
  ranged_after (suc k) p d h = get_or-set_other (ranged f first l k) (first + k) p _ d (omega arith) ∙ ranged_after k p d (omega arith)

-- entries filled by the same numbers
pub ranged_cong : (f g : ℕ → ℕ) (first : ℕ) (l : List ℕ) (k : ℕ) → ((i : ℕ) → i < k → f i ≡ g i) → ranged f first l k ≡ ranged g first l k
unfolding ranged
ranged_cong f g first l zero e = refl
ranged_cong f g first l (suc k) e =
    ap₂ (λ (m : List ℕ) (x : ℕ). set m (first + k) x) (ranged_cong f g first l k (λ i h. e i (omega arith))) (e k (omega arith))

-- what was written to a part of a table, as entries filled
module _ (a k : ℕ) (l ys : List ℕ) (d : length ys ≡ k) (h : a + k ≤ length l) where
  rest : List ℕ
  rest = drop k (drop a l)

  put_length : length (put_mid a k l ys) ≡ length l
  put_length = grind (arith, length-append, length-take, length-drop)

  put_at : (i : ℕ) → Dec (i < a) → Dec (i < a + k) → get_or (put_mid a k l ys) i 0 ≡ get_or (ranged (λ j. get_or ys j 0) a l k) i 0
  unfolding rest
  put_at i (yes b) _ =
      get_or_append_left (take a l) (ys ++ rest) 0 i (omega (arith, length-take a l)) ∙ get_or-take a l i 0 b
      ∙ sym (ranged_before (λ j. get_or ys j 0) a l k i b)
  put_at i (no b) (yes e) =
      let z : a + (i - a) ≡ i = omega arith in
      get_or-append_right (take a l) (ys ++ rest) a i 0 (omega (arith, length-take a l)) (omega arith)
      ∙ get_or_append_left ys rest 0 (i - a) (omega arith)
      ∙ sym (rw z at (ranged_at (λ j. get_or ys j 0) a l k (i - a) h (omega arith)))
  put_at i (no b) (no e) =
      let z : a + (k + (i - a - k)) ≡ i = omega arith in
      get_or-append_right (take a l) (ys ++ rest) a i 0 (omega (arith, length-take a l)) (omega arith)
      ∙ get_or-append_right ys rest k (i - a) 0 d (omega arith)
      ∙ get_or-drop k (drop a l) (i - a - k) 0 ∙ get_or-drop a l (k + (i - a - k)) 0 ∙ ap (λ (x : ℕ). get_or l x 0) z
      ∙ sym (ranged_after (λ j. get_or ys j 0) a l k i 0 (omega arith))

  pub put_ranged : put_mid a k l ys ≡ ranged (λ j. get_or ys j 0) a l k
  put_ranged = ext_get_or 0 _ _ (put_length ∙ sym (length_ranged (λ j. get_or ys j 0) a l k)) (λ i o. put_at i (dec_lt i a) (dec_lt i (a + k)))

-- a table filled from the front
module _ (f : ℕ → ℕ) (l : List ℕ) where
  pub filled_none : l ≡ filled f l 0
  filled_none = ranged_none f 0 l

  pub filled_more : (k x : ℕ) (m : List ℕ) → m ≡ filled f l k → x ≡ f k → set m k x ≡ filled f l (k + 1)
  filled_more k x m e q = ap (λ (y : ℕ). set m y x) (sym (zero-add k)) ∙ ranged_more f 0 l k x m e q

  pub filled_length : (k : ℕ) (m : List ℕ) → m ≡ filled f l k → length m ≡ length l
  filled_length k m e = ranged_length f 0 l k m e

  pub filled_at : (k i : ℕ) → k ≤ length l → i < k → get_or (filled f l k) i 0 ≡ f i
  filled_at k i h g = ap (λ (y : ℕ). get_or (filled f l k) y 0) (sym (zero-add i)) ∙ ranged_at f 0 l k i (omega arith) g

  pub filled_left : (k i d : ℕ) → k ≤ i → get_or (filled f l k) i d ≡ get_or l i d
  filled_left k i d h = ranged_after f 0 l k i d (omega arith)

  -- a table filled to its end
  pub filled_all : (k n : ℕ) (m : List ℕ) → k ≤ n → n ≤ k → length l ≡ n → m ≡ filled f l k → m ≡ tabulate n f
  filled_all k n m h g d e =
      let z : k ≡ n = omega arith in
      e ∙ ap (filled f l) z
      ∙ ext_get_or 0 _ _ (length_ranged f 0 l n ∙ d ∙ sym (length_tabulate n _)) (λ i o.
      let p : i < n = rw (length_ranged f 0 l n, d) at o in
      filled_at n i (omega arith) p ∙ sym (get_d_tabulate n f 0 i p))

-- a part of a table filled
pub put_part : (f : ℕ → ℕ) (a k : ℕ) (l ys : List ℕ) → a + k ≤ length l → ys ≡ filled f (take k (drop a l)) k → put_mid a k l ys ≡ ranged f a l k
put_part f a k l ys h e =
    let size : length (take k (drop a l)) ≡ k = omega (arith, length-take k (drop a l), length-drop a l) in
    put_ranged a k l ys (filled_length f (take k (drop a l)) k ys e ∙ size) h
    ∙ ranged_cong (λ j. get_or ys j 0) f a l k (λ j g. ap (λ (x : List ℕ). get_or x j 0) e ∙ filled_at f (take k (drop a l)) k j (omega arith) g)

-- every entry of a list of one number is that number
pub replicated : (k v : ℕ) (l : List ℕ) → l ≡ replicate k v → (j : ℕ) → j < length l → get_or l j 0 ≡ v
replicated k v l e j h = ap (λ (x : List ℕ). get_or x j 0) e ∙ get_or-replicate k j v 0 (omega (arith, ap length e, length-replicate k v))

-- a table filled from the front, in parts
module _ (f : ℕ → ℕ) (l : List ℕ) (a : ℕ) where
  filled_further : (k : ℕ) → ranged (λ j. f (a + j)) a (filled f l a) k ≡ filled f l (a + k)
  unfolding ranged
  filled_further zero = rw (add-zero a) refl
  filled_further (suc k) =
      let z : a + suc k ≡ suc (a + k) = omega arith in
      rw z (ap₂ (λ (m : List ℕ) (x : ℕ). set m x (f (a + k))) (filled_further k) (sym (zero-add (a + k))))

  pub filled_part : (b : ℕ) (m ys : List ℕ) → m ≡ filled f l a → a ≤ b → b ≤ length l → length ys ≡ b - a
      → ((j : ℕ) → j < b - a → get_or ys j 0 ≡ f (a + j)) → put_mid a (b - a) m ys ≡ filled f l b
  filled_part b m ys e h g d y =
      let z : a + (b - a) ≡ b = omega arith in
      put_ranged a (b - a) m ys d (omega (arith, filled_length f l a m e))
      ∙ ranged_cong (λ j. get_or ys j 0) (λ j. f (a + j)) a m (b - a) y
      ∙ ap (λ (x : List ℕ). ranged (λ j. f (a + j)) a x (b - a)) e ∙ filled_further (b - a) ∙ ap (filled f l) z

-- the counts of a position, in a part of the table of counts
row_part : (counts : List ℕ) (i : ℕ) → row (take 4 (drop (4 * i) counts)) 0 ≡ row counts i
row_part counts i =
    ap₂ ◌∷◌ (at 0 (omega arith) ∙ ap (λ (x : ℕ). get_or counts x 0) (add-zero (4 * i)))
    (ap₂ ◌∷◌ (at 1 (omega arith)) (ap₂ ◌∷◌ (at 2 (omega arith)) (ap (λ (x : ℕ). x ∷ []) (at 3 (omega arith)))))
  where
    at : (k : ℕ) → k < 4 → get_or (take 4 (drop (4 * i) counts)) k 0 ≡ get_or counts (4 * i + k) 0
    at k h = get_or-take 4 (drop (4 * i) counts) k 0 h ∙ get_or-drop (4 * i) counts k 0

-- all positions
module _ (starts counts : List ℕ) (mask : ℕ) (l : List ℕ) where
  pub classed_none : l ≡ classed starts counts mask l 0
  unfolding classed
  classed_none = refl

  length_classed : (i : ℕ) → length (classed starts counts mask l i) ≡ length l
  unfolding classed
  length_classed zero = refl
  length_classed (suc i) = length_ranged (class_of counts mask i) (get_or starts i 0) (classed starts counts mask l i) _ ∙ length_classed i

  pub classed_length : (i : ℕ) (m : List ℕ) → m ≡ classed starts counts mask l i → length m ≡ length l
  classed_length i m e = ap length e ∙ length_classed i

  -- a position's part of the table, and its counts
  pub position_asks : (n : ℕ) → Starts n starts (length l) → Counted n starts counts → (i a b : ℕ) → i < n → a ≡ get_or starts i 0 → b ≡ get_or starts (i + 1) 0 → b < 65536
      → (m cs : List ℕ) → m ≡ classed starts counts mask l i → cs ≡ take 4 (drop (4 * i) counts)
      → (length cs ≡ 4) × (length (take (b - a) (drop a m)) ≡ product (row cs 0)) × (0 < length (take (b - a) (drop a m))) × (length (take (b - a) (drop a m)) ≤ 65535)
  position_asks n s t i a b h p q u m cs e d =
      let up = s.up i h in
      let inside = t.inside in
      let size : length (take (b - a) (drop a m)) ≡ b - a = omega (arith, length-take (b - a) (drop a m), length-drop a m, classed_length i m e, s.within i h) in
      let all : b - a ≡ product (row counts i) = rw (p, q) (t.full i h) in (
        omega (arith, ap length d, length-take 4 (drop (4 * i) counts), length-drop (4 * i) counts),
        size ∙ all ∙ ap product (sym (ap (λ (x : List ℕ). row x 0) d ∙ row_part counts i)),
        omega arith,
        omega arith,
      )

  pub classed_more : (i a b : ℕ) (m ys cs : List ℕ) → m ≡ classed starts counts mask l i → a ≡ get_or starts i 0 → b ≡ get_or starts (i + 1) 0
      → a < b → b ≤ length l → cs ≡ take 4 (drop (4 * i) counts)
      → ys ≡ filled (class_of cs mask 0) (take (b - a) (drop a m)) (length (take (b - a) (drop a m)))
      → put_mid a (b - a) m ys ≡ classed starts counts mask l (i + 1)
  unfolding classed class_of
  classed_more i a b m ys cs e p q h room t d = rw add-one (
      let size : length (take (b - a) (drop a m)) ≡ b - a = omega (arith, length-take (b - a) (drop a m), length-drop a m, classed_length i m e) in
      put_part (class_of counts mask i) a (b - a) m ys (omega (arith, classed_length i m e))
      (d ∙ ap (filled (class_of cs mask 0) (take (b - a) (drop a m))) size
      ∙ ap (λ (r : List ℕ). filled (rep r (has mask)) (take (b - a) (drop a m)) (b - a)) (ap (λ (x : List ℕ). row x 0) t ∙ row_part counts i))
      ∙ rw (p, q, e) refl
      )

  -- what the table holds
  module _ (n : ℕ) (s : Starts n starts (length l)) where
    later : (i m : ℕ) → i < m → m ≤ n → get_or starts (i + 1) 0 ≤ get_or starts m 0
    later i zero h g = absurd (not-suc-le-zero h)
    later i (suc m) h g = go (ℕ_discrete i m) (later i m)
      where
        go : Dec (i ≡ m) → (i < m → m ≤ n → get_or starts (i + 1) 0 ≤ get_or starts m 0) → get_or starts (i + 1) 0 ≤ get_or starts (suc m) 0
        go (yes e) rec = rw (e, add-one) (le_refl _)
        go (no e) rec =
            let a = rec (omega arith) (omega arith) in
            let b : get_or starts m 0 < get_or starts (suc m) 0 = rw add-one at (s.up m (omega arith)) in
            omega arith

    pub classed_at : (m : ℕ) → m ≤ n → (i : ℕ) → i < m → (j : ℕ) → j < moves_at starts i
        → get_or (classed starts counts mask l m) (get_or starts i 0 + j) 0 ≡ class_of counts mask i j
    unfolding classed
    classed_at zero g i h j k = absurd (not-suc-le-zero h)
    classed_at (suc m) g i h j k = go (ℕ_discrete i m) (classed_at m (omega arith) i)
      where
        old : List ℕ
        old = classed starts counts mask l m

        go : Dec (i ≡ m) → (i < m → (j : ℕ) → j < moves_at starts i → get_or (classed starts counts mask l m) (get_or starts i 0 + j) 0 ≡ class_of counts mask i j)
            → get_or (ranged (class_of counts mask m) (get_or starts m 0) old (moves_at starts m)) (get_or starts i 0 + j) 0 ≡ class_of counts mask i j
        go (yes e) rec =
            let room = s.within m (omega arith) in
            let up = s.up m (omega arith) in
            let k' : j < moves_at starts m = rw e at k in
            rw e (ranged_at (class_of counts mask m) (get_or starts m 0) old (moves_at starts m) j (omega (arith, length_classed m)) k')
        go (no e) rec =
            let a = later i m (omega arith) (omega arith) in
            ranged_before (class_of counts mask m) (get_or starts m 0) old _ (get_or starts i 0 + j) (omega arith) ∙ rec (omega arith) j k
