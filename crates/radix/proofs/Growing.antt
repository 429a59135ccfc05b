-- How the classes of a position grow, role by role.
use mathlib.Core.Path.{◌≡◌, refl, sym, ap, ap₂, ◌∙◌, subst}
use mathlib.Core.Bool.{Bool, true, false, cond}
use mathlib.Core.List.{List, [], ◌∷◌, ◌++◌}
use Prim.Native.Nat.{ℕ, zero, suc, ◌+◌, ◌-◌, ◌*◌, ◌/◌, ◌%◌, ◌≤◌, ◌<◌}
use native.Mathlib.Nat.{zero-add, mul-zero, zero-mul, one-mul, mul_comm, add-mul, mod-lt, mod-eq_of_lt, div-eq_of_lt, mod-eq-sub-mod, div-eq-sub-div, mul-le-mul, le_refl}
use native.Mathlib.Decide.{dec_lt}
use native.Mathlib.Omega.{arith}
use lib.ListN.{get_or, set, length, take, drop, length-take}
use Rattle.std.proofs.lemmas.List.{get_or-take}
use lib.Seq.{set-get_or, ext_get_or, drop-cons}
use Rattle.facts.specs.Bits.{has}
use Rattle.meaning.specs.Radix.{product}
use Rattle.radix.specs.Classes.{rep, row, ranged, filled, repeated, Repeats}
use Rattle.radix.proofs.Laws.{rep_le, pos}
use Rattle.radix.proofs.Filling.{length_ranged, ranged_cong, ranged_at, ranged_before, ranged_after, filled_at, filled_length, put_part}

-- the loop that repeats the first w entries
module _ (w add : ℕ) (l : List ℕ) where
  -- the first entries are as they stand
  repeated_first : (j : ℕ) → j < w → repeated l w add j ≡ get_or l j 0
  unfolding repeated
  repeated_first j h = rw (mod-eq_of_lt h, div-eq_of_lt h, zero-mul) (omega arith)

  -- and any other is the one w before it and `add` more
  repeated_next : (e : ℕ) → 0 < w → w ≤ e → repeated l w add (e - w) + add ≡ repeated l w add e
  unfolding repeated
  repeated_next e p h = rw (mod-eq-sub-mod h, div-eq-sub-div p h, add-mul, one-mul) (omega arith)

  -- so filling in the first ones changes nothing
  untouched : (k : ℕ) → k ≤ w → l ≡ filled (repeated l w add) l k
  unfolding ranged
  untouched zero h = refl
  untouched (suc k) h =
      sym (set-get_or l k 0)
      ∙ ap₂ (λ (m : List ℕ) (x : ℕ). set m k x) (untouched k (omega arith)) (sym (repeated_first k (omega arith)))
      ∙ ap (λ (p : ℕ). set (filled (repeated l w add) l k) p (repeated l w add k)) (sym (zero-add k))

  -- with which the loop begins
  pub grow_start : l ≡ filled (repeated l w add) l w
  grow_start = untouched w (le_refl w)

  -- what a turn reads, and `add` more
  pub grow_turn : (e : ℕ) (m : List ℕ) → 0 < w → w ≤ e → e < length l → m ≡ filled (repeated l w add) l e
      → get_or m (e - w) 0 + add ≡ repeated l w add e
  grow_turn e m p h k q = rw (q, filled_at (repeated l w add) l e (e - w) (omega arith) (omega arith)) (repeated_next e p h)

-- entries filled anew
ranged_again : (f g : ℕ → ℕ) (first : ℕ) (l : List ℕ) (k n : ℕ) → k ≤ n → first + n ≤ length l → ranged g first (ranged f first l k) n ≡ ranged g first l n
ranged_again f g first l k n h room =
    ext_get_or 0 _ _ (length_ranged g first (ranged f first l k) n ∙ length_ranged f first l k ∙ sym (length_ranged g first l n))
    (λ p o. go p (dec_lt p first) (dec_lt p (first + n)))
  where
    at : (p : ℕ) (m : List ℕ) → length m ≡ length l → first ≤ p → p < first + n → get_or (ranged g first m n) p 0 ≡ g (p - first)
    at p m e a b =
        let z : first + (p - first) ≡ p = omega arith in
        rw z at (ranged_at g first m n (p - first) (omega arith) (omega arith))

    go : (p : ℕ) → Dec (p < first) → Dec (p < first + n) → get_or (ranged g first (ranged f first l k) n) p 0 ≡ get_or (ranged g first l n) p 0
    go p (yes a) b = ranged_before g first (ranged f first l k) n p a ∙ ranged_before f first l k p a ∙ sym (ranged_before g first l n p a)
    go p (no a) (yes b) = at p (ranged f first l k) (length_ranged f first l k) (omega arith) b ∙ sym (at p l refl (omega arith) b)
    go p (no a) (no b) =
        ranged_after g first (ranged f first l k) n p 0 (omega arith) ∙ ranged_after f first l k p 0 (omega arith)
        ∙ sym (ranged_after g first l n p 0 (omega arith))

-- What growing m by a role asks of its first `end` entries, and what it gives: as many filled by f, from table l on.
abbrev pub Step : List ℕ → List ℕ → ℕ → ℕ → ℕ → (ℕ → ℕ) → Type 0
Step l m w end add f =
    Repeats (take end m) w add × ((ys : List ℕ) → ys ≡ filled (repeated (take end m) w add) (take end m) (length (take end m)) → ys ++ drop end m ≡ filled f l end)

-- one role more, with n choices
module _ (n : ℕ) (ns : List ℕ) (C : ℕ → Bool) (w end : ℕ) (l m : List ℕ) (is : w ≡ product ns) (p : 0 < w) (h : w ≤ end) (small : end ≤ 65535) (room : end ≤ length l) (e : m ≡ filled (rep ns (λ r. C (suc r))) l w) where
  -- the role's part of the class
  choice : (b : Bool) (q x : ℕ) → x + q * cond b w 0 ≡ cond b q 0 * w + x
  choice true q x = omega arith
  choice false q x = rw (mul-zero, zero-mul) (omega arith)

  size : length (take end m) ≡ end
  size = omega (arith, length-take end m, filled_length (rep ns (λ r. C (suc r))) l w m e)

  -- the repeated entries are the classes for the role and those after it
  repeated_rep : (j : ℕ) → repeated (take end m) w (cond (C 0) w 0) j ≡ rep (n ∷ ns) C j
  unfolding repeated rep
  repeated_rep j =
      let low = mod-lt j p in
      let read : get_or (take end m) (j % w) 0 ≡ rep ns (λ r. C (suc r)) (j % w)
      = get_or-take end m (j % w) 0 (omega arith) ∙ ap (λ (x : List ℕ). get_or x (j % w) 0) e ∙ filled_at (rep ns (λ r. C (suc r))) l w (j % w) (omega arith) low in
      rw read (choice (C 0) (j / w) (rep ns (λ r. C (suc r)) (j % w)) ∙ rw is refl)

  -- so they fit, and are what is to stand there
  pub role : Step l m w end (cond (C 0) w 0) (rep (n ∷ ns) C)
  role = (asks, gives)
    where
      asks : Repeats (take end m) w (cond (C 0) w 0)
      asks = record {
        some = p;
        up = omega (arith, size);
        fits = λ j o. let z = rep_le (n ∷ ns) C j in omega (arith, repeated_rep j, size);
      }

      gives : (ys : List ℕ) → ys ≡ filled (repeated (take end m) w (cond (C 0) w 0)) (take end m) (length (take end m)) → ys ++ drop end m ≡ filled (rep (n ∷ ns) C) l end
      gives ys q =
          put_part (repeated (take end m) w (cond (C 0) w 0)) 0 end m ys (omega (arith, filled_length (rep ns (λ r. C (suc r))) l w m e))
          (q ∙ ap (filled (repeated (take end m) w (cond (C 0) w 0)) (take end m)) size)
          ∙ ranged_cong (repeated (take end m) w (cond (C 0) w 0)) (rep (n ∷ ns) C) 0 m end (λ j o. repeated_rep j)
          ∙ ap (λ (y : List ℕ). filled (rep (n ∷ ns) C) y end) e
          ∙ ranged_again (rep ns (λ r. C (suc r))) (rep (n ∷ ns) C) 0 l w end h (omega arith)

-- what a number that is not 0 is a multiple of is no higher
multiple : (n w x : ℕ) → 0 < x → x ≡ n * w → (0 < w) × (w ≤ x)
multiple n w x h e =
    let k : 0 < n * w = rw e at h in
    let a : 0 < n = pos w n 0 (subst (λ (y : ℕ). 0 < y) (mul_comm n w) k) in
    let b = mul-le-mul {n₁ = 1} {m₁ = w} {n₂ = n} {m₂ = w} a (le_refl w) in
    (pos n w 0 k, omega (arith, one-mul w))

-- the joint moves of the faster roles are no more
faster : (r : ℕ) (ns : List ℕ) → 0 < product ns → (0 < product (drop r ns)) × (product (drop r ns) ≤ product ns)
unfolding product
faster zero ns h = (h, le_refl (product ns))
faster (suc r) [] h = (h, le_refl (product []))
faster (suc r) (n ∷ ns) h =
    let a = multiple n (product ns) (n * product ns) h refl in
    let b = faster r ns a.0 in
    (b.0, omega arith)

-- only the tests matter
rep_same : (ns : List ℕ) (C D : ℕ → Bool) → ((r : ℕ) → C r ≡ D r) → (j : ℕ) → rep ns C j ≡ rep ns D j
unfolding rep
rep_same [] C D e j = refl
rep_same (n ∷ ns) C D e j =
    ap₂ (λ (b : Bool) (x : ℕ). cond b (j / product ns) 0 * product ns + x) (e 0) (rep_same ns (λ r. C (suc r)) (λ r. D (suc r)) (λ r. e (suc r)) (j % product ns))

-- Roles r and on have joined, of those with these counts: their joint moves are w, and the first w classes are filled for them.
pub record Joined (ns : List ℕ) (mask : ℕ) (l : List ℕ) (r w : ℕ) (m : List ℕ) : Type 0 where
  pub weight : w ≡ product (drop r ns)
  pub classes : m ≡ filled (rep (drop r ns) (λ k. has mask (r + k))) l w

module _ (ns : List ℕ) (mask : ℕ) (l : List ℕ) where
  -- at first, none has
  pub joined_none : Joined ns mask l (length ns) 1 (set l 0 0)
  unfolding ranged rep product
  joined_none = record {
    weight = rw (drop-all ns) refl;
    classes = rw (drop-all ns) refl;
  }
    where
      drop-all : (ns : List ℕ) → drop (length ns) ns ≡ []
      drop-all [] = refl
      drop-all (n ∷ ns) = drop-all ns

  -- their joint moves are no more than all
  pub joined_low : (r w : ℕ) (m : List ℕ) → 0 < product ns → Joined ns mask l r w m → (0 < w) × (w ≤ product ns)
  joined_low r w m some j = rw j.weight (faster r ns some)

  module _ (some : 0 < product ns) (small : product ns ≤ 65535) (room : length l ≡ product ns) (r w end : ℕ) (m : List ℕ) (h : r < length ns)
      (j : Joined ns mask l (suc r) w m) (e : end ≡ get_or ns r 0 * w)
    where
      rows : drop r ns ≡ get_or ns r 0 ∷ drop (suc r) ns
      rows = drop-cons ns r 0 h

      grown : end ≡ product (drop r ns)
      unfolding product
      grown = e ∙ rw (rows, j.weight) refl

      -- the next role's step
      bounds : (0 < w) × (w ≤ end) × (end ≤ length l)
      bounds =
          let a = faster r ns some in
          let b = multiple (get_or ns r 0) w end (omega (arith, grown)) e in
          (b.0, b.1, omega (arith, grown))

      tests : (k : ℕ) → has mask (suc r + k) ≡ has mask (r + suc k)
      tests k = let z : suc r + k ≡ r + suc k = omega arith in ap (has mask) z

      joins : Step l m w end (cond (has mask r) w 0) (rep (drop r ns) (λ k. has mask (r + k)))
      joins =
          let z : r + 0 ≡ r = omega arith in
          let before = ranged_cong (rep (drop (suc r) ns) (λ k. has mask (suc r + k))) (rep (drop (suc r) ns) (λ k. has mask (r + suc k))) 0 l w
          (λ i o. rep_same (drop (suc r) ns) (λ k. has mask (suc r + k)) (λ k. has mask (r + suc k)) tests i) in
          subst (λ (x : ℕ). Step l m w end (cond (has mask x) w 0) (rep (drop r ns) (λ k. has mask (r + k)))) z
          (subst (λ (x : List ℕ). Step l m w end (cond (has mask (r + 0)) w 0) (rep x (λ k. has mask (r + k)))) (sym rows)
          (role (get_or ns r 0) (drop (suc r) ns) (λ k. has mask (r + k)) w end l m j.weight bounds.0 bounds.1 (omega (arith, bounds.2)) bounds.2
          (j.classes ∙ before)))

      joined_more : (ys : List ℕ) → ys ≡ filled (repeated (take end m) w (cond (has mask r) w 0)) (take end m) (length (take end m)) → Joined ns mask l r end (ys ++ drop end m)
      joined_more ys q = record { weight = grown; classes = joins.1 ys q }

  -- and at last all have
  pub joined_all : (w : ℕ) (m : List ℕ) → Joined ns mask l 0 w m → m ≡ filled (rep ns (has mask)) l (product ns)
  joined_all w m j =
      j.classes ∙ ranged_cong (rep ns (λ k. has mask (0 + k))) (rep ns (has mask)) 0 l w
      (λ i o. rep_same ns (λ k. has mask (0 + k)) (has mask) (λ k. ap (has mask) (zero-add k)) i)
      ∙ ap (filled (rep ns (has mask)) l) j.weight

-- a role's count, by its place
row_at : (counts : List ℕ) (r : ℕ) → r < 4 → get_or counts r 0 ≡ get_or (row counts 0) r 0
row_at counts zero h = refl
row_at counts (suc zero) h = refl
row_at counts (suc (suc zero)) h = refl
row_at counts (suc (suc (suc zero))) h = refl
row_at counts (suc (suc (suc (suc r)))) h = absurd (omega arith)

-- The turn of role r - 1, with x choices: it repeats the first w entries up to entry x * w, if its rise is what is added.
module _ (counts : List ℕ) (mask : ℕ) (l : List ℕ) (room : length l ≡ product (row counts 0)) (some : 0 < length l) (small : length l ≤ 65535)
    (r w x : ℕ) (m : List ℕ) (h : 0 < r) (k : r ≤ 4) (j : Joined (row counts 0) mask l r w m) (d : x ≡ get_or counts (r - 1) 0)
  where
    prior : Joined (row counts 0) mask l (suc (r - 1)) w m
    prior = let z : r ≡ suc (r - 1) = omega arith in subst (λ (y : ℕ). Joined (row counts 0) mask l y w m) z j

    times : x * w ≡ get_or (row counts 0) (r - 1) 0 * w
    times = ap (λ (y : ℕ). y * w) (d ∙ row_at counts (r - 1) (omega arith))

    pub turn_in : (x * w ≤ length l) × (x * w ≤ length m)
    turn_in =
        let b = bounds (row counts 0) mask l (omega arith) (omega arith) room (r - 1) w (x * w) m (omega arith) prior times in
        (b.2, omega (arith, b.2, filled_length (rep (drop r (row counts 0)) (λ i. has mask (r + i))) l w m j.classes))

    module _ (add : ℕ) (f : add ≡ cond (has mask (r - 1)) w 0) where
      pub turn_asks : Repeats (take (x * w) m) w add
      turn_asks = rw f (joins (row counts 0) mask l (omega arith) (omega arith) room (r - 1) w (x * w) m (omega arith) prior times).0

      pub turn_gives : (ys : List ℕ) → ys ≡ filled (repeated (take (x * w) m) w add) (take (x * w) m) (length (take (x * w) m))
          → Joined (row counts 0) mask l (r - 1) (x * w) (ys ++ drop (x * w) m)
      turn_gives ys q =
          joined_more (row counts 0) mask l (omega arith) (omega arith) room (r - 1) w (x * w) m (omega arith) prior times ys
          (q ∙ ap (λ (y : ℕ). filled (repeated (take (x * w) m) w y) (take (x * w) m) (length (take (x * w) m))) f)
