-- A code says what its rule says: the sets of a body hold exactly where all its literals do.
use mathlib.Core.Path.{◌≡◌, refl, sym, ap, ◌∙◌}
use mathlib.Core.Bool.{Bool, true, false, cond, not, ◌&&◌, ◌||◌, false≢true, or-false, and-false, and-true, and_assoc}
use mathlib.Core.Logic.{◌⊎◌, inl, inr}
use mathlib.Core.List.{List, [], ◌∷◌, ◌++◌}
use Prim.Native.Nat.{ℕ, zero, suc, ◌+◌, ◌*◌, ◌≤◌, ◌<◌, min}
use native.Mathlib.Omega.{arith}
use lib.Bits.{bit_and, and_zero_r}
use lib.Dec.{eqb, ltb}
use lib.ListN.{get_or, length}
use borrow.Author.Tests.{eqb-true, eq-eqb, ne_eqb, ltb-true, ltb-false}
use Rattle.facts.specs.Truth.{same_test, and_left, and_right, and_both}
use Rattle.facts.specs.Bits.{bit, has, insert}
use Rattle.facts.specs.Laws.{bit-and, bit_none, bit_cases, has_insert}
use Rattle.facts.specs.Sets.{◌∈◌, ◌∉◌, same_set, insert_new, insert_old, insert_cases}
use Rattle.sheet.specs.declared.record.Part.{Part}
use Rattle.sheet.specs.Data.{part, Rule}
use Rattle.rules.specs.declared.Look.{Look}
use Rattle.rules.specs.declared.Ask.{Ask}
use Rattle.rules.specs.Meaning.{doing, holds}
use Rattle.rules.specs.Rules.{fires, member_of}
use Rattle.rules.proofs.Laws.{doing_in}
use Rattle.codes.specs.Codes.{bits, place_of, noted, noted_all, blank, sets_of, code_of, covers, avoids, calm, stirs, made_by, joint_of, Sound, none, one}
use Rattle.codes.proofs.Body.{noted_length, sets_length}
use Rattle.codes.specs.Table.{InSlot, sets_in, member_in}

-- ---- covers and avoids, by members
covers_part : (x w : ℕ) → covers x w ≡ true → (i : ℕ) → i ∈ w → i ∈ x
covers_part x w h i k = omega (arith, bit-and x w i, ap (λ (y : ℕ). bit y i) (eqb-true (bit_and x w) w h))

part_covers : (x w : ℕ) → ((i : ℕ) → i ∈ w → i ∈ x) → covers x w ≡ true
part_covers x w h = eq-eqb (bit_and x w) w (same_set (bit_and x w) w (λ i. bit-and x w i ∙ go i (bit_cases w i)))
  where
    go : (i : ℕ) → (bit w i ≡ 0) ⊎ (bit w i ≡ 1) → min (bit x i) (bit w i) ≡ bit w i
    go i (inl e) = omega arith
    go i (inr e) = omega (arith, h i e)

avoids_none : (x w : ℕ) → avoids x w ≡ true → (i : ℕ) → i ∈ w → i ∉ x
avoids_none x w h i k = omega (arith, bit-and x w i, ap (λ (y : ℕ). bit y i) (eqb-true (bit_and x w) 0 h), bit_none i)

none_avoids : (x w : ℕ) → ((i : ℕ) → i ∈ w → i ∉ x) → avoids x w ≡ true
none_avoids x w h = eq-eqb (bit_and x w) 0 (same_set (bit_and x w) 0 (λ i. bit-and x w i ∙ go i (bit_cases w i) ∙ sym (bit_none i)))
  where
    go : (i : ℕ) → (bit w i ≡ 0) ⊎ (bit w i ≡ 1) → min (bit x i) (bit w i) ≡ 0
    go i (inl e) = omega arith
    go i (inr e) = omega (arith, h i e)

has_not : (x i : ℕ) → i ∉ x → not (has x i) ≡ true
has_not x i h = ap (λ (y : ℕ). not (eqb y 1)) h

not_has : (x i : ℕ) → not (has x i) ≡ true → i ∉ x
not_has x i h = go (bit_cases x i)
  where
    go : (bit x i ≡ 0) ⊎ (bit x i ≡ 1) → bit x i ≡ 0
    go (inl e) = e
    go (inr e) = absurd (false≢true (sym (ap (λ (y : ℕ). not (eqb y 1)) e) ∙ h))

-- One member more in the set that is asked for.
pub covers_insert : (x w i : ℕ) → covers x (insert w i) ≡ (has x i && covers x w)
covers_insert x w i = same_test (covers x (insert w i)) (has x i && covers x w)
    (λ h. and_both (eq-eqb (bit x i) 1 (covers_part x (insert w i) h i (insert_new w i)))
    (part_covers x w (λ j k. covers_part x (insert w i) h j (insert_old w i j k))))
    (λ h. part_covers x (insert w i) (λ j k. go j (eqb-true (bit x i) 1 (and_left (has x i) (covers x w) h)) (and_right (has x i) (covers x w) h) (insert_cases w i j k)))
  where
    go : (j : ℕ) → i ∈ x → covers x w ≡ true → (j ∈ w) ⊎ (j ≡ i) → j ∈ x
    go j p q (inl k) = covers_part x w q j k
    go j p q (inr e) = ap (λ (y : ℕ). bit x y) e ∙ p

pub avoids_insert : (x w i : ℕ) → avoids x (insert w i) ≡ (not (has x i) && avoids x w)
avoids_insert x w i = same_test (avoids x (insert w i)) (not (has x i) && avoids x w)
    (λ h. and_both (has_not x i (avoids_none x (insert w i) h i (insert_new w i)))
    (none_avoids x w (λ j k. avoids_none x (insert w i) h j (insert_old w i j k))))
    (λ h. none_avoids x (insert w i) (λ j k. go j (not_has x i (and_left (not (has x i)) (avoids x w) h)) (and_right (not (has x i)) (avoids x w) h) (insert_cases w i j k)))
  where
    go : (j : ℕ) → i ∉ x → avoids x w ≡ true → (j ∈ w) ⊎ (j ≡ i) → j ∉ x
    go j p q (inl k) = avoids_none x w q j k
    go j p q (inr e) = ap (λ (y : ℕ). bit x y) e ∙ p

-- ---- the set of a joint move
-- Two moves stand at the same place where role and move are the same.
same_place : (r m a b : ℕ) → m < 16 → b < 16 → eqb (16 * r + m) (16 * a + b) ≡ (eqb r a && eqb m b)
same_place r m a b h k = same_test (eqb (16 * r + m) (16 * a + b)) (eqb r a && eqb m b)
    (λ e. let p : 16 * r + m ≡ 16 * a + b = eqb-true (16 * r + m) (16 * a + b) e in and_both (eq-eqb r a (omega arith)) (eq-eqb m b (omega arith)))
    (λ e. let p : r ≡ a = eqb-true r a (and_left (eqb r a) (eqb m b) e) in let q : m ≡ b = eqb-true m b (and_right (eqb r a) (eqb m b) e) in
    eq-eqb (16 * r + m) (16 * a + b) (omega arith))

has_made : (r m x a b : ℕ) → b < 16 → has (made_by r m x) (16 * a + b) ≡ ((eqb r a && eqb m b) || has x (16 * a + b))
has_made r m x a b k = go (ltb m 16) refl
  where
    go : (t : Bool) → ltb m 16 ≡ t → has (cond t (insert x (16 * r + m)) x) (16 * a + b) ≡ ((eqb r a && eqb m b) || has x (16 * a + b))
    go true e = has_insert x (16 * r + m) (16 * a + b) ∙ ap (λ (t : Bool). t || has x (16 * a + b)) (same_place r m a b (ltb-true m 16 e) k)
    go false e = sym (ap (λ (t : Bool). (eqb r a && t) || has x (16 * a + b)) (ne_eqb m b (λ f. absurd (omega (arith, ltb-false m 16 e)))) ∙ ap (λ (t : Bool). t || has x (16 * a + b)) (and-false (eqb r a)))

joint_has : (m : List ℕ) (a b : ℕ) → a < 4 → b < 16 → has (joint_of m) (16 * a + b) ≡ eqb (get_or m a 0) b
unfolding joint_of
joint_has m a b h k = four ∙ go a h
  where
    m0 : ℕ
    m0 = get_or m 0 0

    m1 : ℕ
    m1 = get_or m 1 0

    m2 : ℕ
    m2 = get_or m 2 0

    m3 : ℕ
    m3 = get_or m 3 0

    four : has (made_by 3 m3 (made_by 2 m2 (made_by 1 m1 (made_by 0 m0 0)))) (16 * a + b) ≡ ((eqb 3 a && eqb m3 b) || ((eqb 2 a && eqb m2 b) || ((eqb 1 a && eqb m1 b) || (eqb 0 a && eqb m0 b))))
    four = has_made 3 m3 (made_by 2 m2 (made_by 1 m1 (made_by 0 m0 0))) a b k
        ∙ ap (λ (t : Bool). (eqb 3 a && eqb m3 b) || t) (has_made 2 m2 (made_by 1 m1 (made_by 0 m0 0)) a b k
        ∙ ap (λ (t : Bool). (eqb 2 a && eqb m2 b) || t) (has_made 1 m1 (made_by 0 m0 0) a b k
        ∙ ap (λ (t : Bool). (eqb 1 a && eqb m1 b) || t) (has_made 0 m0 0 a b k
        ∙ ap (λ (y : ℕ). (eqb 0 a && eqb m0 b) || eqb y 1) (bit_none (16 * a + b)) ∙ or-false (eqb 0 a && eqb m0 b))))

    go : (a : ℕ) → a < 4 → ((eqb 3 a && eqb m3 b) || ((eqb 2 a && eqb m2 b) || ((eqb 1 a && eqb m1 b) || (eqb 0 a && eqb m0 b)))) ≡ eqb (get_or m a 0) b
    go zero h = refl
    go (suc zero) h = or-false (eqb m1 b)
    go (suc (suc zero)) h = or-false (eqb m2 b)
    go (suc (suc (suc zero))) h = or-false (eqb m3 b)
    go (suc (suc (suc (suc a)))) h = absurd (omega arith)

-- ---- one literal more
-- What five tests say together, in the order of `calm` and `stirs`.
abbrev five : Bool → Bool → Bool → Bool → Bool → Bool
five a b c d e = (a && (b && (c && d))) && e

-- One of them that is false makes all false.
second : (a c d e : Bool) → five a false c d e ≡ false
second a c d e = ap (λ (t : Bool). t && e) (and-false a)

third : (a b d e : Bool) → five a b false d e ≡ false
third a b d e = ap (λ (t : Bool). (a && t) && e) (and-false b) ∙ second a true true e

fourth : (a b c e : Bool) → five a b c false e ≡ false
fourth a b c e = ap (λ (t : Bool). (a && (b && t)) && e) (and-false c) ∙ third a b true e

-- A test put in somewhere: where it makes no difference if true, and all false if false, it may stand behind.
put : (x t : Bool) (g : Bool → Bool) → g true ≡ x → g false ≡ false → g t ≡ (x && t)
put true true g p q = p
put false true g p q = p
put true false g p q = q
put false false g p q = q

module _ (k : Look) where
  -- what the position is: its facts, its views, its joint move
  abbrev f : ℕ
  f = k.facts.bits

  abbrev v : ℕ
  v = k.views.bits

  abbrev j : ℕ
  j = joint_of k.moves

  -- What sets say of it.
  abbrev full : List ℕ → Bool
  full w = calm w f v && stirs w j

  module _ (w0 w1 w2 w3 w4 : ℕ) where
    abbrev w : List ℕ
    w = w0 ∷ w1 ∷ w2 ∷ w3 ∷ w4 ∷ []

    abbrev a0 : Bool
    a0 = covers f w0

    abbrev a1 : Bool
    a1 = avoids f w1

    abbrev a2 : Bool
    a2 = covers v w2

    abbrev a3 : Bool
    a3 = avoids v w3

    abbrev a4 : Bool
    a4 = covers j w4

    abbrev all : Bool
    all = five a0 a1 a2 a3 a4

    -- A literal of kind n, for each of the five kinds.
    literal_full : (n a b : ℕ) → 1 ≤ n → n ≤ 5 → place_of (part n a b) < bits → (n ≡ 5 → b < 16) → full (noted (part n a b) w) ≡ (full w && holds k (part n a b))
    unfolding noted calm stirs holds
    literal_full zero a b low top place move = absurd (omega arith)
    literal_full (suc zero) a b low top place move =
        ap (λ (t : Bool). five t a1 a2 a3 a4) (covers_insert f w0 a) ∙ put all (has f a) (λ t. five (t && a0) a1 a2 a3 a4) refl refl
    literal_full (suc (suc zero)) a b low top place move =
        ap (λ (t : Bool). five a0 t a2 a3 a4) (avoids_insert f w1 a) ∙ put all (not (has f a)) (λ t. five a0 (t && a1) a2 a3 a4) refl (second a0 a2 a3 a4)
    literal_full (suc (suc (suc zero))) a b low top place move =
        ap (λ (t : Bool). five a0 a1 t a3 a4) (covers_insert v w2 a) ∙ put all (has v a) (λ t. five a0 a1 (t && a2) a3 a4) refl (third a0 a1 a3 a4)
    literal_full (suc (suc (suc (suc zero)))) a b low top place move =
        ap (λ (t : Bool). five a0 a1 a2 t a4) (avoids_insert v w3 a) ∙ put all (not (has v a)) (λ t. five a0 a1 a2 (t && a3) a4) refl (fourth a0 a1 a2 a4)
    literal_full (suc (suc (suc (suc (suc zero))))) a b low top place move =
        ap (λ (t : Bool). five a0 a1 a2 a3 t) (covers_insert j w4 (16 * a + b) ∙ ap (λ (t : Bool). t && a4) (joint_has k.moves a b (omega arith) (move refl) ∙ doing_in k.moves a b (omega arith)))
        ∙ put all (doing k.moves a b) (λ t. five a0 a1 a2 a3 (t && a4)) refl (and-false (a0 && (a1 && (a2 && a3))))
    literal_full (suc (suc (suc (suc (suc (suc n)))))) a b low top place move = absurd (omega arith)

  literal_any : (l : Part) → 1 ≤ l.kind → l.kind ≤ 5 → place_of l < bits → (l.kind ≡ 5 → l.b < 16) → (w : List ℕ) → length w ≡ 5 → full (noted l w) ≡ (full w && holds k l)
  literal_any l low top place move (w0 ∷ w1 ∷ w2 ∷ w3 ∷ w4 ∷ []) e = literal_full w0 w1 w2 w3 w4 l.kind l.a l.b low top place move
  literal_any l low top place move [] e = absurd (omega arith)
  literal_any l low top place move (w0 ∷ []) e = absurd (omega arith)
  literal_any l low top place move (w0 ∷ w1 ∷ []) e = absurd (omega arith)
  literal_any l low top place move (w0 ∷ w1 ∷ w2 ∷ []) e = absurd (omega arith)
  literal_any l low top place move (w0 ∷ w1 ∷ w2 ∷ w3 ∷ []) e = absurd (omega arith)
  literal_any l low top place move (w0 ∷ w1 ∷ w2 ∷ w3 ∷ w4 ∷ w5 ∷ more) e = absurd (omega arith)

-- A body, from any sets on.
body_full : (k : Look) (b : List Part) (w : List ℕ) → Sound b → length w ≡ 5 → full k (noted_all b w) ≡ (full k w && fires k b)
unfolding fires
body_full k [] w none e = sym (and-true (full k w))
body_full k (l ∷ b) w (one low top place move rest) e =
    body_full k b (noted l w) rest (noted_length l w ∙ e)
    ∙ ap (λ (t : Bool). t && fires k b) (literal_any k l low top place move w e)
    ∙ and_assoc (full k w) (holds k l) (fires k b)

-- Empty sets ask nothing.
blank_full : (k : Look) → full k blank ≡ true
unfolding calm stirs
blank_full k = ap (λ (t : Bool). five t (avoids (f k) 0) (covers (v k) 0) (avoids (v k) 0) (covers (j k) 0)) (nothing (f k)) ∙ ap (λ (t : Bool). five true t (covers (v k) 0) (avoids (v k) 0) (covers (j k) 0)) (nothing (f k))
    ∙ ap (λ (t : Bool). five true true t (avoids (v k) 0) (covers (j k) 0)) (nothing (v k)) ∙ ap (λ (t : Bool). five true true true t (covers (j k) 0)) (nothing (v k)) ∙ nothing (j k)
  where
    nothing : (x : ℕ) → eqb (bit_and x 0) 0 ≡ true
    nothing x = eq-eqb (bit_and x 0) 0 (and_zero_r x)

-- A BODY FIRES WHERE ITS SETS HOLD.
pub says_is : (k : Look) (b : List Part) → Sound b → fires k b ≡ (calm (sets_of b) k.facts.bits k.views.bits && stirs (sets_of b) (joint_of k.moves))
unfolding sets_of
says_is k b h = sym (body_full k b blank h refl ∙ ap (λ (t : Bool). t && fires k b) (blank_full k))

-- ---- a code in its slot
-- The first five numbers of a list of five and one more, and the last.
first_five : (w : List ℕ) (m : ℕ) → length w ≡ 5 →
    (get_or (w ++ (m ∷ [])) 0 0 ∷ get_or (w ++ (m ∷ [])) 1 0 ∷ get_or (w ++ (m ∷ [])) 2 0 ∷ get_or (w ++ (m ∷ [])) 3 0 ∷ get_or (w ++ (m ∷ [])) 4 0 ∷ [] ≡ w) × (get_or (w ++ (m ∷ [])) 5 0 ≡ m)
first_five (w0 ∷ w1 ∷ w2 ∷ w3 ∷ w4 ∷ []) m e = (refl, refl)
first_five [] m e = absurd (omega arith)
first_five (w0 ∷ []) m e = absurd (omega arith)
first_five (w0 ∷ w1 ∷ []) m e = absurd (omega arith)
first_five (w0 ∷ w1 ∷ w2 ∷ []) m e = absurd (omega arith)
first_five (w0 ∷ w1 ∷ w2 ∷ w3 ∷ []) m e = absurd (omega arith)
first_five (w0 ∷ w1 ∷ w2 ∷ w3 ∷ w4 ∷ w5 ∷ more) m e = absurd (omega arith)

module _ (q : Ask) (r : Rule) (code : List ℕ) (c : ℕ) (there : InSlot code c (code_of q r)) where
  pub sets_in_lem : sets_in code c ≡ sets_of r.body
  unfolding code_of sets_of
  sets_in_lem = five_same (there 0 (omega arith)) (there 1 (omega arith)) (there 2 (omega arith)) (there 3 (omega arith)) (there 4 (omega arith))
      ∙ (first_five (sets_of r.body) (member_of q r.head) (sets_length r.body)).0
    where
      five_same : {a0 a1 a2 a3 a4 b0 b1 b2 b3 b4 : ℕ} → a0 ≡ b0 → a1 ≡ b1 → a2 ≡ b2 → a3 ≡ b3 → a4 ≡ b4 → a0 ∷ a1 ∷ a2 ∷ a3 ∷ a4 ∷ [] ≡ b0 ∷ b1 ∷ b2 ∷ b3 ∷ b4 ∷ []
      five_same p0 p1 p2 p3 p4 = rw (p0, p1, p2, p3, p4) refl

  pub member_in_lem : member_in code c ≡ member_of q r.head
  unfolding code_of sets_of
  member_in_lem = there 5 (omega arith) ∙ (first_five (sets_of r.body) (member_of q r.head) (sets_length r.body)).1
