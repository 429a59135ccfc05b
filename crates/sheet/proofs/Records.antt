-- The literals and the rules that bytes hold, one taken off after another. Assumes nothing.
use Rattle.std.proofs.Common.{◌≡◌, ℕ, zero, suc, ◌+◌, ◌-◌, ◌*◌, ◌<◌, ◌≤◌, List, [], ◌∷◌, length, take, drop, refl, sym, ap, ◌∙◌, arith, length-drop, length-take, get_or-drop, get_or-take, drop-drop, min}
use Rattle.std.proofs.lemmas.List.{take_min, drop_min, drop-take}
use Rattle.std.proofs.lemmas.Slice.{between_to_end}
use Rattle.std.specs.List.{between}
use Rattle.sheet.specs.Data.{Rule, byte, part_at, body_from, rules_from, rules_end}
use Rattle.sheet.specs.Records.{parts_of, rules_in}

pub parts_short : (s : List ℕ) → length s < 3 → parts_of s ≡ []
unfolding parts_of
parts_short [] l = refl
parts_short (k ∷ []) l = refl
parts_short (k ∷ a ∷ []) l = refl
parts_short (k ∷ a ∷ b ∷ s) l = absurd (omega arith)

parts_drop : (s : List ℕ) → 3 ≤ length s → parts_of s ≡ part_at s 0 ∷ parts_of (drop 3 s)
unfolding parts_of
parts_drop [] l = absurd (omega arith)
parts_drop (k ∷ []) l = absurd (omega arith)
parts_drop (k ∷ a ∷ []) l = absurd (omega arith)
parts_drop (k ∷ a ∷ b ∷ s) l = refl

pub parts_next : (s : List ℕ) → 3 ≤ length s → parts_of s ≡ part_at s 0 ∷ parts_of (between 3 (length s) s)
parts_next s l = parts_drop s l ∙ ap (λ t. part_at s 0 ∷ parts_of t) (sym (between_to_end s 3 (length s) (omega arith)))

pub rules_none : (n : ℕ) (s : List ℕ) → n ≡ 0 → rules_in n s ≡ []
unfolding rules_in
rules_none zero s e = refl
rules_none (suc n) s e = absurd (omega arith)

pub rules_short : (n : ℕ) (s : List ℕ) → length s < 6 → rules_in n s ≡ []
unfolding rules_in
rules_short zero s l = refl
rules_short (suc n) [] l = refl
rules_short (suc n) (x ∷ []) l = refl
rules_short (suc n) (x ∷ y ∷ []) l = refl
rules_short (suc n) (x ∷ y ∷ k ∷ []) l = refl
rules_short (suc n) (x ∷ y ∷ k ∷ a ∷ []) l = refl
rules_short (suc n) (x ∷ y ∷ k ∷ a ∷ b ∷ []) l = refl
rules_short (suc n) (x ∷ y ∷ k ∷ a ∷ b ∷ m ∷ s) l = absurd (omega arith)

-- The rule that six bytes and what follows them begin with.
abbrev pub first_rule : List ℕ → List ℕ → Rule
first_rule s t = record { head = part_at s 2; body = parts_of (take (3 * byte s 5) t) }

rules_drop : (n : ℕ) (s : List ℕ) → 6 ≤ length s → rules_in (suc n) s ≡ first_rule s (drop 6 s) ∷ rules_in n (drop (3 * byte s 5) (drop 6 s))
unfolding rules_in
rules_drop n [] l = absurd (omega arith)
rules_drop n (x ∷ []) l = absurd (omega arith)
rules_drop n (x ∷ y ∷ []) l = absurd (omega arith)
rules_drop n (x ∷ y ∷ k ∷ []) l = absurd (omega arith)
rules_drop n (x ∷ y ∷ k ∷ a ∷ []) l = absurd (omega arith)
rules_drop n (x ∷ y ∷ k ∷ a ∷ b ∷ []) l = absurd (omega arith)
rules_drop n (x ∷ y ∷ k ∷ a ∷ b ∷ m ∷ s) l = refl

-- What follows the six bytes is split at most after the literals' bytes.
pub rules_next : (n k m : ℕ) (s front back : List ℕ) → (n ≡ 0 → ⊥) → 6 ≤ length s → k ≡ byte s 5 → m ≡ min (3 * k) (length (between 6 (length s) s))
    → front ≡ take m (between 6 (length s) s) → back ≡ drop m (between 6 (length s) s)
    → rules_in n s ≡ record { head = part_at s 2; body = parts_of front } ∷ rules_in (n - 1) back
rules_next zero k m s front back some l e f g h = absurd (some refl)
rules_next (suc n) k m s front back some l e f g h =
    rules_drop n s l
    ∙ rw (less, g, h, f, take_min (3 * k) (between 6 (length s) s), drop_min (3 * k) (between 6 (length s) s), between_to_end s 6 (length s) (omega arith), e) refl
  where
    less : suc n - 1 ≡ n
    less = omega arith

-- ---- the same from an offset of the whole sheet on

module _ (s : List ℕ) where
  byte_at : (at i : ℕ) → byte (drop at s) i ≡ byte s (at + i)
  byte_at at i = get_or-drop at s i 0

  -- what n literals' bytes hold
  pub body_is : (n at : ℕ) → at + 3 * n ≤ length s → parts_of (take (3 * n) (drop at s)) ≡ body_from s at n
  body_is zero at l = parts_short _ (omega arith)
  body_is (suc n) at l =
      let t = take (3 * suc n) (drop at s) in
      let long : 3 ≤ length t = omega (arith, length-take (3 * suc n) (drop at s), length-drop at s) in
      let here : (i : ℕ) → i < 3 → byte t i ≡ byte s (at + i) = λ i h. get_or-take (3 * suc n) (drop at s) i 0 (omega arith) ∙ byte_at at i in
      let rest : drop 3 t ≡ take (3 * n) (drop (at + 3) s) =
      ap (λ k. drop 3 (take k (drop at s))) three ∙ drop-take 3 (3 * n) (drop at s) ∙ ap (take (3 * n)) (drop-drop 3 at s) in
      parts_drop t long ∙ rw (here 0 (omega arith), here 1 (omega arith), here 2 (omega arith), rest, plus, body_is n (at + 3) (omega arith))
    where
      three : 3 * suc n ≡ 3 + 3 * n
      three = omega arith

      plus : at + 0 ≡ at
      plus = omega arith

  end_above : (n at : ℕ) → at ≤ rules_end s at n
  unfolding rules_end
  end_above zero at = omega arith
  end_above (suc n) at = let h : at + (6 + 3 * byte s (at + 5)) ≤ rules_end s (at + (6 + 3 * byte s (at + 5))) n = end_above n _ in omega arith

  pub rules_are : (n at : ℕ) → rules_end s at n ≤ length s → rules_in n (drop at s) ≡ rules_from s at n
  unfolding rules_end
  rules_are zero at l = rules_none 0 _ refl
  rules_are (suc n) at l =
      let m = byte s (at + 5) in
      let fits : at + (6 + 3 * m) ≤ length s = omega (arith, end_above n (at + (6 + 3 * m)), l) in
      let t = drop at s in
      let five : byte t 5 ≡ m = byte_at at 5 in
      let rest : drop (3 * m) (drop 6 t) ≡ drop (at + (6 + 3 * m)) s = drop-drop (3 * m) 6 t ∙ drop-drop (6 + 3 * m) at s in
      rules_drop n t (omega (arith, length-drop at s))
      ∙ rw (five, byte_at at 2, byte_at at 3, byte_at at 4, three, four, rest, drop-drop 6 at s, body_is m (at + 6) (omega arith), rules_are n (at + (6 + 3 * m)) l) refl
    where
      three : at + 3 ≡ at + 2 + 1
      three = omega arith

      four : at + 4 ≡ at + 2 + 2
      four = omega arith

  -- from an offset that is cut to the length
  pub rules_cut : (n at m : ℕ) → m ≡ min at (length s) → rules_end s at n ≤ length s → rules_in n (between m (length s) s) ≡ rules_from s at n
  rules_cut n at m e l =
      let inside : m ≡ at = omega (arith, e, end_above n at, l) in
      rw (between_to_end s m (length s) (omega arith), inside) (rules_are n at l)
