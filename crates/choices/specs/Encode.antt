-- The number of a joint move, role by role: what holds after p roles, where it starts, a turn, and where it ends.
use Rattle.std.specs.Prelude.{◌≡◌, refl, ℕ, zero, suc, ◌⊎◌, ◌+◌, ◌*◌, ◌%◌, ◌^◌, ◌≤◌, ◌<◌, min, length, get_or, drop}
use Rattle.std.proofs.Math.Path.{sym, ap, ap₂}
use Rattle.std.proofs.Common.{◌∙◌, subst, inl, inr, mul-le-mul, le_refl, lt_of_lt_of_le, mod-lt, mod-eq_of_lt, add-one, arith, pow_pos, drop-cons, length-drop}
use mathlib.Core.List.{List, [], ◌∷◌}
use Rattle.std.proofs.Math.Nat.{pow-suc, pow-le-pow_right}
use Rattle.std.specs.Int.Count.{ones}
use Rattle.std.proofs.lemmas.Nat.{ones-le}
use Rattle.facts.specs.Laws.{one_shifted}
use Rattle.choices.specs.Moves.{members, rank, encode}
use Rattle.choices.specs.Laws.{count_le}

-- what the code's remainder by a shift counts
pub rank_low : (s m : ℕ) → m < 16 → ones (s % ((1 * 2 ^ m) % 2 ^ 16)) ≡ rank s m
unfolding rank
rank_low s m h =
    let e : m ≡ min m 16 = omega arith in
    ap (λ (x : ℕ). ones (s % x)) (one_shifted 16 m h) ∙ ap (λ (k : ℕ). ones (s % 2 ^ k)) e

pub rank_high : (s m : ℕ) → s < 2 ^ 16 → 16 ≤ m → ones s ≡ rank s m
unfolding rank
rank_high s m h k =
    let e : 16 ≡ min m 16 = omega arith in
    ap ones (sym (mod-eq_of_lt h)) ∙ ap (λ (k : ℕ). ones (s % 2 ^ k)) e

pub rank_le : (s m : ℕ) → rank s m ≤ 16
unfolding rank
rank_le s m = omega (arith, ones-le (min m 16) (s % 2 ^ min m 16) (mod-lt s (pow_pos (min m 16))))

pub shift_pos : (m : ℕ) → m < 16 → 0 < (1 * 2 ^ m) % 2 ^ 16
shift_pos m h = subst (λ (x : ℕ). 0 < x) (sym (one_shifted 16 m h)) (pow_pos m)

-- After p roles: the rest brings n to z, and n is small.
pub record So (ss ms : List ℕ) (z p n : ℕ) : Type 0 where
  pub gives : encode (drop p ss) (drop p ms) n ≡ z
  pub small : n < 17 ^ p

module _ (ss ms : List ℕ) (z p n : ℕ) (few : length ss ≤ 4) (h : p < length ss) (so : So ss ms z p n) where
  room : n < 4913
  room = lt_of_lt_of_le so.small (pow-le-pow_right {n = 17} (omega arith) {j = 3} (omega arith))

  -- the product that the code makes, and the sum
  product_room : (c : ℕ) → c ≡ length (members (get_or ss p 0)) → n * c ≤ n * 16
  product_room c e = mul-le-mul (le_refl n) (omega (arith, count_le (get_or ss p 0)))

  pub product_fits : (c : ℕ) → c ≡ length (members (get_or ss p 0)) → n * c < 100000
  product_fits c e = omega (arith, product_room c e, room)

  pub turn : p < length ms → (c r : ℕ) → c ≡ length (members (get_or ss p 0)) → r ≡ rank (get_or ss p 0) (get_or ms p 0) → So ss ms z (p + 1) (n * c + r)
  unfolding encode
  turn k c r e f =
      let at : (l : List ℕ) → p < length l → drop p l ≡ get_or l p 0 ∷ drop (p + 1) l = λ l q. drop-cons l p 0 q ∙ ap (λ (i : ℕ). get_or l p 0 ∷ drop i l) (sym (add-one p)) in
      let q : 17 ^ (p + 1) ≡ 17 ^ p * 17 = ap (λ (k : ℕ). 17 ^ k) (add-one p) ∙ pow-suc 17 p in
      record {
        gives =
            ap₂ (λ (x y : ℕ). encode (drop (p + 1) ss) (drop (p + 1) ms) (n * x + y)) e f
            ∙ sym (ap₂ (λ (k l : List ℕ). encode k l n) (at ss h) (at ms k))
            ∙ so.gives;
        small = omega (arith, so.small, product_room c e, rank_le (get_or ss p 0) (get_or ms p 0));
      }

pub start : (ss ms : List ℕ) → So ss ms (encode ss ms 0) 0 0
start ss ms = record { gives = refl; small = omega arith }

-- what is left of a list after p elements, taken apart
pub front : (l : List ℕ) (p x : ℕ) (t : List ℕ) → x ∷ t ≡ drop p l → (p < length l) × (x ≡ get_or l p 0) × (t ≡ drop (p + 1) l)
front l p x t e =
    let h : p < length l = omega (arith, ap length e, length-drop p l) in
    let f : x ∷ t ≡ get_or l p 0 ∷ drop (p + 1) l = e ∙ drop-cons l p 0 h ∙ ap (λ (i : ℕ). get_or l p 0 ∷ drop i l) (sym (add-one p)) in
    (h, cc f, cc f)

pub past : (l : List ℕ) (p : ℕ) → length (drop p l) ≡ 0 → length l ≤ p
past l p e = omega (arith, length-drop p l)

-- the end: no role is left, or no move
encode_none : (ss : List ℕ) (n : ℕ) → encode ss [] n ≡ n
unfolding encode
encode_none [] n = refl
encode_none (s ∷ ss) n = refl

drop_all : (l : List ℕ) (p : ℕ) → length l ≤ p → drop p l ≡ []
drop_all [] zero h = refl
drop_all [] (suc p) h = refl
drop_all (x ∷ l) zero h = absurd (omega arith)
drop_all (x ∷ l) (suc p) h = drop_all l p (omega arith)

pub end : (ss ms : List ℕ) (z p n : ℕ) → So ss ms z p n → (length ss ≤ p) ⊎ (length ms ≤ p) → n ≡ z
unfolding encode
end ss ms z p n so (inl h) = ap (λ (l : List ℕ). encode l (drop p ms) n) (sym (drop_all ss p h)) ∙ so.gives
end ss ms z p n so (inr h) = sym (encode_none (drop p ss) n) ∙ ap (λ (l : List ℕ). encode (drop p ss) l n) (sym (drop_all ms p h)) ∙ so.gives
