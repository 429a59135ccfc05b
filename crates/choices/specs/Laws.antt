-- The laws of choices.
use Rattle.std.specs.Prelude.{◌≡◌, List, [], ◌∷◌, ◌⊎◌, ℕ, zero, suc, ◌+◌, ◌*◌, ◌/◌, ◌^◌, ◌≤◌, ◌<◌, length, get_or, take}
use Rattle.std.proofs.Common.{sym, ap, ◌∙◌, subst, inl, inr, div-one, mul-le-mul, le_trans, le_of_eq, mul_assoc, suc-add, pow-suc, mul_comm, arith, length-take, shr-shr}
use Rattle.std.proofs.Math.Nat.{pow-le-pow_right}
use Rattle.std.proofs.Math.Arith.{lt-one}
use Rattle.std.specs.Int.Count.{ones, ones_step}
use Rattle.facts.specs.Bits.{bit, has}
use Rattle.facts.specs.Laws.{bit_cases}
use Rattle.choices.specs.Moves.{cons_if, members_from, members, total}

length_cons_if : (n i : ℕ) (l : List ℕ) → length (cons_if (has n i) i l) ≡ bit n i + length l
length_cons_if n i l = go (bit_cases n i)
  where
    go : (bit n i ≡ 0) ⊎ (bit n i ≡ 1) → length (cons_if (has n i) i l) ≡ bit n i + length l
    go (inl e) = rw e (omega arith)
    go (inr e) = rw e (omega arith)

next_shr : (n i : ℕ) → n / 2 ^ i / 2 ≡ n / 2 ^ (i + 1)
next_shr n i = shr-shr n i 1

pub length_from : (d i n : ℕ) → n / 2 ^ i < 2 ^ d → length (members_from d i n) ≡ ones (n / 2 ^ i)
unfolding members_from ones
length_from zero i n h = sym (ap ones (lt-one h))
length_from (suc d) i n h =
    length_cons_if n i (members_from d (i + 1) n)
    ∙ ap (λ (x : ℕ). bit n i + x) (length_from d (i + 1) n (omega (arith, next_shr n i, pow-suc 2 d)) ∙ ap ones (sym (next_shr n i)))
    ∙ sym (ones_step (n / 2 ^ i))

-- what the language's count of ones gives
pub count_ones : (n : ℕ) → n < 2 ^ 16 → ones n ≡ length (members n)
unfolding members
count_ones n h = ap ones (sym (div-one n)) ∙ sym (length_from 16 0 n (subst (λ (x : ℕ). x < 2 ^ 16) (sym (div-one n)) h))

pub from_le : (d i n : ℕ) → length (members_from d i n) ≤ d
unfolding members_from
from_le zero i n = omega arith
from_le (suc d) i n = omega (arith, length_cons_if n i (members_from d (i + 1) n), from_le d (i + 1) n)

pub count_le : (n : ℕ) → length (members n) ≤ 16
unfolding members
count_le n = from_le 16 0 n

pub total_le : (ss : List ℕ) → total ss ≤ 16 ^ length ss
unfolding total
total_le [] = omega arith
total_le (s ∷ ss) = le_trans (mul-le-mul (count_le s) (total_le ss)) (le_of_eq (mul_comm 16 (16 ^ length ss) ∙ sym (pow-suc 16 (length ss))))

-- one role more
pub total_take : (ss : List ℕ) (i : ℕ) → i < length ss → total (take (i + 1) ss) ≡ total (take i ss) * length (members (get_or ss i 0))
unfolding total
total_take [] i h = absurd (omega arith)
total_take (s ∷ ss) zero h = mul_comm (length (members s)) 1
total_take (s ∷ ss) (suc i) h =
    ap (λ (k : ℕ). total (take k (s ∷ ss))) (suc-add i 1)
    ∙ ap (λ (x : ℕ). length (members s) * x) (total_take ss i (omega arith))
    ∙ sym (mul_assoc (length (members s)) (total (take i ss)) (length (members (get_or ss i 0))))

-- of four roles at most: 65,536 joint moves at most
pub total_four : (ss : List ℕ) (i : ℕ) → i ≤ 4 → total (take i ss) ≤ 65536
total_four ss i h = le_trans (total_le (take i ss)) (pow-le-pow_right {n = 16} (omega arith) {j = 4} (omega (arith, length-take i ss)))
