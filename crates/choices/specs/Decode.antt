-- A joint move taken apart, role by role: what holds after p roles, where it starts, where it ends, and that each role has some choice.
use Rattle.std.specs.Prelude.{◌≡◌, refl, ℕ, suc, ◌+◌, ◌-◌, ◌*◌, ◌/◌, ◌≤◌, ◌<◌, length, get_or, drop, replicate, ◌⊎◌}
use Rattle.std.proofs.Math.Path.{sym, ap}
use Rattle.std.proofs.Common.{ap₂, ◌∙◌, subst, zero-mul, mul-zero, eq-zero-or-pos, add-one, arith, take-append-drop, drop-cons, inl, inr}
use mathlib.Core.List.{List, [], ◌∷◌, ◌++◌, append-nil}
use Rattle.std.proofs.Math.Nat.{mul-div_cancel_left, div-lt_iff_lt-mul}
use Rattle.std.proofs.Math.ListN.{take}
use Rattle.std.proofs.Math.Seq.{drop-length}
use Rattle.choices.specs.Moves.{members, total, decode, four}

pub record Mid (ss : List ℕ) (j p w rest : ℕ) (out : List ℕ) : Type 0 where
  pub long : length out ≡ 4
  pub weight : w ≡ total (drop p ss)
  pub below : rest < w
  pub parts : decode ss j ≡ take p out ++ decode (drop p ss) rest
  pub tail : drop p out ≡ replicate (4 - p) 0

pub start : (ss : List ℕ) (j w : ℕ) → w ≡ total ss → j < total ss → Mid ss j 0 w j (replicate 4 0)
start ss j w e h = record { long = refl; weight = e; below = omega arith; parts = refl; tail = refl }

pub end : (ss : List ℕ) (j w rest : ℕ) (out : List ℕ) → Mid ss j (length ss) w rest out → out ≡ decode ss j ++ replicate (4 - length ss) 0
unfolding decode
end ss j w rest out m =
    sym (take-append-drop (length ss) out)
    ∙ ap₂ (λ (a b : List ℕ). a ++ b)
    (sym (m.parts ∙ ap (λ (l : List ℕ). take (length ss) out ++ decode l rest) (drop-length ss) ∙ append-nil (take (length ss) out)))
    m.tail

module _ (ss : List ℕ) (j p w rest : ℕ) (out : List ℕ) (h : p < length ss) (four : length ss ≤ 4) (m : Mid ss j p w rest out) where
  -- the role's set, how many choices it has, and what the roles after it make
  abbrev s : ℕ
  s = get_or ss p 0

  abbrev n : ℕ
  n = length (members s)

  abbrev after : ℕ
  after = total (drop (p + 1) ss)

  split : drop p ss ≡ s ∷ drop (p + 1) ss
  split = drop-cons ss p 0 h ∙ ap (λ (k : ℕ). s ∷ drop k ss) (sym (add-one p))

  w_is : w ≡ n * after
  unfolding total
  w_is = m.weight ∙ ap total split

  -- each role has some choice
  pub some : 0 < length (members (get_or ss p 0))
  some = go (eq-zero-or-pos n)
    where
      go : (n ≡ 0) ⊎ (0 < n) → 0 < n
      go (inl z) = let e : w ≡ 0 = w_is ∙ ap (λ (x : ℕ). x * after) z ∙ zero-mul after in absurd (omega (arith, m.below))
      go (inr k) = k

  some_after : 0 < after
  some_after = go (eq-zero-or-pos after)
    where
      go : (after ≡ 0) ⊎ (0 < after) → 0 < after
      go (inl z) = let e : w ≡ 0 = w_is ∙ ap (λ (x : ℕ). n * x) z ∙ mul-zero n in absurd (omega (arith, m.below))
      go (inr k) = k

  weight_is : w / n ≡ after
  weight_is = ap (λ (x : ℕ). x / n) w_is ∙ mul-div_cancel_left after some

  -- and the digit of the role is one of them
  pub digit_low : rest / (w / length (members (get_or ss p 0))) < length (members (get_or ss p 0))
  digit_low =
      let e : rest / (w / n) ≡ rest / after = ap (λ (x : ℕ). rest / x) weight_is in
      let h : rest / after < n = (div-lt_iff_lt-mul some_after).1 (omega (arith, m.below, w_is)) in
      omega arith

  pub weight_pos : 0 < w / length (members (get_or ss p 0))
  weight_pos = subst (λ (x : ℕ). 0 < x) (sym weight_is) some_after

pub length_decode : (ss : List ℕ) (j : ℕ) → length (decode ss j) ≡ length ss
unfolding decode
length_decode [] j = refl
length_decode (s ∷ ss) j = ap suc (length_decode ss _)

-- with 0 for the roles that take no part
pub filled : (m : List ℕ) (n : ℕ) → length m ≡ n → n ≤ 4 → m ++ replicate (4 - n) 0 ≡ four m
filled [] n e h = ap (λ (k : ℕ). replicate (4 - k) 0) (sym e)
filled (a ∷ []) n e h = ap (λ (k : ℕ). a ∷ replicate (4 - k) 0) (sym e)
filled (a ∷ b ∷ []) n e h = ap (λ (k : ℕ). a ∷ b ∷ replicate (4 - k) 0) (sym e)
filled (a ∷ b ∷ c ∷ []) n e h = ap (λ (k : ℕ). a ∷ b ∷ c ∷ replicate (4 - k) 0) (sym e)
filled (a ∷ b ∷ c ∷ d ∷ []) n e h = ap (λ (k : ℕ). a ∷ b ∷ c ∷ d ∷ replicate (4 - k) 0) (sym e)
filled (a ∷ b ∷ c ∷ d ∷ f ∷ m) n e h = absurd (omega arith)

pub end_of : (ss : List ℕ) (j w rest : ℕ) (out : List ℕ) → length ss ≤ 4 → Mid ss j (length ss) w rest out → out ≡ four (decode ss j)
end_of ss j w rest out few m = end ss j w rest out m ∙ filled (decode ss j) (length ss) (length_decode ss j) few
