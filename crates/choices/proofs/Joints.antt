-- The joint moves of the meaning, by number: the list has as many as the product says, and the code's joint move j is the j-th.
use Prim.Native.Nat.{ℕ, zero, suc, ◌*◌, ◌/◌, ◌%◌, ◌<◌, suc-le-suc, zero-le}
use mathlib.Core.Path.{◌≡◌, refl, sym, ap, ap₂, ◌∙◌, subst}
use mathlib.Core.List.{List, [], ◌∷◌, map}
use mathlib.Core.Logic.{inl, inr, ⊎_elim}
use native.Mathlib.Nat.{not-suc-le-zero, le_of_suc-le-suc, eq-zero-or-pos}
use native.Mathlib.Omega.{arith}
use lib.ListN.{length, get_or}
use lib.Seq.{ext_get_or}
use Rattle.meaning.specs.Lists.{◌∈◌, all}
use Rattle.meaning.specs.Rules.{joints}
use Rattle.meaning.specs.Radix.{product, digit, counts}
use Rattle.meaning.proofs.Lists.{at_∈, map_∈, all_∈}
use Rattle.meaning.proofs.Joints.{joint_legal, joint_some}
use Rattle.meaning.proofs.Radix.{length_joints, joint_digit}
use Rattle.choices.specs.Moves.{members, total, decode}
use Rattle.choices.specs.Decode.{length_decode}

-- only the lists of the roles that take part matter
pub joints_same : (n : ℕ) (c e : ℕ → List ℕ) → ((r : ℕ) → r < n → c r ≡ e r) → joints n c ≡ joints n e
unfolding joints
joints_same zero c e h = refl
joints_same (suc n) c e h =
    ap₂ (λ (js : List (List ℕ)) (ms : List ℕ). all (λ m. map (λ l. m ∷ l) js) ms)
    (joints_same n (λ r. c (suc r)) (λ r. e (suc r)) (λ r k. h (suc r) (suc-le-suc k))) (h 0 (suc-le-suc zero-le))

joint_length : (n : ℕ) (c : ℕ → List ℕ) (m : List ℕ) → m ∈ joints n c → length m ≡ n
unfolding joints
joint_length zero c m (inr x'') = elim x'' [ ]
joint_length zero c m (inl e) = ap length e
joint_length (suc n) c m h =
    let (x, i, q) = all_∈ (λ x. map (λ l. x ∷ l) (joints n (λ r. c (suc r)))) m (c 0) h in
    let (k, j, e) = map_∈ (λ l. x ∷ l) m (joints n (λ r. c (suc r))) q in
    ap length e ∙ ap suc (joint_length n (λ r. c (suc r)) k j)

-- the sets of the roles, as the meaning's lists
abbrev pub offered : List ℕ → ℕ → List ℕ
offered ss r = members (get_or ss r 0)

total_product : (ss : List ℕ) → total ss ≡ product (counts (length ss) (offered ss))
unfolding total product
total_product [] = refl
total_product (s ∷ ss) = ap (λ (x : ℕ). length (members s) * x) (total_product ss)

get_or_either : (l : List ℕ) (k a b : ℕ) → k < length l → get_or l k a ≡ get_or l k b
get_or_either [] k a b h = absurd (not-suc-le-zero h)
get_or_either (x ∷ l) zero a b h = refl
get_or_either (x ∷ l) (suc k) a b h = get_or_either l k a b (le_of_suc-le-suc h)

decode_digit : (ss : List ℕ) (j r : ℕ) → r < length ss → get_or (decode ss j) r 0 ≡ get_or (offered ss r) (digit (counts (length ss) (offered ss)) j r) 16
unfolding decode digit
decode_digit [] j r h = absurd (not-suc-le-zero h)
decode_digit (s ∷ ss) j zero h = ap (λ (x : ℕ). get_or (members s) (j / x) 16) (total_product ss)
decode_digit (s ∷ ss) j (suc r) h =
    decode_digit ss (j % total ss) r (le_of_suc-le-suc h)
    ∙ ap (λ (x : ℕ). get_or (offered ss r) (digit (counts (length ss) (offered ss)) (j % x) r) 16) (total_product ss)

module _ (ss : List ℕ) (j : ℕ) (h : j < total ss) where
  abbrev n : ℕ
  n = length ss

  abbrev c : ℕ → List ℕ
  c = offered ss

  low : j < product (counts n c)
  low = subst (λ (x : ℕ). j < x) (total_product ss) h

  long : length (get_or (joints n c) j []) ≡ n
  long = joint_length n c (get_or (joints n c) j []) (at_∈ (joints n c) j [] (subst (λ (x : ℕ). j < x) (sym (length_joints n c)) low))

  at : (r : ℕ) → r < n → get_or (get_or (joints n c) j []) r 0 ≡ get_or (decode ss j) r 0
  at r k =
      let (u, e) = joint_digit n c j low r k in
      e ∙ get_or_either (c r) (digit (counts n c) j r) 0 16 u ∙ sym (decode_digit ss j r k)

  decoded : get_or (joints n c) j [] ≡ decode ss j
  decoded = ext_get_or 0 (get_or (joints n c) j []) (decode ss j) (long ∙ sym (length_decode ss j)) (λ r k. at r (subst (λ (x : ℕ). r < x) long k))

-- For roles whose moves are the members of the sets ss:
module _ (n : ℕ) (c : ℕ → List ℕ) (ss : List ℕ) (few : length ss ≡ n) (same : (r : ℕ) → r < n → c r ≡ members (get_or ss r 0)) where
  list_is : joints n c ≡ joints (length ss) (offered ss)
  list_is = joints_same n c (offered ss) same ∙ ap (λ (k : ℕ). joints k (offered ss)) (sym few)

  -- there are as many joint moves as the product says
  pub joints_count : length (joints n c) ≡ total ss
  joints_count = ap length list_is ∙ length_joints (length ss) (offered ss) ∙ sym (total_product ss)

  -- and joint move j is the one of that number
  pub joints_at : (j : ℕ) → j < total ss → get_or (joints n c) j [] ≡ decode ss j
  joints_at j h = ap (λ (l : List (List ℕ)). get_or l j []) list_is ∙ decoded ss j h

-- There is no joint move exactly where some role has no choice.
pub none_left : (n : ℕ) (c : ℕ → List ℕ) → length (joints n c) ≡ 0 → (r : ℕ) × (r < n) × (length (c r) ≡ 0)
unfolding joints
none_left n c h = go n c (λ some. absurd (omega (arith, joint_some n c some)))
  where
    go : (n : ℕ) (c : ℕ → List ℕ) → (((r : ℕ) → r < n → 0 < length (c r)) → ⊥) → (r : ℕ) × (r < n) × (length (c r) ≡ 0)
    go zero c f = absurd (f (λ r k. absurd (not-suc-le-zero k)))
    go (suc n) c f = ⊎_elim
        (λ z. (0, suc-le-suc zero-le, z))
        (λ p. let (r, k, e) = go n (λ r. c (suc r)) (λ some. f (with p some)) in (suc r, suc-le-suc k, e))
        (eq-zero-or-pos (length (c 0)))
      where
        with : 0 < length (c 0) → ((r : ℕ) → r < n → 0 < length (c (suc r))) → (r : ℕ) → r < suc n → 0 < length (c r)
        with p some zero k = p
        with p some (suc r) k = some r (le_of_suc-le-suc k)

empty_one : (l : List ℕ) → length l ≡ 0 → (x : ℕ) → x ∈ l → ⊥
empty_one [] e x m = m
empty_one (y ∷ l) e x m = absurd (omega arith)

pub left_none : (n : ℕ) (c : ℕ → List ℕ) (r : ℕ) → r < n → length (c r) ≡ 0 → length (joints n c) ≡ 0
left_none n c r k e = go (joints n c) (λ m i. empty_one (c r) e (get_or m r 0) (joint_legal n c m i r k))
  where
    go : (l : List (List ℕ)) → ((m : List ℕ) → m ∈ l → ⊥) → length l ≡ 0
    go [] f = refl
    go (m ∷ l) f = absurd (f m (inl refl))
