-- A joint move and its number: each is found again from the other.
use Prim.Native.Nat.{ℕ, zero, suc, ◌+◌, ◌-◌, ◌*◌, ◌/◌, ◌%◌, ◌^◌, ◌≤◌, ◌<◌, min}
use mathlib.Core.Path.{◌≡◌, refl, sym, ap, ap₂, ◌∙◌, subst}
use mathlib.Core.Bool.{Bool, true, false, false≢true}
use mathlib.Core.Logic.{◌⊎◌, inl, inr, ⊎_elim}
use mathlib.Core.List.{List, [], ◌∷◌}
use native.Mathlib.Nat.{not-suc-le-zero, le_of_suc-le-suc, mod-lt, div-add-mod', div-lt_iff_lt-mul, eq-zero-or-pos, mul-zero, zero-mul, mul-one, add-zero, suc-mul, mul_assoc, add-mul, mod-one, eq-or-lt_of_le, le_of_eq, le_refl, mul-le-mul, add_comm, zero-add, add-mul-div_right, add-mul-mod_self_right, div-eq_of_lt, mod-eq_of_lt}
use native.Mathlib.Omega.{arith}
use borrow.Author.Tests.{eqb-true, eq-eqb}
use lib.Count.{ones, ones_cat}
use lib.ListN.{length, get_or, take}
use lib.Pow.{mod-pow-add, pow_pos}
use Rattle.facts.specs.Bits.{bit, has}
use Rattle.facts.specs.Laws.{bit_cases}
use Rattle.meaning.specs.Lists.{◌∈◌}
use Rattle.meaning.proofs.Lists.{∈-at}
use Rattle.choices.specs.Moves.{cons_if, members_from, members, total, decode, rank, encode, four}
use Rattle.choices.specs.Decode.{length_decode}

ones_bit : (b r : ℕ) → (b ≡ 0) ⊎ (b ≡ 1) → ones b + r ≡ r + b
unfolding ones
ones_bit b r (inl e) = rw e (omega arith)
ones_bit b r (inr e) = rw e (omega arith)

module _ (n : ℕ) where
  -- one place more
  rank_next : (i : ℕ) → i < 16 → rank n (i + 1) ≡ rank n i + bit n i
  unfolding rank
  rank_next i h =
      let a : min (i + 1) 16 ≡ 1 + i = omega arith in
      let b : min i 16 ≡ i = omega arith in
      ap (λ (k : ℕ). ones (n % 2 ^ k)) a
      ∙ ap ones (mod-pow-add n 1 i)
      ∙ ones_cat i (bit n i) (n % 2 ^ i) (mod-lt n (pow_pos i))
      ∙ ones_bit (bit n i) (ones (n % 2 ^ i)) (bit_cases n i)
      ∙ sym (ap (λ (k : ℕ). ones (n % 2 ^ k) + bit n i) b)

  rank_yes : (i : ℕ) → i < 16 → has n i ≡ true → rank n (i + 1) ≡ rank n i + 1
  rank_yes i h e = rank_next i h ∙ ap (λ (b : ℕ). rank n i + b) (eqb-true (bit n i) 1 e)

  rank_no : (i : ℕ) → i < 16 → has n i ≡ false → rank n (i + 1) ≡ rank n i
  rank_no i h e = ⊎_elim
      (λ z. rank_next i h ∙ ap (λ (b : ℕ). rank n i + b) z ∙ add-zero (rank n i))
      (λ o. absurd (false≢true (sym e ∙ eq-eqb (bit n i) 1 o)))
      (bit_cases n i)

  rank_up : (d i : ℕ) → i + d ≤ 16 → rank n i ≤ rank n (i + d)
  rank_up zero i h = let e : i ≡ i + 0 = omega arith in le_of_eq (ap (rank n) e)
  rank_up (suc d) i h =
      let e : i + 1 + d ≡ i + suc d = omega arith in
      let s : rank n (i + 1 + d) ≡ rank n (i + suc d) = ap (rank n) e in
      omega (arith, rank_next i (omega arith), rank_up d (i + 1) (omega arith), s)

  -- the rank of the k-th member is k
  rank_from : (d i k : ℕ) → i + d ≤ 16 → k < length (members_from d i n) → rank n (get_or (members_from d i n) k 16) ≡ rank n i + k
  unfolding members_from
  rank_from zero i k h low = absurd (not-suc-le-zero low)
  rank_from (suc d) i k h low = go (has n i) refl (λ k. rank_from d (i + 1) k (omega arith)) k low
    where
      go : (t : Bool) → has n i ≡ t → ((k : ℕ) → k < length (members_from d (i + 1) n) → rank n (get_or (members_from d (i + 1) n) k 16) ≡ rank n (i + 1) + k)
          → (k : ℕ) → k < length (cons_if t i (members_from d (i + 1) n)) → rank n (get_or (cons_if t i (members_from d (i + 1) n)) k 16) ≡ rank n i + k
      go true e ih zero low = sym (add-zero (rank n i))
      go true e ih (suc k) low = ih k (le_of_suc-le-suc low) ∙ omega (arith, rank_yes i (omega arith) e)
      go false e ih k low = ih k low ∙ ap (λ (r : ℕ). r + k) (rank_no i (omega arith) e)

  -- and the member of a member's rank is that member
  from_rank : (d i k m : ℕ) → i + d ≤ 16 → i ≤ m → m < i + d → has n m ≡ true → rank n m ≡ rank n i + k
      → (k < length (members_from d i n)) × (get_or (members_from d i n) k 16 ≡ m)
  unfolding members_from
  from_rank zero i k m h a b e q = absurd (omega arith)
  from_rank (suc d) i k m h a b e q = go (has n i) refl k (eq-or-lt_of_le a) q (λ k p. from_rank d (i + 1) k m (omega arith) p (omega arith) e)
    where
      above : i < m → rank n (i + 1) ≤ rank n m
      above p = let s : i + 1 + (m - (i + 1)) ≡ m = omega arith in
          subst (λ (x : ℕ). rank n (i + 1) ≤ rank n x) s (rank_up (m - (i + 1)) (i + 1) (omega arith))

      go : (t : Bool) → has n i ≡ t → (k : ℕ) → (i ≡ m) ⊎ (i < m) → rank n m ≡ rank n i + k
          → ((k : ℕ) → i + 1 ≤ m → rank n m ≡ rank n (i + 1) + k → (k < length (members_from d (i + 1) n)) × (get_or (members_from d (i + 1) n) k 16 ≡ m))
          → (k < length (cons_if t i (members_from d (i + 1) n))) × (get_or (cons_if t i (members_from d (i + 1) n)) k 16 ≡ m)
      go true f zero (inl j) q ih = (omega arith, j)
      go true f zero (inr p) q ih = absurd (omega (arith, rank_yes i (omega arith) f, above p))
      go true f (suc k) (inl j) q ih = absurd (omega (arith, ap (rank n) j))
      go true f (suc k) (inr p) q ih = let (u, v) = ih k (omega arith) (omega (arith, rank_yes i (omega arith) f)) in (omega arith, v)
      go false f k (inl j) q ih = absurd (false≢true (sym f ∙ ap (has n) j ∙ e))
      go false f k (inr p) q ih = ih k (omega arith) (q ∙ ap (λ (r : ℕ). r + k) (sym (rank_no i (omega arith) f)))

  rank_none : rank n 0 ≡ 0
  unfolding rank ones
  rank_none = ap ones (mod-one n)

  rank_nth : (k : ℕ) → k < length (members n) → rank n (get_or (members n) k 16) ≡ k
  unfolding members
  rank_nth k low = rank_from 16 0 k (omega arith) low ∙ omega (arith, rank_none)

  nth_rank : (m : ℕ) → m < 16 → has n m ≡ true → (rank n m < length (members n)) × (get_or (members n) (rank n m) 16 ≡ m)
  unfolding members
  nth_rank m low e = from_rank 16 0 (rank n m) m (omega arith) (omega arith) low e (omega (arith, rank_none))

positive : (a b j : ℕ) → j < a * b → 0 < b
positive a b j h = ⊎_elim (λ z. absurd (omega (arith, rw (z, mul-zero) at h))) (λ k. k) (eq-zero-or-pos b)

digits : (r x T : ℕ) → x < T → ((r * T + x) / T ≡ r) × ((r * T + x) % T ≡ x)
digits r x T h =
    let pos : 0 < T = omega arith in (
      ap (λ (y : ℕ). y / T) (add_comm (r * T) x) ∙ add-mul-div_right x r pos ∙ ap (λ (y : ℕ). y + r) (div-eq_of_lt h) ∙ zero-add r,
      ap (λ (y : ℕ). y % T) (add_comm (r * T) x) ∙ add-mul-mod_self_right x r T ∙ mod-eq_of_lt h,
    )

-- what was carried so far counts for each joint move of the rest
encode_from : (ss ms : List ℕ) (n : ℕ) → length ms ≡ length ss → encode ss ms n ≡ n * total ss + encode ss ms 0
unfolding encode total
encode_from [] ms n e = omega (arith, mul-one n)
encode_from (s ∷ ss) [] n e = absurd (omega arith)
encode_from (s ∷ ss) (m ∷ ms) n e =
    let c = length (members s) in
    let long : length ms ≡ length ss = omega arith in
    let zero_first : 0 * c + rank s m ≡ rank s m = omega (arith, zero-mul c) in
    let all : (n * c + rank s m) * total ss ≡ n * (c * total ss) + rank s m * total ss = add-mul (n * c) (rank s m) (total ss) ∙ ap (λ (x : ℕ). x + rank s m * total ss) (mul_assoc n c (total ss)) in
    encode_from ss ms (n * c + rank s m) long
    ∙ omega (arith, all, encode_from ss ms (0 * c + rank s m) long, ap (λ (x : ℕ). x * total ss) zero_first)

-- The number of joint move j is j.
pub encode_decode : (ss : List ℕ) (j : ℕ) → j < total ss → encode ss (decode ss j) 0 ≡ j
unfolding encode decode total
encode_decode [] j h = omega arith
encode_decode (s ∷ ss) j h =
    let T = total ss in
    let c = length (members s) in
    let pos : 0 < T = positive c T j h in
    let q : rank s (get_or (members s) (j / T) 16) ≡ j / T = rank_nth s (j / T) ((div-lt_iff_lt-mul pos).1 h) in
    let first : 0 * c + rank s (get_or (members s) (j / T) 16) ≡ j / T = omega (arith, q, zero-mul c) in
    encode_from ss (decode ss (j % T)) (0 * c + rank s (get_or (members s) (j / T) 16)) (length_decode ss (j % T))
    ∙ ap₂ (λ (x y : ℕ). x * T + y) first (encode_decode ss (j % T) (mod-lt j pos))
    ∙ div-add-mod' j T

-- Each role's move is one of its choices.
pub data Chosen : List ℕ → List ℕ → Type 0 where
  none : Chosen [] []
  one : {s m : ℕ} {ss ms : List ℕ} → m < 16 → has s m ≡ true → Chosen ss ms → Chosen (s ∷ ss) (m ∷ ms)

chosen_long : (ss ms : List ℕ) → Chosen ss ms → length ms ≡ length ss
chosen_long (s ∷ ss) [] x3 = elim x3 [ ]
chosen_long [] (m ∷ ms) x'' = elim x'' [ ]
chosen_long [] [] none = refl
chosen_long (s ∷ ss) (m ∷ ms) (one a b c) = ap suc (chosen_long ss ms c)

-- The joint move of its number is the joint move.
pub decode_encode : (ss ms : List ℕ) → Chosen ss ms → (encode ss ms 0 < total ss) × (decode ss (encode ss ms 0) ≡ ms)
unfolding encode decode total
decode_encode (s ∷ ss) [] x3 = elim x3 [ ]
decode_encode [] (m ∷ ms) x'' = elim x'' [ ]
decode_encode [] [] none = (omega arith, refl)
decode_encode (s ∷ ss) (m ∷ ms) (one low in_set rest) =
    let T = total ss in
    let c = length (members s) in
    let r = rank s m in
    let (u, v) = nth_rank s m low in_set in
    let (a, b) = decode_encode ss ms rest in
    let e : encode ss ms (0 * c + r) ≡ r * T + encode ss ms 0 = encode_from ss ms (0 * c + r) (chosen_long ss ms rest) ∙ ap (λ (x : ℕ). x * T + encode ss ms 0) (omega (arith, zero-mul c)) in
    let (p, q) = digits r (encode ss ms 0) T a in
    let room : suc r * T ≤ c * T = mul-le-mul u (le_refl T) in (
      omega (arith, e, a, suc-mul r T, room),
      ap (λ (n : ℕ). get_or (members s) (n / T) 16 ∷ decode ss (n % T)) e
          ∙ ap₂ (λ (k n : ℕ). get_or (members s) k 16 ∷ decode ss n) p q
          ∙ ap₂ ◌∷◌ v b,
    )

-- Four roles' moves, with 0 for those that take no part, hold the joint move that they were filled from.
pub take_four : (m : List ℕ) (n : ℕ) → length m ≡ n → n ≤ 4 → take n (four m) ≡ m
take_four [] n e h = ap (λ (k : ℕ). take k (four [])) (sym e)
take_four (a ∷ []) n e h = ap (λ (k : ℕ). take k (four (a ∷ []))) (sym e)
take_four (a ∷ b ∷ []) n e h = ap (λ (k : ℕ). take k (four (a ∷ b ∷ []))) (sym e)
take_four (a ∷ b ∷ c ∷ []) n e h = ap (λ (k : ℕ). take k (four (a ∷ b ∷ c ∷ []))) (sym e)
take_four (a ∷ b ∷ c ∷ d ∷ []) n e h = ap (λ (k : ℕ). take k (four (a ∷ b ∷ c ∷ d ∷ []))) (sym e)
take_four (a ∷ b ∷ c ∷ d ∷ f ∷ m) n e h = absurd (omega arith)

-- A joint move of the list stands there at its number.
pub number_is : (l : List (List ℕ)) (ss : List ℕ) → length l ≡ total ss → ((j : ℕ) → j < total ss → get_or l j [] ≡ decode ss j)
    → (m : List ℕ) → m ∈ l → (encode ss m 0 < length l) × (get_or l (encode ss m 0) [] ≡ m)
number_is l ss long at m h =
    let (j, low, e) = ∈-at m l [] h in
    let below : j < total ss = subst (λ (n : ℕ). j < n) long low in
    let q : encode ss m 0 ≡ j = ap (λ (n : List ℕ). encode ss n 0) (sym e ∙ at j below) ∙ encode_decode ss j below in
    (subst (λ (n : ℕ). n < length l) (sym q) low, ap (λ (n : ℕ). get_or l n []) q ∙ e)
