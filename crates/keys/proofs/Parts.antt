-- The laws of kinds: which moves a role has, which roles a set of moves names, and that a part of a joint move is what the joint move has of the roles that the part names.
use Prim.Native.Nat.{ℕ, zero, suc, ◌+◌, ◌-◌, ◌*◌, ◌/◌, ◌%◌, ◌^◌, ◌≤◌, ◌<◌}
use mathlib.Core.Path.{◌≡◌, refl, sym, ap, ◌∙◌, subst}
use mathlib.Core.Bool.{Bool, true, false, cond}
use mathlib.Core.Logic.{⊎_elim}
use mathlib.Core.List.{List}
use native.Mathlib.Omega.{arith}
use lib.Bits.{bit_and, bit_or, and_shifted}
use lib.Dec.{eqb, ltb}
use lib.ListN.{get_or}
use lib.Pow.{pow_pos, pow-lt}
use borrow.Author.Tests.{eqb-true, eqb-false, ltb-true}
use Rattle.facts.specs.Bits.{bit, has, insert}
use Rattle.facts.specs.Laws.{bit-and, bit_none, bit_full, bit_shift, bit_beyond, and_pow}
use Rattle.facts.specs.Sets.{◌∈◌, ◌∉◌, ◌⊆◌, decide, not_both, le_or_lt, same_bit, same_set, width_of, insert_new, insert_old, insert_cases, or_cases, or_left, or_right}
use Rattle.sheet.specs.Limits.{most_moves}
use Rattle.codes.specs.Codes.{made_by, joint_of}
use Rattle.keys.specs.Keys.{most_roles, kind_room, own_moves, named_in, kind_of, moves_in, mask_of}

-- ---- the moves of a role
-- Each of the sixteen is there.
pub own_has : (role m : ℕ) → m < most_moves → most_moves * role + m ∈ own_moves role
unfolding own_moves
own_has role m h = bit_shift (2 ^ most_moves - 1) (most_moves * role) m ∙ bit_full most_moves m h

-- As the code has them.
pub own_shifted : (role : ℕ) → role < 4 → (2 ^ most_moves - 1) * 2 ^ (most_moves * role) % 2 ^ 64 ≡ own_moves role
unfolding own_moves
own_shifted zero h = refl
own_shifted (suc zero) h = refl
own_shifted (suc (suc zero)) h = refl
own_shifted (suc (suc (suc zero))) h = refl
own_shifted (suc (suc (suc (suc role)))) h = absurd (omega arith)

-- What is shifted by k has no digit below k.
shifted_none : (n k i : ℕ) → i < k → i ∉ (n * 2 ^ k)
shifted_none n k i h = ⊎_elim
    (λ e. absurd (omega (arith, pow_pos i, sym (and_pow (n * 2 ^ k) i) ∙ and_shifted n k (2 ^ i) (pow-lt h), ap (λ (b : ℕ). b * 2 ^ i) e)))
    (λ e. e)
    (decide i (n * 2 ^ k))

-- A move that is there is none of a lower role's.
pub own_above : (role i : ℕ) → i ∈ own_moves role → most_moves * role ≤ i
unfolding own_moves
own_above role i h = ⊎_elim
    (λ l. l)
    (λ l. absurd (not_both i (own_moves role) h (shifted_none (2 ^ most_moves - 1) (most_moves * role) i l)))
    (le_or_lt (most_moves * role) i)

-- A move that is there is none of a higher role's.
pub own_below : (role i : ℕ) → i ∈ own_moves role → i < most_moves * role + most_moves
unfolding own_moves
own_below role i h = ⊎_elim
    (λ l. absurd (not_both i (own_moves role) h (beyond (i - most_moves * role) (omega arith) (omega arith))))
    (λ l. l)
    (le_or_lt (most_moves * role + most_moves) i)
  where
    beyond : (j : ℕ) → i ≡ most_moves * role + j → most_moves ≤ j → i ∉ own_moves role
    beyond j e l =
        ap (bit (own_moves role)) e
        ∙ bit_shift (2 ^ most_moves - 1) (most_moves * role) j
        ∙ bit_beyond most_moves (2 ^ most_moves - 1) j (omega arith) l

-- Whatever is none of a lower or a higher role's is there.
pub own_between : (role i : ℕ) → most_moves * role ≤ i → i < most_moves * role + most_moves → i ∈ own_moves role
own_between role i l h = subst (λ (j : ℕ). j ∈ own_moves role) (omega arith) (own_has role (i - most_moves * role) (omega arith))

-- The role of a move is its place by sixteen.
own_role : (role i : ℕ) → i ∈ own_moves role → i / most_moves ≡ role
own_role role i h = omega (arith, own_above role i h, own_below role i h)

-- A move is one of that role's.
role_own : (i : ℕ) → i ∈ own_moves (i / most_moves)
role_own i = own_between (i / most_moves) i (omega arith) (omega arith)

-- ---- the roles that a set of moves names
-- Two sets without a common member meet in nothing.
apart : (a b : ℕ) → ((i : ℕ) → i ∈ a → i ∈ b → ⊥) → bit_and a b ≡ 0
apart a b f = same_set (bit_and a b) 0 (λ i. same_bit (bit_and a b) 0 i
    (λ h. absurd (f i (omega (arith, bit-and a b i)) (omega (arith, bit-and a b i))))
    (λ h. absurd (not_both i 0 h (bit_none i))))

-- A role that is named is below the bound, and has a move in the set.
named_in_lem : (d n r : ℕ) → r ∈ named_in d n → (r < n) × (bit_and (own_moves r) d ≡ 0 → ⊥)
unfolding named_in
named_in_lem d zero r h = absurd (not_both r 0 h (bit_none r))
named_in_lem d (suc n) r h = go (λ k. let old = named_in_lem d n r k in (omega (arith, old.0), old.1)) (eqb (bit_and (own_moves n) d) 0) refl h
  where
    go : (r ∈ named_in d n → (r < suc n) × (bit_and (own_moves r) d ≡ 0 → ⊥))
        → (t : Bool) → eqb (bit_and (own_moves n) d) 0 ≡ t → r ∈ cond t (named_in d n) (insert (named_in d n) n) → (r < suc n) × (bit_and (own_moves r) d ≡ 0 → ⊥)
    go old true e k = old k
    go old false e k = ⊎_elim old
        (λ q. (omega (arith, q), λ z. eqb-false (bit_and (own_moves n) d) 0 e (ap (λ (x : ℕ). bit_and (own_moves x) d) (sym q) ∙ z)))
        (insert_cases (named_in d n) n r k)

-- What is below a successor, and not the number itself, is below the number.
lower : {r n : ℕ} → r < suc n → (r ≡ n → ⊥) → r < n
lower h q = omega arith

-- A role below the bound that has a move in the set is named.
named_has : (d n r : ℕ) → r < n → (bit_and (own_moves r) d ≡ 0 → ⊥) → r ∈ named_in d n
unfolding named_in
named_has d zero r h f = absurd (omega arith)
named_has d (suc n) r h f = go (λ l. named_has d n r l f) (eqb (bit_and (own_moves n) d) 0) (eqb r n) refl refl
  where
    go : (r < n → r ∈ named_in d n) → (t u : Bool) → eqb (bit_and (own_moves n) d) 0 ≡ t → eqb r n ≡ u → r ∈ cond t (named_in d n) (insert (named_in d n) n)
    go old true true e q = absurd (f (ap (λ (x : ℕ). bit_and (own_moves x) d) (eqb-true r n q) ∙ eqb-true (bit_and (own_moves n) d) 0 e))
    go old false true e q = subst (λ (x : ℕ). x ∈ insert (named_in d n) n) (sym (eqb-true r n q)) (insert_new (named_in d n) n)
    go old true false e q = old (lower h (eqb-false r n q))
    go old false false e q = insert_old (named_in d n) n r (old (lower h (eqb-false r n q)))

-- A kind is one of the sixteen.
pub kind_low : (d : ℕ) → kind_of d < kind_room
kind_low d = width_of most_roles (kind_of d) (λ r h. (named_in_lem d most_roles r h).0)

-- ---- the moves of a set of roles
-- A move that is there is of a role below the bound that is in the set.
moves_in_lem : (k n i : ℕ) → i ∈ moves_in k n → (i / most_moves < n) × (i / most_moves ∈ k)
unfolding moves_in
moves_in_lem k zero i h = absurd (not_both i 0 h (bit_none i))
moves_in_lem k (suc n) i h = go (λ l. let old = moves_in_lem k n i l in (omega (arith, old.0), old.1)) (has k n) refl h
  where
    go : (i ∈ moves_in k n → (i / most_moves < suc n) × (i / most_moves ∈ k))
        → (t : Bool) → has k n ≡ t → i ∈ cond t (bit_or (moves_in k n) (own_moves n)) (moves_in k n) → (i / most_moves < suc n) × (i / most_moves ∈ k)
    go old true e l = ⊎_elim old
        (λ o. (omega (arith, own_role n i o), ap (bit k) (own_role n i o) ∙ eqb-true (bit k n) 1 e))
        (or_cases (moves_in k n) (own_moves n) i l)
    go old false e l = old l

-- All moves are there of a role below the bound that is in the set.
moves_has : (k n i : ℕ) → i / most_moves < n → i / most_moves ∈ k → i ∈ moves_in k n
unfolding moves_in
moves_has k zero i h m = absurd (omega arith)
moves_has k (suc n) i h m = go (λ l. moves_has k n i l m) (has k n) (eqb (i / most_moves) n) refl refl
  where
    go : (i / most_moves < n → i ∈ moves_in k n) → (t u : Bool) → has k n ≡ t → eqb (i / most_moves) n ≡ u → i ∈ cond t (bit_or (moves_in k n) (own_moves n)) (moves_in k n)
    go old true true e q = or_right (moves_in k n) (own_moves n) i (subst (λ (r : ℕ). i ∈ own_moves r) (eqb-true (i / most_moves) n q) (role_own i))
    go old false true e q = absurd (eqb-false (bit k n) 1 e (ap (bit k) (sym (eqb-true (i / most_moves) n q)) ∙ m))
    go old true false e q = or_left (moves_in k n) (own_moves n) i (old (lower h (eqb-false (i / most_moves) n q)))
    go old false false e q = old (lower h (eqb-false (i / most_moves) n q))

-- ---- the moves of a joint move
module _ (m : List ℕ) where
  -- Place i is that of the move that its role makes.
  abbrev Made : ℕ → Type 0
  Made i = (i / most_moves < most_roles) × (i ≡ most_moves * (i / most_moves) + get_or m (i / most_moves) 0)

  -- One role's move more is such a place.
  made_more : (r x : ℕ) → r < most_roles → ((i : ℕ) → i ∈ x → Made i) → (i : ℕ) → i ∈ made_by r (get_or m r 0) x → Made i
  made_more r x few f i = go (ltb (get_or m r 0) most_moves) refl
    where
      go : (t : Bool) → ltb (get_or m r 0) most_moves ≡ t → i ∈ cond t (insert x (most_moves * r + get_or m r 0)) x → Made i
      go true e h = ⊎_elim (f i)
          (λ q.
          let role : i / most_moves ≡ r = omega (arith, ltb-true (get_or m r 0) most_moves e) in
          (omega arith, q ∙ ap (λ (s : ℕ). most_moves * s + get_or m s 0) (sym role)))
          (insert_cases x (most_moves * r + get_or m r 0) i h)
      go false e h = f i h

  -- A joint move has nothing but the moves that its roles make.
  joint_made : (i : ℕ) → i ∈ joint_of m → Made i
  unfolding joint_of
  joint_made = made_more 3 _ (omega arith) (made_more 2 _ (omega arith) (made_more 1 _ (omega arith) (made_more 0 0 (omega arith)
      (λ i h. absurd (not_both i 0 h (bit_none i))))))

  -- It has at most one move of each role.
  joint_one : (i j : ℕ) → i ∈ joint_of m → j ∈ joint_of m → i / most_moves ≡ j / most_moves → i ≡ j
  joint_one i j h k e = (joint_made i h).1 ∙ ap (λ (s : ℕ). most_moves * s + get_or m s 0) e ∙ sym (joint_made j k).1

  -- It has moves of the four roles only.
  joint_role : (i : ℕ) → i ∈ joint_of m → i / most_moves < most_roles
  joint_role i h = (joint_made i h).0

-- A part of a joint move is what the joint move has of the roles that the part names.
pub part_is : (d : ℕ) (m : List ℕ) → d ⊆ joint_of m → bit_and (mask_of (kind_of d)) (joint_of m) ≡ d
part_is d m f = same_set meet d (λ i. same_bit meet d i
    (λ h. inside i (omega (arith, bit-and mask (joint_of m) i)) (omega (arith, bit-and mask (joint_of m) i)))
    (λ h. omega (arith, bit-and mask (joint_of m) i, masked i h, f i h)))
  where
    mask : ℕ
    mask = mask_of (kind_of d)

    meet : ℕ
    meet = bit_and mask (joint_of m)

    -- A move of the part is one of the roles that it names.
    masked : (i : ℕ) → i ∈ d → i ∈ mask
    masked i h =
        let few : i / most_moves < most_roles = joint_role m i (f i h) in
        moves_has (kind_of d) most_roles i few (named_has d most_roles (i / most_moves) few
        (λ e. not_both i 0 (ap (λ (x : ℕ). bit x i) (sym e) ∙ omega (arith, bit-and (own_moves (i / most_moves)) d i, role_own i)) (bit_none i)))

    -- A move of a role that the part names is in the part, which has a move of that role, and there is one only.
    inside : (i : ℕ) → i ∈ mask → i ∈ joint_of m → i ∈ d
    inside i h k = ⊎_elim
        (λ l. l)
        (λ l. absurd ((named_in_lem d most_roles (i / most_moves) (moves_in_lem (kind_of d) most_roles i h).1).1
        (apart (own_moves (i / most_moves)) d (λ j o p. not_both i d (subst (λ (x : ℕ). x ∈ d) (joint_one m j i (f j p) k (own_role (i / most_moves) j o)) p) l))))
        (decide i d)
