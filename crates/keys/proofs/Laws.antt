-- The laws of the functions of `keys`: one for each way that the code returns, and those of its loops.
use Prim.Native.Nat.{ℕ, zero, suc, ◌+◌, ◌%◌, ◌≤◌, ◌<◌}
use mathlib.Core.Path.{◌≡◌, refl, sym, ap, ap₂, ◌∙◌, subst}
use mathlib.Core.Bool.{Bool, true, false, cond}
use mathlib.Core.Logic.{◌⊎◌, inl, inr, ⊎_elim}
use mathlib.Core.List.{List, [], ◌∷◌, ◌++◌, append-nil}
use native.Mathlib.Numerals.{add-one}
use native.Mathlib.Omega.{arith}
use lib.Bits.{bit_and, bit_or}
use lib.Dec.{eqb}
use lib.ListN.{get_or, length, take, drop, set, replicate, length-set, length-append, length-drop, length-replicate, get_or-append, get_or-replicate}
use lib.Seq.{take-suc-set, length-take-le, get_or-set_same, get_or-set_other, get_or_at}
use borrow.Author.Tests.{eqb-true, eqb-false, le-ltb}
use Rattle.facts.specs.Bits.{has, insert}
use Rattle.facts.specs.Sets.{le_or_lt}
use Rattle.rules.specs.Rules.{over}
use Rattle.meaning.specs.Lists.{place}
use Rattle.meaning.specs.Filling.{grown}
use Rattle.lookup.specs.Tree.{Treed, Enrolled}
use Rattle.lookup.specs.declared.Tree.{Tree}
use Rattle.lookup.proofs.Place.{place_le, place_here}
use Rattle.lookup.proofs.Seeking.{place_own}
use Rattle.codes.specs.Codes.{calm, made_by, joint_of}
use Rattle.codes.specs.Table.{sets_in, member_in}
use Rattle.keys.specs.declared.Keys.{Keys}
use Rattle.keys.specs.Keys.{alive, tested, picked_by, most_roles, own_moves, named_in, moves_in, key_of, hint_room, Hinted, keys_in, Findable, Housed, gift_room, gift_of, Gathered, given}

-- ---- sets of moves
-- The moves of the roles below r, as a set.
abbrev pub made_below : List ℕ → ℕ → ℕ
made_below m zero = 0
made_below m (suc r) = made_by r (get_or m r 0) (made_below m r)

-- Those of all roles.
pub made_all : (m : List ℕ) → made_below m most_roles ≡ joint_of m
unfolding joint_of
made_all m = refl

-- Before the first role no role is named; one role more is named or not.
module _ (d : ℕ) where
  pub named_none : named_in d 0 ≡ 0
  unfolding named_in
  named_none = refl

  pub named_more : (r : ℕ) → named_in d (r + 1) ≡ cond (eqb (bit_and (own_moves r) d) 0) (named_in d r) (insert (named_in d r) r)
  unfolding named_in
  named_more r = ap (named_in d) (add-one r)

-- The same for the moves of the roles of a kind.
module _ (kind : ℕ) where
  pub moves_none : moves_in kind 0 ≡ 0
  unfolding moves_in
  moves_none = refl

  pub moves_more : (r : ℕ) → moves_in kind (r + 1) ≡ cond (has kind r) (bit_or (moves_in kind r) (own_moves r)) (moves_in kind r)
  unfolding moves_in
  moves_more r = ap (moves_in kind) (add-one r)

-- ---- a key comes in
-- There are n keys.
pub keys_count : {keys tests forks : List ℕ} {n : ℕ} → Treed keys n tests forks → length (take n keys) ≡ n
keys_count {keys} {n = n} t = length-take-le n keys t.inside

-- A place is no higher than their number.
pub at_low : (key : ℕ) {keys tests forks : List ℕ} {n at : ℕ} → Treed keys n tests forks → at ≡ place key (take n keys) → at ≤ n
at_low key {keys} {n = n} t e = omega (arith, place_le key (take n keys), keys_count t)

-- Where there is no hint, there is no such key.
pub find_none : (key : ℕ) {keys tests forks hints : List ℕ} {n low hint : ℕ} → Treed keys n tests forks → Hinted (take n keys) hints → low ≡ key % hint_room → hint ≡ get_or hints low 0 → hint ≡ 0
    → n ≡ place key (take n keys)
find_none key {keys} {hints = hints} {n} t f p e z = ⊎_elim
    (λ h. omega (arith, place_le key (take n keys), keys_count t))
    (λ h.
    let inside : place key (take n keys) < length (take n keys) = omega (arith, keys_count t) in
    absurd (f.there (place key (take n keys)) inside (ap (λ (x : ℕ). get_or hints (x % hint_room) 0) (place_here key (take n keys) inside) ∙ sym (ap (λ (i : ℕ). get_or hints i 0) p) ∙ sym e ∙ z)))
    (le_or_lt n (place key (take n keys)))

-- A hint names a key.
pub hint_low : {keys tests forks hints : List ℕ} {n hint : ℕ} (h : ℕ) → Treed keys n tests forks → Hinted (take n keys) hints → hint ≡ get_or hints h 0 → hint ≤ n
hint_low h t f e = omega (arith, f.low h, keys_count t)

-- If it is the one that is looked for, its place is found.
pub find_here : (key : ℕ) {keys tests forks : List ℕ} {n at : ℕ} → Treed keys n tests forks → at < n → get_or keys at 0 ≡ key → at ≡ place key (take n keys)
find_here key {keys} {n = n} {at} t h e = sym (ap (λ (x : ℕ). place x (take n keys)) (sym e) ∙ place_own t at h)

-- One hint more.
hinted_more : {keys hints : List ℕ} (key : ℕ) → Hinted keys hints → Hinted (keys ++ (key ∷ [])) (set hints (key % hint_room) (length keys + 1))
hinted_more {keys} {hints} key f = record {
  there = λ i h. there i h (le_or_lt (length keys) i);
  low = λ h. low h (eqb h at) refl;
  hints_long = length-set hints at more ∙ f.hints_long;
}
  where
    at : ℕ
    at = key % hint_room

    more : ℕ
    more = length keys + 1

    room : at < length hints
    room = omega (arith, f.hints_long)

    -- A hint that is there stays there.
    still : (h : ℕ) (t : Bool) → eqb h at ≡ t → (get_or hints h 0 ≡ 0 → ⊥) → get_or (set hints at more) h 0 ≡ 0 → ⊥
    still h true q n z = omega (arith, ap (λ (i : ℕ). get_or (set hints at more) i 0) (sym (eqb-true h at q)), get_or-set_same hints at more 0 room)
    still h false q n z = n (sym (get_or-set_other hints at h more 0 (eqb-false h at q)) ∙ z)

    there : (i : ℕ) → i < length (keys ++ (key ∷ [])) → (length keys ≤ i) ⊎ (i < length keys) → get_or (set hints at more) (get_or (keys ++ (key ∷ [])) i 0 % hint_room) 0 ≡ 0 → ⊥
    there i h (inl l) z =
        let e : length keys ≡ i = omega (arith, length-append keys (key ∷ [])) in
        omega (arith, get_or-set_same hints at more 0 room, ap (λ (x : ℕ). get_or (set hints at more) (x % hint_room) 0) (sym (get_or_at keys key [] 0 i e)))
    there i h (inr l) z =
        let same : get_or (keys ++ (key ∷ [])) i 0 ≡ get_or keys i 0 = get_or-append keys (key ∷ []) 0 i l in
        let h : ℕ = get_or keys i 0 % hint_room in
        still h (eqb h at) refl (f.there i l) (ap (λ (x : ℕ). get_or (set hints at more) (x % hint_room) 0) (sym same) ∙ z)

    low : (h : ℕ) (t : Bool) → eqb h at ≡ t → get_or (set hints at more) h 0 ≤ length (keys ++ (key ∷ []))
    low h true q =
        omega (arith, ap (λ (i : ℕ). get_or (set hints at more) i 0) (eqb-true h at q), get_or-set_same hints at more 0 room, length-append keys (key ∷ []))
    low h false q = omega (arith, get_or-set_other hints at h more 0 (eqb-false h at q), f.low h, length-append keys (key ∷ []))

module _ {table : List ℕ} {k : Keys} (f : Findable table k) (key c : ℕ) (homes : List ℕ) where
  -- The key is new.
  pub housed_new : {tree : Tree} {low : ℕ} → place key (keys_in table k) ≡ k.count → k.count < length table → Enrolled table k.count key tree.tests tree.forks → low ≡ key % hint_room
      → Housed key c table homes k (set table k.count key) (set homes c k.count) (record k { tree = tree; hints = set k.hints low (k.count + 1); count = k.count + 1 })
  housed_new {low = low} e room tree p =
      let more : keys_in table k ++ (key ∷ []) ≡ grown (keys_in table k) key =
      sym (ap (λ (b : Bool). cond b (keys_in table k) (keys_in table k ++ (key ∷ []))) (le-ltb (place key (keys_in table k)) (length (keys_in table k)) (omega (arith, keys_count f.tree)))) in
      let taken : take (k.count + 1) (set table k.count key) ≡ keys_in table k ++ (key ∷ []) = ap (λ (i : ℕ). take i (set table k.count key)) (add-one k.count) ∙ take-suc-set table k.count key room in
      let hint_is : length (keys_in table k) + 1 ≡ k.count + 1 = ap (λ (i : ℕ). i + 1) (keys_count f.tree) in
      record {
        keys_are = taken ∙ more;
        count = omega (arith, keys_count f.tree, length-append (keys_in table k) (key ∷ []), ap length more);
        found = record {
          tree = tree (set table k.count key) (omega (arith, length-set table k.count key)) (λ i q. get_or-set_other table k.count i key 0 (λ e. omega arith)) (get_or-set_same table k.count key 0 room);
          hinted = subst (λ (l : List ℕ). Hinted l (set k.hints low (k.count + 1))) (sym taken)
              (subst (λ (i : ℕ). Hinted (keys_in table k ++ (key ∷ [])) (set k.hints i (k.count + 1))) (sym p)
              (subst (λ (v : ℕ). Hinted (keys_in table k ++ (key ∷ [])) (set k.hints (key % hint_room) v)) hint_is (hinted_more key f.hinted)));
        };
        homes_are = ap (set homes c) (sym e);
        keys_long = length-set table k.count key;
        masks_are = refl;
        kinds_are = refl;
      }

-- ---- gifts are gathered
-- Over two lists, one after the other.
pub over_append : {A : Type 0} (f : A → ℕ → ℕ) (l m : List A) (x : ℕ) → over f (l ++ m) x ≡ over f m (over f l x)
over_append f [] m x = refl
over_append f (o ∷ l) m x = over_append f l m (f o x)

-- One slot more.
pub alive_suc : (code : List ℕ) (facts views c : ℕ) (on : Bool) → on ≡ calm (sets_in code c) facts views → alive code facts views (c + 1) ≡ alive code facts views c ++ cond on (c ∷ []) []
unfolding alive
alive_suc code facts views c on e = ap (alive code facts views) (add-one c) ∙ ap (λ (t : Bool). alive code facts views c ++ cond t (c ∷ []) []) (sym e)

-- A slot more in a list gives its member where it passes the test.
pub picked_snoc : (p : ℕ → Bool) (code l : List ℕ) (c : ℕ) → picked_by p code (l ++ (c ∷ [])) ≡ tested p code c (picked_by p code l)
unfolding picked_by
picked_snoc p code l c = over_append (tested p code) l (c ∷ []) 0

module _ (code homes : List ℕ) (n facts views : ℕ) where
  -- No slot has given anything, where the gifts of the keys, and of what has none, are wiped.
  pub gathered_start : (gifts : List ℕ) {wiped : List ℕ} → wiped ≡ replicate (length (take (n + 1) gifts)) 0 → n < gift_room → length gifts ≡ gift_room
      → Gathered code homes n (alive code facts views 0) (wiped ++ drop (n + 1) gifts)
  unfolding alive picked_by
  gathered_start gifts {wiped} w few h =
      let long : length wiped ≡ n + 1 =
      ap length w ∙ length-replicate {A = ℕ} (length (take (n + 1) gifts)) 0 ∙ length-take-le (n + 1) gifts (omega arith) in
      record {
        gifts_are = λ e low.
            get_or-append wiped (drop (n + 1) gifts) 0 e (omega arith)
            ∙ ap (λ (l : List ℕ). get_or l e 0) w
            ∙ get_or-replicate {A = ℕ} (length (take (n + 1) gifts)) e 0 0 (omega (arith, length-take-le (n + 1) gifts (omega arith)));
        gifts_long = simp (length-append, length-drop) (omega (arith, long, h, few));
      }

  module _ {gifts : List ℕ} (c : ℕ) {on : Bool} (f : Gathered code homes n (alive code facts views c) gifts) (e : on ≡ calm (sets_in code c) facts views) where
    -- A slot that is not alive gives nothing.
    pub gathered_same : on ≡ false → Gathered code homes n (alive code facts views (c + 1)) gifts
    gathered_same h =
        let same : alive code facts views c ≡ alive code facts views (c + 1) = sym (alive_suc code facts views c false (sym h ∙ e) ∙ append-nil (alive code facts views c)) in
        subst (λ (l : List ℕ). Gathered code homes n l gifts) same f

    -- A live slot gives its member at its home.
    pub gathered_on : {home gift member : ℕ} → on ≡ true → home ≡ get_or homes c 0 → home < length gifts → member ≡ member_in code c → gift ≡ insert (get_or gifts home 0) member
        → Gathered code homes n (alive code facts views (c + 1)) (set gifts home gift)
    gathered_on {home} {gift} {member} h q room mem g = record {
      gifts_are = λ i low. at i low (eqb home i) refl ∙ sym (more i);
      gifts_long = length-set gifts home gift ∙ f.gifts_long;
    }
      where
        before : List ℕ
        before = alive code facts views c

        -- The gift at i, with the slot.
        more : (i : ℕ) → gift_of code homes i (alive code facts views (c + 1)) ≡ cond (eqb home i) (insert (gift_of code homes i before) member) (gift_of code homes i before)
        more i =
            ap (gift_of code homes i) (alive_suc code facts views c true (sym h ∙ e))
            ∙ picked_snoc (λ (s : ℕ). eqb (get_or homes s 0) i) code before c
            ∙ ap₂ (λ (s m : ℕ). cond (eqb s i) (insert (gift_of code homes i before) m) (gift_of code homes i before)) (sym q) (sym mem)

        at : (i : ℕ) → i ≤ n → (t : Bool) → eqb home i ≡ t → get_or (set gifts home gift) i 0 ≡ cond (eqb home i) (insert (gift_of code homes i before) member) (gift_of code homes i before)
        at i low true v =
            let j : home ≡ i = eqb-true home i v in
            ap (λ (s : ℕ). get_or (set gifts home gift) s 0) (sym j)
            ∙ get_or-set_same gifts home gift 0 room
            ∙ g
            ∙ ap (λ (s : ℕ). insert (get_or gifts s 0) member) j
            ∙ ap (λ (x : ℕ). insert x member) (f.gifts_are i low)
            ∙ ap (λ (t : Bool). cond t (insert (gift_of code homes i before) member) (gift_of code homes i before)) (sym v)
        at i low false v =
            get_or-set_other gifts home i gift 0 (λ j. eqb-false home i v (sym j))
            ∙ f.gifts_are i low
            ∙ ap (λ (t : Bool). cond t (insert (gift_of code homes i before) member) (gift_of code homes i before)) (sym v)

-- ---- gifts are looked up
module _ (keys masks gifts : List ℕ) (joint : ℕ) where
  -- Before the first kind nothing is given.
  pub given_none : 0 ≡ given keys masks gifts joint 0
  unfolding given
  given_none = refl

  -- One kind more.
  pub given_on : (k : ℕ) {part at x : ℕ} → part ≡ bit_and (get_or masks k 0) joint → at ≡ place (key_of part) keys → x ≡ given keys masks gifts joint k
      → bit_or x (get_or gifts at 0) ≡ given keys masks gifts joint (k + 1)
  unfolding given
  given_on k p e h = ap₂ (λ (y i : ℕ). bit_or y (get_or gifts i 0)) h (e ∙ ap (λ (y : ℕ). place (key_of y) keys) p) ∙ sym (ap (given keys masks gifts joint) (add-one k))
