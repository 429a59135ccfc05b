-- The NEXT rules filed by the moves that they wait for. A rule fires where its moves are made: they are then what the joint move has of the roles that the rule names. So for
-- each set of roles, a kind of rules, one key is looked up, and what the live rules with that key give has been gathered beforehand.
use Rattle.std.specs.Prelude.{ℕ, zero, suc, ◌-◌, ◌*◌, ◌/◌, ◌%◌, ◌^◌, ◌≤◌, ◌<◌, max, ◌≡◌, Bool, cond, List, [], ◌∷◌, ◌++◌, eqb, get_or, length, take, set, replicate}
use Rattle.std.specs.Int.Bits.{bit_and, bit_or, bit_xor}
use Rattle.facts.specs.Bits.{has, insert}
use Rattle.tables.specs.Lengths.{state_limit}
use Rattle.sheet.specs.Limits.{most_moves, most_rules}
use Rattle.rules.specs.Rules.{over}
use Rattle.meaning.specs.Lists.{place}
use Rattle.meaning.specs.Filling.{grown}
use Rattle.lookup.specs.Tree.{link_limit, Treed}
use Rattle.codes.specs.Codes.{bits, calm, stirs}
use Rattle.codes.specs.Table.{width, word, sets_in, member_in}
use Rattle.keys.specs.declared.Keys.{Keys}
use Rattle.keys.specs.declared.Memo.{Memo}

-- ---- what rules give
-- The slots below c whose sets are calm, ascending.
unfoldable pub alive : List ℕ → (facts views : ℕ) → ℕ → List ℕ
alive code facts views zero = []
alive code facts views (suc c) = alive code facts views c ++ cond (calm (sets_in code c) facts views) (c ∷ []) []

-- x, with the member of slot c if it passes a test.
abbrev pub tested : (ℕ → Bool) → List ℕ → ℕ → ℕ → ℕ
tested p code c x = cond (p c) (insert x (member_in code c)) x

-- The members of those slots of a list that pass a test.
unfoldable pub picked_by : (ℕ → Bool) → List ℕ → List ℕ → ℕ
picked_by p code l = over (tested p code) l 0

-- What the slots of a list give for a joint move.
abbrev pub next_by : List ℕ → (joint : ℕ) → List ℕ → ℕ
next_by code joint l = picked_by (λ c. stirs (sets_in code c) joint) code l

-- ---- sets of moves
-- How many roles there may be.
abbrev pub most_roles : ℕ
most_roles = 4

-- How many kinds of rules there are: the sets of roles.
abbrev pub kind_room : ℕ
kind_room = 16

-- All moves of a role, as a set.
unfoldable pub own_moves : ℕ → ℕ
own_moves role = (2 ^ most_moves - 1) * 2 ^ (most_moves * role)

-- The roles below r that have a move in d, as a set.
unfoldable pub named_in : ℕ → ℕ → ℕ
named_in d zero = 0
named_in d (suc r) = cond (eqb (bit_and (own_moves r) d) 0) (named_in d r) (insert (named_in d r) r)

-- The kind of a rule that waits for the moves d: the set of the roles that make them.
abbrev pub kind_of : ℕ → ℕ
kind_of d = named_in d most_roles

-- All moves of the roles below r that are in a set of roles.
unfoldable pub moves_in : ℕ → ℕ → ℕ
moves_in k zero = 0
moves_in k (suc r) = cond (has k r) (bit_or (moves_in k r) (own_moves r)) (moves_in k r)

-- All moves of the roles of a kind.
abbrev pub mask_of : ℕ → ℕ
mask_of k = moves_in k most_roles

-- ---- keys
-- Two odd numbers without a pattern.
abbrev pub low_factor : ℕ
low_factor = 2654435761

abbrev pub high_factor : ℕ
high_factor = 2246822519

-- A set, with its upper half stirred by its lower one.
unfoldable pub upper_stirred : ℕ → ℕ
upper_stirred x = bit_xor x (x % 2 ^ 32 * low_factor * 2 ^ 32 % 2 ^ 64)

-- A set, with its lower half stirred by its upper one.
unfoldable pub lower_stirred : ℕ → ℕ
lower_stirred x = bit_xor x (x / 2 ^ 32 * high_factor / 2 ^ 32 % 2 ^ 32)

-- The key of a set of moves: no other set has it, and keys differ in their low digits, so that few tests tell them apart.
unfoldable pub key_of : ℕ → ℕ
key_of d = lower_stirred (upper_stirred d)

-- ---- once a sheet: the slots are filed
-- The moves that slot c waits for.
abbrev pub need_in : List ℕ → ℕ → ℕ
need_in code c = word code c 4

-- The keys of the slots below c, each once; before them that of the slots that wait for nothing.
unfoldable pub keys_of : List ℕ → ℕ → List ℕ
keys_of code zero = 0 ∷ []
keys_of code (suc c) = grown (keys_of code c) (key_of (need_in code c))

-- All moves of the roles of kind k, where a slot below c is of that kind; else nothing.
unfoldable pub mask_at : List ℕ → (c k : ℕ) → ℕ
mask_at code zero k = 0
mask_at code (suc c) k = cond (eqb (kind_of (need_in code c)) k) (mask_of k) (mask_at code c k)

-- One more than the highest kind of the slots below c.
unfoldable pub kinds_of : List ℕ → ℕ → ℕ
kinds_of code zero = 0
kinds_of code (suc c) = max (kinds_of code c) (suc (kind_of (need_in code c)))

-- How many keys there may be: one of each rule, and the first.
abbrev pub key_room : ℕ
key_room = 513

-- How many gifts there may be: one of each key, and one of what has no key.
abbrev pub gift_room : ℕ
gift_room = 514

-- How many hints there are.
abbrev pub hint_room : ℕ
hint_room = 2048

-- Hints by the low digits of a key: one more than the place of a key that has these digits; there is one for each key.
pub record Hinted (keys hints : List ℕ) : Type 0 where
  pub there : (i : ℕ) → i < length keys → get_or hints (get_or keys i 0 % hint_room) 0 ≡ 0 → ⊥
  pub low : (h : ℕ) → get_or hints h 0 ≤ length keys
  pub hints_long : length hints ≡ hint_room

-- The keys that are filed: so many, from the first of their table on.
abbrev pub keys_in : (table : List ℕ) → Keys → List ℕ
keys_in table k = take k.count table

-- They can be found: they stand in their tree, and each has its hint.
pub record Findable (table : List ℕ) (k : Keys) : Type 0 where
  pub tree : Treed table k.count k.tree.tests k.tree.forks
  pub hinted : Hinted (keys_in table k) k.hints

-- Nothing is filed.
pub record Blank (k : Keys) : Type 0 where
  pub tests : k.tree.tests ≡ replicate state_limit 0
  pub forks : k.tree.forks ≡ replicate link_limit 0
  pub hints : k.hints ≡ replicate hint_room 0
  pub masks : k.masks ≡ replicate kind_room 0

-- A key more, if it is new, and its place is noted in entry c.
pub record Housed (key c : ℕ) (table homes : List ℕ) (k : Keys) (table' homes' : List ℕ) (k' : Keys) : Type 0 where
  pub keys_are : keys_in table' k' ≡ grown (keys_in table k) key
  pub count : k'.count ≡ length (grown (keys_in table k) key)
  pub found : Findable table' k'
  pub homes_are : homes' ≡ set homes c (place key (keys_in table k))
  pub keys_long : length table' ≡ length table
  pub masks_are : k'.masks ≡ k.masks
  pub kinds_are : k'.kinds ≡ k.kinds

-- The keys are those of the slots below c, each slot's home is the place of its key, and each kind has its mask.
pub record Filing (code : List ℕ) (c : ℕ) (table homes : List ℕ) (k : Keys) : Type 0 where
  pub found : Findable table k
  pub keys_are : keys_in table k ≡ keys_of code c
  pub count : k.count ≡ length (keys_of code c)
  pub homes_are : (i : ℕ) → i < c → get_or homes i 0 ≡ place (key_of (need_in code i)) (keys_of code c)
  pub masks_are : (j : ℕ) → j < kind_room → get_or k.masks j 0 ≡ mask_at code c j
  pub kinds_are : k.kinds ≡ kinds_of code c
  pub keys_long : length table ≡ key_room
  pub homes_long : length homes ≡ most_rules
  pub masks_long : length k.masks ≡ kind_room

-- ---- once a position: what live slots give is gathered by their homes
-- What the slots of a list give that have their home at e.
abbrev pub gift_of : List ℕ → (homes : List ℕ) → ℕ → List ℕ → ℕ
gift_of code homes e l = picked_by (λ c. eqb (get_or homes c 0) e) code l

-- The gifts are, for each of n keys and for what has none, what the slots of a list give.
pub record Gathered (code homes : List ℕ) (n : ℕ) (l gifts : List ℕ) : Type 0 where
  pub gifts_are : (e : ℕ) → e ≤ n → get_or gifts e 0 ≡ gift_of code homes e l
  pub gifts_long : length gifts ≡ gift_room

-- Each slot below `to` stands in the table of codes, its member can be added to a set, and its home is no higher than the number n of keys.
pub record Homes (code : List ℕ) (to : ℕ) (homes : List ℕ) (n : ℕ) : Type 0 where
  pub inside : width * to ≤ length code
  pub members : (c : ℕ) → c < to → member_in code c < bits
  pub homes_long : to ≤ length homes
  pub homes_low : (c : ℕ) → c < to → get_or homes c 0 ≤ n
  pub few : n < gift_room

-- ---- once a joint move: the gifts are looked up
-- The place of the key of what a joint move has of the roles of kind k.
abbrev pub place_at : (keys masks : List ℕ) → (joint k : ℕ) → ℕ
place_at keys masks joint k = place (key_of (bit_and (get_or masks k 0) joint)) keys

-- What the gifts have for a joint move, over the kinds below k.
unfoldable pub given : (keys masks gifts : List ℕ) → (joint k : ℕ) → ℕ
given keys masks gifts joint zero = 0
given keys masks gifts joint (suc k) = bit_or (given keys masks gifts joint k) (get_or gifts (place_at keys masks joint k) 0)

-- For each kind a set of moves that was asked for, and the place of its key.
pub record Remembers (keys : List ℕ) (m : Memo) : Type 0 where
  pub places_are : (k : ℕ) → k < kind_room → get_or m.places k 0 ≡ place (key_of (get_or m.asked k 0)) keys
  pub asked_long : length m.asked ≡ kind_room
  pub places_long : length m.places ≡ kind_room
