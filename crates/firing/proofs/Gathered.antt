-- What a stretch of slots gives is what the rules give whose codes stand there.
use mathlib.Core.Path.{◌≡◌, refl, sym, ap, ◌∙◌}
use mathlib.Core.Bool.{Bool, true, false, cond, ◌&&◌}
use mathlib.Core.List.{List, [], ◌∷◌}
use Prim.Native.Nat.{ℕ, ◌+◌, ◌-◌}
use native.Mathlib.Omega.{arith}
use lib.Dec.{ltb}
use lib.ListN.{length}
use Rattle.facts.specs.Bits.{insert}
use Rattle.sheet.specs.Data.{Rule}
use Rattle.rules.specs.declared.Look.{Look}
use Rattle.rules.specs.declared.Ask.{Ask}
use Rattle.rules.specs.declared.Ask.TheVariants.{Init, Next, View, Legal, Goal, Terminal, Legals}
use Rattle.rules.specs.Rules.{fires, over, member_of, seen_by, look_of, added, gathered}
use Rattle.codes.specs.Codes.{bits, code_of, sets_of, picked, calm, stirs, joint_of, Sound, AllSound, none, one}
use Rattle.codes.specs.Table.{sets_in, member_in, InSlot, Stand, Encoded, own, added_by, collected}
use Rattle.codes.proofs.Says.{says_is, sets_in_lem, member_in_lem}

-- The views that a code is read off are those that its rule is read off.
seen_is : (q : Ask) (views x : ℕ) → cond (own q) x views ≡ seen_by q views x
seen_is Init views x = refl
seen_is Next views x = refl
seen_is (View only) views x = refl
seen_is (Legal role) views x = refl
seen_is (Goal role value) views x = refl
seen_is Terminal views x = refl
seen_is Legals views x = refl

module _ (q : Ask) (k : Look) (code : List ℕ) where
  -- What a slot adds, and what n slots give, where this question is asked of this position.
  abbrev adds : ℕ → ℕ → ℕ
  adds c x = added_by (own q) code k.facts.bits k.views.bits (joint_of k.moves) c x

  abbrev gives : ℕ → ℕ → ℕ → ℕ
  gives c n x = collected (own q) code k.facts.bits k.views.bits (joint_of k.moves) c n x

  -- The sets in the slot of a rule hold where its body does.
  slot_says : (r : Rule) (c x : ℕ) → Sound r.body → InSlot code c (code_of q r)
      → (calm (sets_in code c) k.facts.bits (cond (own q) x k.views.bits) && stirs (sets_in code c) (joint_of k.moves)) ≡ fires (look_of q k x) r.body
  slot_says r c x s i =
      ap (λ (w : List ℕ). calm w k.facts.bits (cond (own q) x k.views.bits) && stirs w (joint_of k.moves)) (sets_in_lem q r code c i)
      ∙ ap (λ (v : ℕ). calm (sets_of r.body) k.facts.bits v && stirs (sets_of r.body) (joint_of k.moves)) (seen_is q k.views.bits x)
      ∙ sym (says_is (look_of q k x) r.body s)

  -- The slot of a rule adds what the rule adds.
  slot_adds : (r : Rule) (c x : ℕ) → Sound r.body → InSlot code c (code_of q r) → ltb (member_of q r.head) bits ≡ true → adds c x ≡ added q k r x
  unfolding added_by added
  slot_adds r c x s i e =
      ap (λ (t : Bool). cond t (insert x (member_in code c)) x) (slot_says r c x s i)
      ∙ ap (λ (m : ℕ). cond (fires (look_of q k x) r.body) (insert x m) x) (member_in_lem q r code c i)
      ∙ sym (ap (λ (t : Bool). cond (t && fires (look_of q k x) r.body) (insert x (member_of q r.head)) x) e)

  -- A rule that has no slot adds nothing.
  no_slot : (r : Rule) (x : ℕ) → ltb (member_of q r.head) bits ≡ false → x ≡ added q k r x
  unfolding added
  no_slot r x e = sym (ap (λ (t : Bool). cond (t && fires (look_of q k x) r.body) (insert x (member_of q r.head)) x) e)

  -- The slots of the rules that have one give what all rules give.
  stand_gives : (rs : List Rule) (c x : ℕ) → AllSound rs → Stand q (picked q rs) code c → gives c (length (picked q rs)) x ≡ over (added q k) rs x
  stand_gives [] c x none h = refl
  stand_gives (r ∷ rs) c x (one s ss) h = go (ltb (member_of q r.head) bits) refl h (λ d y. stand_gives rs d y ss)
    where
      go : (t : Bool) → ltb (member_of q r.head) bits ≡ t → Stand q (cond t (r ∷ picked q rs) (picked q rs)) code c
          → ((d y : ℕ) → Stand q (picked q rs) code d → gives d (length (picked q rs)) y ≡ over (added q k) rs y)
          → gives c (length (cond t (r ∷ picked q rs) (picked q rs))) x ≡ over (added q k) rs (added q k r x)
      go true e h rest = ap (gives (c + 1) (length (picked q rs))) (slot_adds r c x s h.0 e) ∙ rest (c + 1) (added q k r x) h.1
      go false e h rest = rest c x h ∙ ap (over (added q k) rs) (no_slot r x e)

-- THE SLOTS OF A QUESTION GIVE WHAT THE RULES GIVE.
pub collected_is : {q : Ask} {rs : List Rule} {code : List ℕ} {from to : ℕ} (k : Look) (x : ℕ) → AllSound rs → Encoded q rs code from to
    → collected (own q) code k.facts.bits k.views.bits (joint_of k.moves) from (to - from) x ≡ gathered q k rs x
unfolding gathered
collected_is {q} {rs} {code} {from} {to} k x s h = ap (λ (n : ℕ). gives q k code from n x) count ∙ stand_gives q k code rs from x s h.stand
  where
    count : to - from ≡ length (picked q rs)
    count = omega (arith, h.count)
