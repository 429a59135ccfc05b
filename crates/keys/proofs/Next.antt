-- For each joint move the live slots of the NEXT rules give the successor.
use Prim.Native.Nat.{ℕ, suc, ◌+◌}
use mathlib.Core.Path.{◌≡◌, refl, sym, ap, ◌∙◌}
use mathlib.Core.Bool.{Bool, true, false, cond, ◌&&◌}
use mathlib.Core.List.{List, [], ◌∷◌, ◌++◌, append-nil}
use native.Mathlib.Nat.{add-zero}
use native.Mathlib.Omega.{arith}
use lib.Dec.{ltb}
use lib.ListN.{length}
use Rattle.facts.specs.Bits.{insert}
use Rattle.sheet.specs.Data.{Rule}
use Rattle.rules.specs.declared.Look.{Look}
use Rattle.rules.specs.declared.Ask.TheVariants.{Next}
use Rattle.rules.specs.Rules.{fires, over, member_of, added, gathered, next_facts}
use Rattle.codes.specs.Codes.{bits, sets_of, code_of, picked, calm, stirs, joint_of, Sound, AllSound, none, one}
use Rattle.codes.specs.Table.{sets_in, member_in, InSlot, Stand, Encoded}
use Rattle.codes.proofs.Says.{says_is, sets_in_lem, member_in_lem}
use Rattle.keys.specs.Keys.{alive, tested, picked_by, next_by}
use Rattle.keys.proofs.Laws.{alive_suc, picked_snoc}

-- ---- one slot more
-- Two tests, one in the other.
both_tests : (t u : Bool) (a x : ℕ) → cond t (cond u a x) x ≡ cond (t && u) a x
both_tests true u a x = refl
both_tests false u a x = refl

-- A list with one slot more where a test holds.
picked_more : (p : ℕ → Bool) (code l : List ℕ) (c : ℕ) (t : Bool) → picked_by p code (l ++ cond t (c ∷ []) []) ≡ cond t (tested p code c (picked_by p code l)) (picked_by p code l)
picked_more p code l c true = picked_snoc p code l c
picked_more p code l c false = ap (picked_by p code) (append-nil l)

module _ (code : List ℕ) (k : Look) where
  -- What the slots below c give.
  abbrev up_to : ℕ → ℕ
  up_to c = next_by code (joint_of k.moves) (alive code k.facts.bits k.views.bits c)

  -- One slot more.
  up_to_suc : (c : ℕ) → up_to (c + 1) ≡ cond (calm (sets_in code c) k.facts.bits k.views.bits && stirs (sets_in code c) (joint_of k.moves)) (insert (up_to c) (member_in code c)) (up_to c)
  up_to_suc c =
      let t : Bool = calm (sets_in code c) k.facts.bits k.views.bits in
      ap (next_by code (joint_of k.moves)) (alive_suc code k.facts.bits k.views.bits c t refl)
      ∙ picked_more (λ (s : ℕ). stirs (sets_in code s) (joint_of k.moves)) code (alive code k.facts.bits k.views.bits c) c t
      ∙ both_tests t (stirs (sets_in code c) (joint_of k.moves)) (insert (up_to c) (member_in code c)) (up_to c)

  -- A rule in slot c adds what the rule adds.
  one_rule : (r : Rule) (c : ℕ) → Sound r.body → ltb (member_of Next r.head) bits ≡ true → InSlot code c (code_of Next r) → up_to (c + 1) ≡ added Next k r (up_to c)
  unfolding added
  one_rule r c s h i =
      up_to_suc c
      ∙ ap (λ (w : List ℕ). cond (calm w k.facts.bits k.views.bits && stirs w (joint_of k.moves)) (insert (up_to c) (member_in code c)) (up_to c)) (sets_in_lem Next r code c i)
      ∙ ap (λ (m : ℕ). cond (calm (sets_of r.body) k.facts.bits k.views.bits && stirs (sets_of r.body) (joint_of k.moves)) (insert (up_to c) m) (up_to c)) (member_in_lem Next r code c i)
      ∙ ap (λ (t : Bool). cond t (insert (up_to c) (member_of Next r.head)) (up_to c)) (sym (says_is k r.body s))
      ∙ ap (λ (t : Bool). cond (t && fires k r.body) (insert (up_to c) (member_of Next r.head)) (up_to c)) (sym h)

  -- All rules, from slot c on.
  all_rules : (rs : List Rule) (c : ℕ) → AllSound rs → Stand Next (picked Next rs) code c → up_to (c + length (picked Next rs)) ≡ over (added Next k) rs (up_to c)
  unfolding added
  all_rules [] c none p = ap up_to (add-zero c)
  all_rules (r ∷ rs) c (one s ss) p = go (ltb (member_of Next r.head) bits) refl p (λ c p. all_rules rs c ss p)
    where
      go : (t : Bool) → ltb (member_of Next r.head) bits ≡ t → Stand Next (cond t (r ∷ picked Next rs) (picked Next rs)) code c
          → ((c : ℕ) → Stand Next (picked Next rs) code c → up_to (c + length (picked Next rs)) ≡ over (added Next k) rs (up_to c))
          → up_to (c + length (cond t (r ∷ picked Next rs) (picked Next rs))) ≡ over (added Next k) rs (added Next k r (up_to c))
      go true e (i, p) ih =
          let q : c + suc (length (picked Next rs)) ≡ c + 1 + length (picked Next rs) = omega arith in
          ap up_to q ∙ ih (c + 1) p ∙ ap (over (added Next k) rs) (one_rule r c s e i)
      go false e p ih = ih c p ∙ ap (over (added Next k) rs) (ap (λ (t : Bool). cond (t && fires k r.body) (insert (up_to c) (member_of Next r.head)) (up_to c)) (sym e))

-- THE theorem: for each joint move the live slots give the successor.
pub next_live : {rs : List Rule} {code : List ℕ} {to : ℕ} → AllSound rs → Encoded Next rs code 0 to
    → (k : Look) → next_by code (joint_of k.moves) (alive code k.facts.bits k.views.bits to) ≡ next_facts rs k
unfolding next_facts gathered picked_by alive
next_live {rs} {code} {to} s e k =
    ap (up_to code k) e.count ∙ all_rules code k rs 0 s e.stand
