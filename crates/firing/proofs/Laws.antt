-- The laws of the code: one for each way that a function returns, and for each loop its next turn and its end.
use mathlib.Core.Path.{◌≡◌, refl, sym, ap, ◌∙◌}
use mathlib.Core.Bool.{Bool, true, false, cond, ◌&&◌}
use mathlib.Core.List.{List}
use Prim.Native.Nat.{ℕ, zero, suc, ◌+◌, ◌-◌, ◌≤◌, ◌<◌}
use native.Mathlib.Omega.{arith}
use borrow.Author.Tests.{eqb-true}
use lib.Bits.{bit_and}
use Rattle.facts.specs.Truth.{and_left}
use Rattle.facts.specs.Bits.{bit, has, insert}
use Rattle.facts.specs.Laws.{has_and}
use Rattle.sheet.specs.Limits.{most_views}
use Rattle.views.specs.Reference.{settle}
use Rattle.views.proofs.Settle.{settle_yes, settle_here, settle_on, settle_out}
use Rattle.codes.specs.Codes.{covers, calm, stirs, joint_of}
use Rattle.codes.specs.Table.{sets_in, member_in, added_by, collected}
use Rattle.firing.specs.Firing.{no_moves, sweep_by, settled_by, from_of, to_of, levels_by, Level}

-- ---- the loop over a stretch of slots
-- The slots that are left after one more give the same, from what that one made.
pub collect_on : (mine : Bool) (code : List ℕ) (facts views joint c to x y : ℕ) → c < to → y ≡ added_by mine code facts views joint c x
    → collected mine code facts views joint (c + 1) (to - (c + 1)) y ≡ collected mine code facts views joint c (to - c) x
collect_on mine code facts views joint c to x y h e =
    let n : to - c ≡ suc (to - (c + 1)) = omega arith in
    ap (collected mine code facts views joint (c + 1) (to - (c + 1))) e ∙ sym (ap (λ (i : ℕ). collected mine code facts views joint c i x) n)

-- ---- all views of a level are there
-- What covers `only` has each of its members.
covered : (only x : ℕ) → covers x only ≡ true → (m : ℕ) → has only m ≡ true → has x m ≡ true
covered only x h m k = and_left (has x m) (has only m) (sym (has_and x only m) ∙ ap (λ (w : ℕ). has w m) (eqb-true (bit_and x only) only h) ∙ k)

-- A member that is there is not added.
insert_there : (x m : ℕ) → has x m ≡ true → insert x m ≡ x
unfolding insert
insert_there x m h = let e : bit x m ≡ 1 = eqb-true (bit x m) 1 h in rw e (omega arith)

-- A slot whose member is there adds nothing,
added_full : (mine : Bool) (code : List ℕ) (facts views joint c x : ℕ) → has x (member_in code c) ≡ true → added_by mine code facts views joint c x ≡ x
unfolding added_by
added_full mine code facts views joint c x h = go (calm (sets_in code c) facts (cond mine x views) && stirs (sets_in code c) joint)
  where
    go : (t : Bool) → cond t (insert x (member_in code c)) x ≡ x
    go true = insert_there x (member_in code c) h
    go false = refl

-- nor do such slots.
module _ (mine : Bool) (code : List ℕ) (facts views joint x : ℕ) where
  collected_full : (n c : ℕ) → ((d : ℕ) → c ≤ d → d < c + n → has x (member_in code d) ≡ true) → collected mine code facts views joint c n x ≡ x
  collected_full zero c h = refl
  collected_full (suc n) c h =
      ap (collected mine code facts views joint (c + 1) n) (added_full mine code facts views joint c x (h c (omega arith) (omega arith)))
      ∙ collected_full n (c + 1) (λ d l g. h d (omega arith) (omega arith))

-- So a sweep changes nothing once all views of the level are there.
sweep_full : {code : List ℕ} {only from to : ℕ} → Level code only from to → (facts x : ℕ) → covers x only ≡ true → sweep_by code facts from to x ≡ x
sweep_full {code} {only} {from} {to} l facts x h =
    collected_full true code facts 0 no_moves x (to - from) from (λ d a b. covered only x h (member_in code d) (l.among d a (omega (arith, l.slots.ordered))))

-- ---- the views of a level
-- What is at rest stays.
pub settle_still : (f : ℕ → ℕ) (n x : ℕ) → f x ≡ x → settle f n x ≡ x
unfolding settle
settle_still f zero x e = refl
settle_still f (suc n) x e = settle_yes f n x e

-- The number in the code is the joint move of no moves.
no_moves_lem : 281479271743489 ≡ no_moves
unfolding joint_of insert
no_moves_lem = refl

-- ---- the loop over the sweeps of a level: from the present set, the sweeps that are left give what all give (z)
pub record Settling (code : List ℕ) (facts from to z turn x : ℕ) : Type 0 where
  pub gives : settle (sweep_by code facts from to) (most_views - turn) x ≡ z

module _ {code : List ℕ} {facts from to z turn x : ℕ} (w : Settling code facts from to z turn x) where
  module _ {y : ℕ} (more : turn < most_views) (e : y ≡ collected true code facts 0 281479271743489 from (to - from) x) where
    -- what the code gathers is a sweep
    swept : y ≡ sweep_by code facts from to x
    swept = e ∙ ap (λ (j : ℕ). collected true code facts 0 j from (to - from) x) no_moves_lem

    -- the return where nothing changed
    pub settle_rest : y ≡ x → x ≡ z
    settle_rest h = settle_here (sweep_by code facts from to) (most_views - turn) x z (omega arith) (sym swept ∙ h) w.gives

    -- the next turn
    pub settle_next : (y ≡ x → ⊥) → Settling code facts from to z (turn + 1) y
    settle_next d = record { gives = settle_on (sweep_by code facts from to) (most_views - turn) x z (most_views - (turn + 1)) y (omega arith) d swept w.gives }

    -- the return with all views of the level: one more sweep would change nothing
    pub settle_full : {only : ℕ} {t : Bool} → Level code only from to → (y ≡ x → ⊥) → t ≡ covers y only → t ≡ true → y ≡ z
    settle_full l d g h =
        sym (settle_still (sweep_by code facts from to) (most_views - (turn + 1)) y (sweep_full l facts y (sym g ∙ h))) ∙ (settle_next d).gives

  -- the end
  pub settle_end : most_views ≤ turn → x ≡ z
  settle_end h = settle_out (sweep_by code facts from to) (most_views - turn) x z (omega arith) w.gives

-- ---- the levels
-- A level without slots adds nothing.
pub settled_empty : (code : List ℕ) (facts x from to : ℕ) → to ≤ from → x ≡ settled_by code facts from to x
unfolding settled_by
settled_empty code facts x from to h =
    let none : to - from ≡ 0 = omega arith in
    sym (settle_still (sweep_by code facts from to) most_views x (ap (λ (n : ℕ). collected true code facts 0 no_moves from n x) none))

-- The loop over the levels: from the present set, the levels that are left give what all levels give (z).
pub record Levelling (code ends : List ℕ) (facts z i x : ℕ) : Type 0 where
  pub gives : levels_by code ends facts i (most_views - i) x ≡ z

module _ {code ends : List ℕ} {facts z i x : ℕ} (w : Levelling code ends facts z i x) where
  -- the next turn
  pub levels_on : {y : ℕ} → i < most_views → y ≡ settled_by code facts (from_of ends i) (to_of ends i) x → Levelling code ends facts z (i + 1) y
  levels_on {y} h g = record { gives = step (most_views - i) (most_views - (i + 1)) (omega arith) w.gives }
    where
      step : (n m : ℕ) → n ≡ suc m → levels_by code ends facts i n x ≡ z → levels_by code ends facts (i + 1) m y ≡ z
      step n m e k = ap (levels_by code ends facts (i + 1) m) g ∙ sym (ap (λ (j : ℕ). levels_by code ends facts i j x) e) ∙ k

  -- the end
  pub levels_out : most_views ≤ i → x ≡ z
  levels_out h = step (most_views - i) (omega arith) w.gives
    where
      step : (n : ℕ) → n ≡ 0 → levels_by code ends facts i n x ≡ z → x ≡ z
      step n e k = sym (ap (λ (j : ℕ). levels_by code ends facts i j x) e) ∙ k
