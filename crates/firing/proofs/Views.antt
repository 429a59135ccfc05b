-- The tables give what the rules give: the views of a state, and at any look the successor, the legal moves and the end of the game.
use mathlib.Core.Path.{◌≡◌, refl, sym, ap, ◌∙◌, subst}
use mathlib.Core.Bool.{Bool, true, false, cond, not, ◌&&◌, false≢true}
use mathlib.Core.Logic.{⊎_elim}
use mathlib.Core.List.{List, [], ◌∷◌}
use Prim.Native.Nat.{ℕ, suc, ◌+◌, ◌-◌, ◌<◌}
use native.Mathlib.Nat.{zero-add}
use native.Mathlib.Omega.{arith}
use borrow.Author.Tests.{eqb-true, eqb-false}
use lib.Dec.{eqb, ltb}
use lib.ListN.{get_or, length}
use Rattle.facts.specs.Truth.{either}
use Rattle.facts.specs.Bits.{has, insert}
use Rattle.facts.specs.Laws.{bit_none}
use Rattle.sheet.specs.Limits.{most_views}
use Rattle.sheet.specs.Data.{Rule}
use Rattle.rules.specs.Kinds.{VIEW}
use Rattle.rules.specs.declared.Look.{Look}
use Rattle.rules.specs.declared.Ask.TheVariants.{View}
use Rattle.rules.specs.Rules.{fires, over, look_of, added, gathered, next_facts, legals_set, is_terminal}
use Rattle.views.specs.Reference.{settle, layer, layered}
use Rattle.views.specs.Sheet.{look_at, sweep_of, views_at}
use Rattle.views.proofs.Settle.{settle_same}
use Rattle.views.proofs.Laws.{layer_none, layer_some}
use Rattle.codes.specs.Codes.{joint_of, AllSound}
use Rattle.codes.specs.Table.{Encoded, Compiled, level, collected}
use Rattle.firing.specs.Firing.{sweep_by, settled_by, from_of, to_of, levels_by, views_by}
use Rattle.firing.proofs.Laws.{settle_still}
use Rattle.firing.proofs.Gathered.{collected_is}

-- ---- no views asked for, none gathered
added_none : (k : Look) (r : Rule) (x : ℕ) → added (View (record { bits = 0 })) k r x ≡ x
unfolding added
added_none k r x = go (eqb r.head.kind VIEW) (has 0 r.head.a) (ap (λ (b : ℕ). eqb b 1) (bit_none r.head.a)) (fires (look_of (View (record { bits = 0 })) k x) r.body)
  where
    go : (s t : Bool) → t ≡ false → (f : Bool) → cond (ltb (cond (s && t) r.head.a 64) 64 && f) (insert x (cond (s && t) r.head.a 64)) x ≡ x
    go true true e f = absurd (false≢true (sym e))
    go true false e f = refl
    go false t e f = refl

sweep_none : (k : Look) (rs : List Rule) (x : ℕ) → sweep_of rs k 0 x ≡ x
unfolding gathered
sweep_none k [] x = refl
sweep_none k (r ∷ rs) x = ap (over (added (View (record { bits = 0 })) k) rs) (added_none k r x) ∙ sweep_none k rs x

-- Sweeping until nothing changes is a layer, also of a level without views.
layer_is : (rs : List Rule) (k : Look) (only x : ℕ) → settle (sweep_of rs k only) most_views x ≡ layer (sweep_of rs k) only x
layer_is rs k only x = ⊎_elim
    (λ e. empty (eqb-true only 0 e))
    (λ e. layer_some (sweep_of rs k) only x (eqb-false only 0 e))
    (either (eqb only 0))
  where
    empty : only ≡ 0 → settle (sweep_of rs k only) most_views x ≡ layer (sweep_of rs k) only x
    empty e = settle_still (sweep_of rs k only) most_views x (ap (λ (o : ℕ). sweep_of rs k o x) e ∙ sweep_none k rs x) ∙ layer_none (sweep_of rs k) only x e

module _ {rs : List Rule} {code : List ℕ} (s : AllSound rs) where
  -- ---- one level
  level_is : {only from to : ℕ} → Encoded (View (record { bits = only })) rs code from to → (facts x : ℕ)
      → settled_by code facts from to x ≡ layer (sweep_of rs (look_at facts)) only x
  unfolding settled_by
  level_is {only} {from} {to} h facts x =
      settle_same (sweep_by code facts from to) (sweep_of rs (look_at facts) only) (λ y. collected_is (look_at facts) y s h) most_views x
      ∙ layer_is rs (look_at facts) only x

  -- ---- the levels of the masks ms, from level i on
  levels_layered : (ends : List ℕ) (facts : ℕ) (ms : List ℕ) (i x : ℕ)
      → ((j : ℕ) → j < length ms → Encoded (level ms j) rs code (from_of ends (i + j)) (to_of ends (i + j)))
      → levels_by code ends facts i (length ms) x ≡ layered (sweep_of rs (look_at facts)) ms x
  unfolding layered
  levels_layered ends facts [] i x h = refl
  levels_layered ends facts (only ∷ ms) i x h =
      ap (levels_by code ends facts (i + 1) (length ms)) (level_is here facts x)
      ∙ levels_layered ends facts ms (i + 1) (layer (sweep_of rs (look_at facts)) only x) there
    where
      here : Encoded (View (record { bits = only })) rs code (from_of ends i) (to_of ends i)
      here = subst (λ (n : ℕ). Encoded (View (record { bits = only })) rs code (from_of ends n) (to_of ends n)) (omega arith) (h 0 (omega arith))

      there : (j : ℕ) → j < length ms → Encoded (level ms j) rs code (from_of ends (i + 1 + j)) (to_of ends (i + 1 + j))
      there j l = subst (λ (n : ℕ). Encoded (level ms j) rs code (from_of ends n) (to_of ends n)) (omega arith) (h (suc j) (omega arith))

  module _ {masks ends : List ℕ} (h : Compiled rs masks code ends) where
    -- THE VIEWS OF A STATE.
    pub views_by_lem : length masks ≡ most_views → (facts : ℕ) → views_by code ends facts ≡ views_at rs facts masks
    unfolding views_by views_at
    views_by_lem e facts =
        ap (λ (n : ℕ). levels_by code ends facts 0 n 0) (sym e)
        ∙ levels_layered ends facts masks 0 0 (λ j l. subst (λ (n : ℕ). Encoded (level masks j) rs code (from_of ends n) (to_of ends n)) (sym (zero-add j)) (h.levels j (omega arith)))

    -- THE SUCCESSOR, THE LEGAL MOVES OF ALL ROLES AND THE END OF THE GAME, at any look.
    pub next_by_lem : (k : Look) → collected false code k.facts.bits k.views.bits (joint_of k.moves) 0 (get_or ends 0 0 - 0) 0 ≡ next_facts rs k
    unfolding next_facts
    next_by_lem k = collected_is k 0 s h.next

    pub legals_by : (k : Look) → collected false code k.facts.bits k.views.bits (joint_of k.moves) (get_or ends 0 0) (get_or ends 1 0 - get_or ends 0 0) 0 ≡ legals_set rs k
    unfolding legals_set
    legals_by k = collected_is k 0 s h.legals

    pub terminal_by : (k : Look)
        → not (eqb (collected false code k.facts.bits k.views.bits (joint_of k.moves) (get_or ends 1 0) (get_or ends 2 0 - get_or ends 1 0) 0) 0) ≡ is_terminal rs k
    unfolding is_terminal
    terminal_by k = ap (λ (x : ℕ). not (eqb x 0)) (collected_is k 0 s h.terminal)
