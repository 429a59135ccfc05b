-- The laws of what a position offers and of where it leads, one a return of the code.
use Prim.Native.Nat.{ℕ, ◌*◌, ◌/◌, ◌%◌, ◌^◌}
use mathlib.Core.Path.{◌≡◌, refl, ap, ap₂, ◌∙◌}
use mathlib.Core.Bool.{Bool, true, false}
use mathlib.Core.List.{List}
use lib.ListN.{get_or}
use Rattle.sheet.specs.Data.{Rule}
use Rattle.rules.specs.declared.Look.{Look}
use Rattle.rules.specs.Rules.{legals_set, legals_of, is_terminal, next_facts}
use Rattle.position.specs.Choices.{choices}
use Rattle.position.specs.Position.{set_from, sets_if, offers, offering, making, leads}

-- one role's set, from what two calls gave
pub set_from_lem : (legals : ℕ) (moves : List ℕ) (p c role : ℕ) → p ≡ legals / 2 ^ (16 * role) % 2 ^ 16 → c ≡ choices p (get_or moves role 0) → c ≡ set_from legals moves role
set_from_lem legals moves p c role f g = g ∙ ap (λ (l : ℕ). choices l (get_or moves role 0)) f

module _ (rs : List Rule) (k : Look) (moves : List ℕ) where
  -- what is made of the end and of the legal moves is what the position offers
  pub offering_is : {t : Bool} {x : ℕ} → t ≡ is_terminal rs k → x ≡ legals_set rs k → offering t x moves ≡ offers rs k moves
  unfolding offers offering legals_of
  offering_is e f = ap₂ (λ (b : Bool) (y : ℕ). offering b y moves) e f ∙ go (is_terminal rs k)
    where
      go : (b : Bool) → offering b (legals_set rs k) moves ≡ record { sets = sets_if b rs k moves; terminal = b }
      go true = refl
      go false = refl

  pub leads_stay : (t : Bool) → t ≡ true → k.facts.bits ≡ leads rs k t moves
  unfolding leads
  leads_stay t e = simp e

  pub leads_on : (t : Bool) (x : ℕ) → t ≡ false → x ≡ next_facts rs (making k moves) → x ≡ leads rs k t moves
  unfolding leads
  leads_on t x e f = simp (e, f)
