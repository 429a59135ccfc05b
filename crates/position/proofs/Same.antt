-- What a position gives does not depend on more than it reads: four roles' moves, and none but under NEXT.
use Prim.Native.Nat.{ℕ, zero, suc}
use mathlib.Core.Path.{◌≡◌, refl, ap, ap₂, ◌∙◌}
use mathlib.Core.Bool.{Bool, true, false, cond, not, ◌&&◌}
use mathlib.Core.List.{List, [], ◌∷◌}
use native.Mathlib.Omega.{arith}
use borrow.Author.Tests.{le-ltb}
use lib.Dec.{ltb}
use lib.ListN.{get_or}
use Rattle.facts.specs.Bits.{has, insert}
use Rattle.sheet.specs.declared.record.Part.{Part}
use Rattle.sheet.specs.Data.{part, Rule, Sheet}
use Rattle.sheet.specs.Fields.{Fits}
use Rattle.rules.specs.declared.Look.{Look}
use Rattle.rules.specs.declared.Ask.TheVariants.{Next}
use Rattle.rules.specs.Meaning.{doing, holds, Fires}
use Rattle.rules.specs.Rules.{fires, over, member_of, added, gathered, next_facts}
use Rattle.choices.specs.Moves.{four}
use Rattle.position.specs.Position.{making}
use Rattle.position.proofs.Fitting.{rule_fits_lem, no_does}

-- ---- a move for each of four roles says as much as the whole list
doing_four : (m : List ℕ) (a b : ℕ) → doing (four m) a b ≡ doing m a b
unfolding doing
doing_four m zero b = refl
doing_four m (suc zero) b = refl
doing_four m (suc (suc zero)) b = refl
doing_four m (suc (suc (suc zero))) b = refl
doing_four m (suc (suc (suc (suc a)))) b = let e = le-ltb (suc (suc (suc (suc a)))) 4 (omega arith) in rw e refl

module _ (k : Look) (m : List ℕ) where
  holds_four : (l : Part) → holds (making k (four m)) l ≡ holds (making k m) l
  unfolding holds
  holds_four l = ap
      (λ (t : Bool). get_or (false ∷ has k.facts.bits l.a ∷ not (has k.facts.bits l.a) ∷ has k.views.bits l.a ∷ not (has k.views.bits l.a) ∷ t ∷ []) l.kind false)
      (doing_four m l.a l.b)

  fires_four : (b : List Part) → fires (making k (four m)) b ≡ fires (making k m) b
  unfolding fires
  fires_four [] = refl
  fires_four (l ∷ b) = ap₂ ◌&&◌ (holds_four l) (fires_four b)

  gathered_four : (rs : List Rule) (x : ℕ) → gathered Next (making k (four m)) rs x ≡ gathered Next (making k m) rs x
  unfolding gathered added
  gathered_four [] x = refl
  gathered_four (r ∷ rs) x =
      ap (over (added Next (making k (four m))) rs) (ap (λ (t : Bool). cond (ltb (member_of Next r.head) 64 && t) (insert x (member_of Next r.head)) x) (fires_four r.body))
      ∙ gathered_four rs _

  pub next_four : (rs : List Rule) → next_facts rs (making k (four m)) ≡ next_facts rs (making k m)
  unfolding next_facts
  next_four rs = gathered_four rs 0

-- ---- a rule that is not NEXT fires whatever moves are made
module _ (k : Look) (m n : List ℕ) where
  holds_plain : (x a b : ℕ) → (x ≡ 5 → ⊥) → holds (making k m) (part x a b) ≡ true → holds (making k n) (part x a b) ≡ true
  unfolding holds
  holds_plain zero a b h e = e
  holds_plain (suc zero) a b h e = e
  holds_plain (suc (suc zero)) a b h e = e
  holds_plain (suc (suc (suc zero))) a b h e = e
  holds_plain (suc (suc (suc (suc zero)))) a b h e = e
  holds_plain (suc (suc (suc (suc (suc zero))))) a b h e = absurd (h refl)
  holds_plain (suc (suc (suc (suc (suc (suc x)))))) a b h e = e

  pub fires_still : (d : Sheet) → Fits d → (H : Part → Type 0) → ((h : Part) → H h → h.kind ≡ 2 → ⊥) → Fires d.rules (making k m) H → Fires d.rules (making k n) H
  fires_still d fit H other f = record {
    rule = f.rule;
    there = f.there;
    head = f.head;
    body = λ l i. holds_plain l.kind l.a l.b
        (no_does f.rule (rule_fits_lem d.sizes d.rules fit.rules f.rule f.there).1 (other f.rule.head f.head) l i)
        (f.body l i);
  }
