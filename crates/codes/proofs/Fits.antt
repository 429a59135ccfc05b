-- The sheet's checks of ranges make each literal sound: it has a set, and a place in it.
use mathlib.Core.Path.{◌≡◌}
use mathlib.Core.Bool.{true}
use mathlib.Core.List.{List, [], ◌∷◌}
use Prim.Native.Nat.{ℕ, zero, suc, ◌≤◌, ◌<◌}
use native.Mathlib.Omega.{arith}
use borrow.Author.Tests.{ltb-true, leb-true}
use lib.Dec.{ltb, leb}
use Rattle.facts.specs.Truth.{and_left, and_right}
use Rattle.sheet.specs.declared.Sizes.{Sizes}
use Rattle.sheet.specs.declared.Limits.{Limits}
use Rattle.sheet.specs.Limits.{most_moves}
use Rattle.sheet.specs.declared.record.Part.{Part}
use Rattle.sheet.specs.Data.{part, Rule, Sheet}
use Rattle.sheet.specs.Fields as fields
use Rattle.sheet.specs.Fields.{Fits, RulesFit, within, literal_limits, head_fits, literal_fits, rule_fits, sizes_fit, every}
use Rattle.rules.specs.Kinds.{DOES}
use Rattle.codes.specs.Codes as codes
use Rattle.codes.specs.Codes.{bits, place_of, Sound, AllSound}

-- What the sizes leave room for.
record Sized (z : Sizes) : Type 0 where
  roles : z.roles ≤ 4
  facts : z.facts ≤ 64
  views : z.views ≤ 64
  moves : z.moves ≤ 16

sizes_sized : (z : Sizes) → sizes_fit z ≡ true → Sized z
unfolding sizes_fit
sizes_sized z e =
    let a = and_right (leb 1 z.roles) _ e in
    let b = and_right (leb z.roles 4) _ a in
    let c = and_right (leb 1 z.facts) _ b in
    let d = and_right (leb z.facts 64) _ c in
    let f = and_right (leb z.views 64) _ d in
    record {
      roles = leb-true z.roles 4 (and_left _ _ a);
      facts = leb-true z.facts 64 (and_left _ _ c);
      views = leb-true z.views 64 (and_left _ _ d);
      moves = leb-true z.moves 16 (and_right (leb 1 z.moves) _ f);
    }

-- each field is below its limit
both : (l : Limits) (a b : ℕ) → within l a b 0 ≡ true → (a < l.a) × (b < l.b)
unfolding within
both l a b e = (ltb-true a l.a (and_left _ _ e), ltb-true b l.b (and_left _ _ (and_right (ltb a l.a) _ e)))

-- A literal with a set, a place in it, and a move of its role's sixteen.
record Placed (l : Part) : Type 0 where
  low : 1 ≤ l.kind
  high : l.kind ≤ 5
  place : place_of l < bits
  move : l.kind ≡ DOES → l.b < most_moves

module _ (z : Sizes) (y : Sized z) where
  placed : (x a b : ℕ) → (a < (literal_limits z x).a) × (b < (literal_limits z x).b) → Placed (part x a b)
  unfolding literal_limits
  placed zero a b h = absurd (omega (arith, h.0))
  placed (suc zero) a b h = record { low = omega arith; high = omega arith; place = omega (arith, h.0, y.facts); move = λ e. absurd (omega arith) }
  placed (suc (suc zero)) a b h = record { low = omega arith; high = omega arith; place = omega (arith, h.0, y.facts); move = λ e. absurd (omega arith) }
  placed (suc (suc (suc zero))) a b h = record { low = omega arith; high = omega arith; place = omega (arith, h.0, y.views); move = λ e. absurd (omega arith) }
  placed (suc (suc (suc (suc zero)))) a b h = record { low = omega arith; high = omega arith; place = omega (arith, h.0, y.views); move = λ e. absurd (omega arith) }
  placed (suc (suc (suc (suc (suc zero))))) a b h =
      record { low = omega arith; high = omega arith; place = omega (arith, h.0, h.1, y.roles, y.moves); move = λ e. omega (arith, h.1, y.moves) }
  placed (suc (suc (suc (suc (suc (suc x)))))) a b h = absurd (omega (arith, h.0))

  body_sound : (b : List Part) → every (literal_fits z) b ≡ true → Sound b
  unfolding literal_fits
  body_sound [] h = codes.none
  body_sound (l ∷ b) h =
      let p = placed l.kind l.a l.b (both (literal_limits z l.kind) l.a l.b (and_left (literal_fits z l) (every (literal_fits z) b) h)) in
      codes.one p.low p.high p.place p.move (body_sound b (and_right (literal_fits z l) (every (literal_fits z) b) h))

  rules_sound : (rs : List Rule) → RulesFit z rs → AllSound rs
  unfolding rule_fits
  rules_sound [] h = codes.none
  rules_sound (r ∷ rs) (fields.one few fits form rest) =
      codes.one (body_sound r.body (and_right (head_fits z r.head) (every (literal_fits z) r.body) fits)) (rules_sound rs rest)

-- A sheet within its ranges has sound rules.
pub fits_sound : (d : Sheet) → Fits d → AllSound d.rules
fits_sound d f = rules_sound d.sizes (sizes_sized d.sizes f.sizes) d.rules f.rules
