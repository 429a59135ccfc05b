-- The answers of the expansion of one state, from what the state offers.
use Prim.Native.Nat.{ℕ, ◌+◌, ◌-◌, ◌*◌, ◌≤◌, ◌<◌}
use mathlib.Core.Path.{◌≡◌, refl, sym, ap, ◌∙◌}
use mathlib.Core.List.{◌++◌}
use Rattle.std.proofs.Common.{Option, Some, None}
use Rattle.std.specs.Option.{ok_or}
use native.Mathlib.Omega.{arith}
use lib.ListN.{length, get_or, take, set}
use lib.Seq.{ext_get_or}
use Rattle.atl.specs.Bounded.{tabulate}
use Rattle.atl.proofs.Bounded.{get_d_tabulate}
use Rattle.sheet.specs.Data.{Sheet}
use Rattle.sheet.specs.Reading.{sheet_in}
use Rattle.meaning.specs.Rules.{moves, targets}
use Rattle.meaning.specs.Model.{IsRefusal}
use Rattle.offer.specs.declared.Offer.{Offer}
use Rattle.offer.specs.declared.Study.{Study}
use Rattle.position.specs.Position.{rules_of}
use Rattle.offer.specs.Offer.{role_limit, Ready, offer_of, joints_of, role_of, target_of}
use Rattle.offer.proofs.Right.{joints_right, role_right, target_right}
use Rattle.model.specs.declared.growing.Growing.{Growing}
use Rattle.model.specs.Counts.{count_of, row_of}
use Rattle.model.specs.Views.{views_of}
use Rattle.model.specs.declared.Refusal.TheVariants.{ManyStates}
use Rattle.model.specs.Tables.{Holds}
use Rattle.model.specs.Growing.{Listed, rules_in, seen_in, Stage, Expanded}
use Rattle.model.proofs.Expanding.{stop_8, stop_7, stop_6, next}

module _ {t : Study} (ready : Ready t) {limit joints k : ℕ} {g : Growing} (stage : Stage (rules_in t) (seen_in t) limit joints k g) (h : k < g.found) where
  abbrev d : Sheet
  d = sheet_in t.s.now t.y

  module _ {x m : ℕ} {o : Offer} (x_is : x ≡ get_or g.states.now k 0) (o_is : o ≡ offer_of (sheet_in t.s.now t.y) x) (m_is : m ≡ joints_of o t.y.sizes.roles) where
    moves_are : m ≡ length (moves (rules_in t) x)
    moves_are = m_is ∙ ap (λ (p : Offer). joints_of p d.sizes.roles) o_is ∙ joints_right d ready.whole.fits x

    lead : (j : ℕ) → j < m → target_of (sheet_in t.s.now t.y) o j ≡ get_or (targets (rules_in t) x) j 0
    lead j b = ap (λ (p : Offer). target_of d p j) o_is ∙ target_right d ready.whole.fits x j (omega (arith, moves_are))

    row_is : tabulate role_limit (role_of o t.y.sizes.roles) ≡ row_of (rules_in t) x
    row_is = ext_get_or 0 _ _ refl (λ r b.
        get_d_tabulate role_limit (role_of o d.sizes.roles) 0 r b
        ∙ ap (λ (p : Offer). role_of p d.sizes.roles r) o_is
        ∙ role_right d ready.whole.fits x r b
        ∙ sym (get_d_tabulate role_limit (count_of (rules_of d) x) 0 r b))

    views_are : {v : ℕ} → v ≡ o.look.views.bits → v ≡ seen_in t x
    unfolding offer_of views_of
    views_are e = e ∙ ap (λ (p : Offer). p.look.views.bits) o_is

    pub lacks_choice : m ≡ 0 → IsRefusal (rules_in t) limit joints 8 k
    lacks_choice = stop_8 stage h x_is moves_are

    pub too_many_moves : (m ≡ 0 → ⊥) → joints - g.listed < m → IsRefusal (rules_in t) limit joints 7 k
    too_many_moves = stop_7 stage h x_is moves_are

    -- the targets are listed, or there is no room for one
    pub expanded : (m ≡ 0 → ⊥) → m ≤ joints - g.listed → (r : Option (Unit {0})) (after : Growing) {v : ℕ}
        → Listed limit joints (take g.found g.states.now) (take g.listed g.successors.now) (tabulate m (target_of (sheet_in t.s.now t.y) o)) (g.listed + m) r after → v ≡ o.look.views.bits
        → Holds (role_limit * limit) after.counts.now (role_limit * (k + 1)) (take (role_limit * k) g.counts.now ++ tabulate role_limit (role_of o t.y.sizes.roles))
        → after.starts.now ≡ set g.starts.now (k + 1) (g.listed + m) → after.views.now ≡ set g.views.now k v → Expanded (rules_in t) (seen_in t) limit joints k (ok_or r (ManyStates k)) after
    expanded some few (Some u) after w v_is c p q = next stage h x_is moves_are (target_of d o) lead some few _ row_is (views_are v_is) w.0 w.1 w.2 c p q
    expanded some few None after w v_is c p q = stop_6 stage h x_is moves_are (target_of d o) lead some few w
