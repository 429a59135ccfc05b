-- What is computed of a position is what the game has there.
use Rattle.std.specs.Prelude.{Ok}
use Prim.Native.Nat.{ℕ, ◌≤◌, ◌<◌}
use mathlib.Core.Path.{◌≡◌, sym, ap, ◌∙◌}
use mathlib.Core.Bool.{Bool, cond}
use mathlib.Core.List.{List, []}
use native.Mathlib.Omega.{arith}
use lib.Dec.{ltb}
use lib.ListN.{length, get_or, take}
use Rattle.sheet.specs.Data.{Sheet}
use Rattle.sheet.specs.Fields.{Fits}
use Rattle.sheet.specs.Reading.{read_sheet}
use Rattle.sheet.specs.declared.Layout.{Layout}
use Rattle.sheet.proofs.Exact.{exact}
use Rattle.choices.specs.Moves.{decode, four}
use Rattle.meaning.specs.Rules.{options, moves, after, targets}
use Rattle.meaning.proofs.Lists.{get_d_map}
use Rattle.position.specs.Position.{still, look_in, leads, rules_of}
use Rattle.position.proofs.Fitting.{sizes_room}
use Rattle.position.proofs.Play.{sets_at, terminal_at, options_at, moves_count, moves_at_lem, after_at}
use Rattle.offer.specs.Offer.{role_limit, Whole, offer_of, joints_of, role_of, target_of}

-- an accepted sheet is whole
pub accepted_whole : (s : List ℕ) (y : Layout) → read_sheet s ≡ Ok y → Whole s y
accepted_whole s y e =
    let x = exact s y e in
    record { within = omega (arith, x.end, x.whole); fits = x.fits }

module _ (d : Sheet) (fit : Fits d) where
  pub few_roles : d.sizes.roles ≤ role_limit
  few_roles = (sizes_room d.sizes fit.sizes).roles

  module _ (x : ℕ) where
    pub joints_right : joints_of (offer_of d x) d.sizes.roles ≡ length (moves (rules_of d) x)
    unfolding joints_of offer_of
    joints_right = sym (moves_count d x fit)

    pub role_right : (r : ℕ) → r < role_limit → role_of (offer_of d x) d.sizes.roles r ≡ cond (ltb r d.sizes.roles) (length (options (rules_of d) x r)) 1
    unfolding role_of offer_of
    role_right r h = ap (λ (l : List ℕ). cond (ltb r d.sizes.roles) (length l) 1) (sym (options_at d x r h))

    pub target_right : (j : ℕ) → j < length (moves (rules_of d) x) → target_of d (offer_of d x) j ≡ get_or (targets (rules_of d) x) j 0
    unfolding target_of offer_of
    target_right j h =
        let m = decode (take d.sizes.roles (sets_at d x)) j in
        ap (λ (t : Bool). leads d.rules (look_in d.rules x still) t (four m)) (terminal_at d x)
        ∙ sym (get_d_map (after (rules_of d) x) (moves (rules_of d) x) j [] 0 h
        ∙ ap (after (rules_of d) x) (moves_at_lem d x fit j (omega (arith, moves_count d x fit)))
        ∙ after_at d x m)
