-- What may be passed through, what a position has before the first round, and the choice of a position.
use mathlib.Core.Path.{◌≡◌, refl, sym, ap, ◌∙◌}
use mathlib.Core.Bool.{Bool, true, false, not, cond, beq}
use mathlib.Core.List.{List}
use Prim.Native.Nat.{ℕ, zero, suc, pred, ◌-◌, ◌≤◌, ◌<◌}
use native.Mathlib.Omega.{arith}
use lib.ListN.{get_or, length}
use borrow.Author.Tests.{lt-ltb}
use Rattle.atl.specs.Bounded.{lowest}
use Rattle.atl.specs.Game.{Game, States}
use Rattle.atl.specs.Marking.{unset, secures, counted, choice}
use Rattle.marking.specs.Table.{side}
use Rattle.marking.proofs.Position.{get_d_default}

-- a position is on the side that is wanted where the test of it says so
pub side_is : (w : States) (i : ℕ) (x : Bool) → x ≡ w i → (want : Bool) → beq x want ≡ side want w i
side_is w i true e true = e
side_is w i false e true = e
side_is w i true e false = ap not e
side_is w i false e false = ap not e

-- what it has before the first round
pub fresh_is : (w : States) (i : ℕ) (x want b : Bool) → x ≡ w i → beq x want ≡ b → cond b 0 unset ≡ cond (side want w i) 0 unset
fresh_is w i x want b e q = ap (λ (y : Bool). cond y 0 unset) (sym q ∙ side_is w i x e want)

-- the choice of a position
module _ (G : Game) (l : List ℕ) (i : ℕ) (h : i < length l) where
  pub choice_goal : get_or l i 0 ≡ 0 → unset ≡ choice G l i
  unfolding choice
  choice_goal e = let z : get_or l i unset ≡ 0 = sym (get_d_default l i 0 unset h) ∙ e in rw z

  pub choice_none : get_or l i 0 ≡ unset → unset ≡ choice G l i
  unfolding choice
  choice_none e = let z : get_or l i unset ≡ unset = sym (get_d_default l i 0 unset h) ∙ e in rw z

  pub choice_some : (x : ℕ) → (get_or l i 0 ≡ 0 → ⊥) → (get_or l i 0 ≡ unset → ⊥) → get_or l i 0 ≤ unset
      → x ≡ lowest (G.moves i) (secures G (counted l (get_or l i 0 - 1)) i) → x ≡ choice G l i
  unfolding choice
  choice_some x a b c d =
      let z : get_or l i unset ≡ get_or l i 0 = sym (get_d_default l i 0 unset h) in
      let y : pred (get_or l i 0) ≡ get_or l i 0 - 1 = down (get_or l i 0) in
      rw (z, lt-ltb 0 (get_or l i 0) (omega arith), lt-ltb (get_or l i 0) unset (omega arith), y) d
    where
      down : (n : ℕ) → pred n ≡ n - 1
      down zero = refl
      down (suc n) = omega arith
