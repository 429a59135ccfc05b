-- The marking reads its sets below the number of states only.
use mathlib.Core.Path.{◌≡◌, ap, ◌∙◌}
use mathlib.Core.Bool.{Bool, ◌&&◌, not, cond}
use mathlib.Core.List.{List}
use Prim.Native.Nat.{ℕ, zero, suc, ◌<◌}
use Rattle.atl.specs.Bounded.{tabulate}
use Rattle.atl.specs.Game.{Game, IsGame, States}
use Rattle.atl.specs.Marking.{unset, counted, recount, swept, force, next, onward, doomed, rounds, until, always}
use Rattle.atl.proofs.Play as play
use Rattle.atl.proofs.Same.{tabulate_cong, swept_same}

abbrev Agree : ℕ → States → States → Type 0
Agree n a b = (i : ℕ) → i < n → a i ≡ b i

swept_goal : (n : ℕ) (p : States → States) (b c : States) → Agree n b c → (r : ℕ) → swept n p b r ≡ swept n p c r
unfolding swept
swept_goal n p b c e zero = tabulate_cong n _ _ (λ i h. ap (λ (x : Bool). cond x 0 unset) (e i h))
swept_goal n p b c e (suc r) = ap (λ (l : List ℕ). tabulate n (recount p r l)) (swept_goal n p b c e r)

module _ (G : Game) where
  pub rounds_sets : (a c b d : States) → Agree G.states a c → Agree G.states b d → rounds G a b ≡ rounds G c d
  unfolding onward
  rounds_sets a c b d e f =
      swept_same G.states (onward G a) (onward G c) b (λ w i h. ap (λ (x : Bool). x && force G w i) (e i h)) G.states
      ∙ swept_goal G.states (onward G c) b d f G.states

  pub until_sets : (a c b d : States) → Agree G.states a c → Agree G.states b d → until G a b ≡ until G c d
  until_sets a c b d e f = ap (λ (l : List ℕ). tabulate G.states (counted l G.states)) (rounds_sets a c b d e f)

  pub always_sets : (a c : States) → Agree G.states a c → always G a ≡ always G c
  always_sets a c e =
      ap (λ (l : List ℕ). tabulate G.states (λ i. not (counted l G.states i)))
      (swept_goal G.states (doomed G) _ _ (λ i h. ap not (e i h)) G.states)

  pub next_sets : IsGame G → (a c : States) → Agree G.states a c → next G a ≡ next G c
  unfolding next
  next_sets law a c e = tabulate_cong G.states _ _ (λ i h. play.force_cong G law a c e i h)
