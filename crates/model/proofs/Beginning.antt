-- The tables before the first state is expanded, and after a refusal.
use Prim.Native.Nat.{ℕ, zero, suc, ◌+◌, ◌-◌, ◌≤◌, ◌<◌}
use mathlib.Core.Path.{◌≡◌, refl, sym, ap, ◌∙◌, subst}
use mathlib.Core.List.{List, [], ◌∷◌}
use native.Mathlib.Omega.{arith}
use lib.ListN.{length, replicate}
use Rattle.tables.specs.Lengths.{state_limit}
use Rattle.tables.specs.Pad.{pad}
use Rattle.tables.proofs.Pad.{length_pad}
use Rattle.lookup.specs.Tree.{link_limit}
use Rattle.lookup.proofs.Enrolling.{treed_first}
use Rattle.meaning.specs.Rules.{Rules}
use Rattle.meaning.proofs.Explore.{found_first}
use Rattle.meaning.proofs.Outcome.{begun}
use Rattle.model.specs.declared.growing.Growing.{Growing}
use Rattle.model.specs.Tables.{Holds, Zeros}
use Rattle.model.specs.Growing.{Fresh, Stage}

-- one zero more or less is the same table
one_zero : (size : ℕ) → 0 < size → pad size [] ≡ pad size (0 ∷ [])
unfolding pad
one_zero zero h = absurd (omega arith)
one_zero (suc n) h =
    let e : suc n - 0 ≡ suc n = omega arith in
    let f : suc n - 1 ≡ n = omega arith in
    rw (e, f) refl

-- with the state 0 alone every entry is zero
pub zeros : {limit joints : ℕ} {g : Growing} → 0 < limit → Fresh limit joints 0 g → Zeros limit joints g.states.now g.starts.now g.successors.now g.counts.now g.views.now
zeros {limit} h f = record {
  states_zero = f.states_are ∙ sym (one_zero limit h);
  starts_zero = f.starts_zero;
  successors_zero = f.successors_zero;
  counts_zero = f.counts_zero;
  views_zero = f.views_zero;
}

-- with the initial state alone nothing is expanded; the first start is zero, as the cleared table has it
pub first : (R : Rules) (seen : ℕ → ℕ) {limit joints x : ℕ} {g : Growing} → Fresh limit joints x g → g.tree.tests ≡ replicate state_limit 0 → g.tree.forks ≡ replicate link_limit 0 → x ≡ R.initial → 0 < limit → Stage R seen limit joints 0 g
first R seen {limit} {joints} {x} {g} f no_tests no_forks e h =
    let one : 1 ≤ limit = omega arith in
    let long : 1 ≤ length g.states.now = omega (arith, ap length f.states_are ∙ length_pad limit (x ∷ []) one) in
    record {
      so_far = begun R limit joints h;
      numbered = record {
        holds = subst (λ (l : List ℕ). Holds limit g.states.now g.found l) (ap (λ (y : ℕ). y ∷ []) e ∙ sym (found_first R)) (record { is = f.states_are; count = f.one_found; room = omega (arith, f.one_found) });
        treed = rw (f.one_found, no_tests, no_forks) (treed_first g.states.now long);
      };
      starts_hold = record { is = f.starts_zero ∙ one_zero (limit + 1) (omega arith); count = refl; room = omega arith };
      successors_hold = record { is = f.successors_zero; count = f.none_listed; room = omega (arith, f.none_listed) };
      counts_hold = record { is = f.counts_zero; count = refl; room = omega arith };
      views_hold = record { is = f.views_zero; count = refl; room = omega arith };
    }
