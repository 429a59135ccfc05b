-- The positions of count 0, lined up in the queue.
use mathlib.Core.Path.{◌≡◌, sym, ap, ◌∙◌}
use mathlib.Core.List.{List}
use Prim.Native.Nat.{ℕ, suc, ◌+◌, ◌≤◌, ◌<◌}
use native.Mathlib.Nat.{le_refl}
use native.Mathlib.Numerals.{add-one}
use native.Mathlib.Decide.{ℕ_discrete}
use native.Mathlib.Omega.{arith}
use lib.Dec.{eqb}
use lib.ListN.{get_or, length, set}
use lib.Seq.{get_or-set_same, get_or-set_other}
use borrow.Author.Tests.{eq-eqb, ne_eqb}
use Rattle.incoming.specs.Index.{at, bit}
use Rattle.incoming.proofs.Counting.{many_le}
use Rattle.backward.specs.Walk.{Lined}

module _ (rounds : List ℕ) {i more : ℕ} {queue : List ℕ} (x : Lined i more rounds queue) where
  -- no more positions stand in the queue than were looked at
  pub lined_le : more ≤ i
  lined_le = omega (arith, x.few, many_le i (λ j. eqb (at rounds j) 0))

  pub lined_skip : (get_or rounds i 0 ≡ 0 → ⊥) → Lined (i + 1) more rounds queue
  lined_skip o = rw add-one (record {
    few = let z : bit (eqb (at rounds i) 0) ≡ 0 = ap bit (ne_eqb (at rounds i) 0 o) in omega (arith, x.few);
    listed = λ k h. omega (arith, x.listed k h);
    zeros = x.zeros;
    once = x.once;
    found = λ j h e. x.found j (below j h e) e;
  })
    where
      below : (j : ℕ) → j < suc i → at rounds j ≡ 0 → j < i
      below j h e = go (ℕ_discrete j i)
        where
          go : Dec (j ≡ i) → j < i
          go (yes d) = absurd (o (ap (at rounds) (sym d) ∙ e))
          go (no d) = omega arith

  pub lined_push : get_or rounds i 0 ≡ 0 → more < length queue → Lined (i + 1) (more + 1) rounds (set queue more i)
  lined_push o room = rw (add-one i, add-one more) (record {
    few = let z : bit (eqb (at rounds i) 0) ≡ 1 = ap bit (eq-eqb (at rounds i) 0 o) in omega (arith, x.few);
    listed = λ k h. low k h (ℕ_discrete k more);
    zeros = λ k h. zero_at k h (ℕ_discrete k more);
    once = λ j k h g. up j k h g (ℕ_discrete k more);
    found = λ j h e. there j h e (ℕ_discrete j i);
  })
    where
      pushed : at (set queue more i) more ≡ i
      pushed = get_or-set_same queue more i 0 room

      unpushed : (k : ℕ) → k < more → at (set queue more i) k ≡ at queue k
      unpushed k g = get_or-set_other queue more k i 0 (omega arith)

      low : (k : ℕ) → k < suc more → Dec (k ≡ more) → at (set queue more i) k < suc i
      low k h (yes d) = rw d (omega (arith, pushed))
      low k h (no d) = omega (arith, unpushed k (omega arith), x.listed k (omega arith))

      zero_at : (k : ℕ) → k < suc more → Dec (k ≡ more) → at rounds (at (set queue more i) k) ≡ 0
      zero_at k h (yes d) = rw (d, pushed) o
      zero_at k h (no d) = rw (unpushed k (omega arith)) (x.zeros k (omega arith))

      up : (j k : ℕ) → j < k → k < suc more → Dec (k ≡ more) → at (set queue more i) j < at (set queue more i) k
      up j k h g (yes d) = rw (d, pushed) (omega (arith, unpushed j (omega arith), x.listed j (omega arith)))
      up j k h g (no d) = omega (arith, unpushed j (omega arith), unpushed k (omega arith), x.once j k h (omega arith))

      there : (j : ℕ) → j < suc i → at rounds j ≡ 0 → Dec (j ≡ i) → (k : ℕ) × (k < suc more) × (at (set queue more i) k ≡ j)
      there j h e (yes d) = (more, le_refl _, pushed ∙ sym d)
      there j h e (no d) = let (k, l, m) = x.found j (omega arith) e in (k, omega arith, unpushed k l ∙ m)
