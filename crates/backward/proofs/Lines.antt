-- The joint moves of all positions in one line.
use mathlib.Core.Path.{◌≡◌, refl, sym, ap, ap₂, ◌∙◌}
use mathlib.Core.List.{List}
use Prim.Native.Nat.{ℕ, ◌+◌, ◌-◌, ◌≤◌, ◌<◌}
use native.Mathlib.Decide.{ℕ_discrete}
use native.Mathlib.Nat.{le_refl}
use native.Mathlib.Omega.{arith}
use lib.Dec.{eqb}
use lib.ListN.{length}
use borrow.Author.Tests.{eq-eqb, ne_eqb}
use Rattle.atl.specs.Game.{Game}
use Rattle.radix.specs.Classes.{moves_at}
use Rattle.incoming.specs.Index.{at}
use Rattle.incoming.specs.Owners.{IsIncoming}
use Rattle.incoming.proofs.Owners.{before, owned, owner_at, total_in}
use Rattle.marking.specs.Table.{in_tables, Tables}
use Rattle.backward.specs.Walk.{kind}

-- The joint moves of all positions in one line, `total` of them: those of position i from place `first i` on. `own` has the position of each, `to` where
-- it leads and `cls` its class: a class has its number among the places of its position.
pub record Lines (G : Game) (total : ℕ) (first own to cls : ℕ → ℕ) : Type 0 where
  pub inside : (i j : ℕ) → i < G.states → j < G.moves i → first i + j < total
  pub leads : (i j : ℕ) → i < G.states → j < G.moves i → to (first i + j) ≡ G.to i j
  pub owned : (i j : ℕ) → i < G.states → j < G.moves i → own (first i + j) ≡ i
  pub owner : (p : ℕ) → p < total → own p < G.states
  pub found : (p : ℕ) → p < total → (j : ℕ) × (j < G.moves (own p)) × (first (own p) + j ≡ p)
  pub classed : (i j k : ℕ) → i < G.states → j < G.moves i → k < G.moves i → G.agree i j k ≡ eqb (cls (first i + j)) (cls (first i + k))
  pub seat : (p : ℕ) → p < total → (k : ℕ) × (k < G.moves (own p)) × (first (own p) + k ≡ cls p)

-- numbers agree where they do after the same is added
same_shift : (x y z : ℕ) → eqb y z ≡ eqb (x + y) (x + z)
same_shift x y z = go (ℕ_discrete y z)
  where
    go : Dec (y ≡ z) → eqb y z ≡ eqb (x + y) (x + z)
    go (yes e) = eq-eqb y z e ∙ sym (eq-eqb (x + y) (x + z) (ap (λ (t : ℕ). x + t) e))
    go (no e) = ne_eqb y z e ∙ sym (ne_eqb (x + y) (x + z) (λ o. e (omega arith)))

-- the tables hold such a line
module _ {n : ℕ} {starts successors classes froms index owners : List ℕ} (s : Tables n starts successors classes) (is : IsIncoming n starts successors froms index owners) where
  place_in : (i j : ℕ) → i < n → j < moves_at starts i → at starts i + j < at starts n
  place_in i j h l = go (ℕ_discrete (i + 1) n)
    where
      go : Dec (i + 1 ≡ n) → at starts i + j < at starts n
      go (yes e) = let z : at starts (i + 1) ≡ at starts n = ap (at starts) e in omega arith
      go (no e) = let z = before s.placed i n h (le_refl n) in omega arith

  its_owner : (i j : ℕ) → i < n → j < moves_at starts i → at owners (at starts i + j) ≡ i
  its_owner i j h l = is.owned (at starts i + j) (place_in i j h l) ∙ owned s.placed i (at starts i + j) h (omega arith) (omega arith)

  its_kind : (i j : ℕ) → i < n → j < moves_at starts i → kind starts classes owners (at starts i + j) ≡ at starts i + at classes (at starts i + j)
  its_kind i j h l = ap (λ (o : ℕ). at starts o + at classes (at starts i + j)) (its_owner i j h l)

  its_place : (p : ℕ) → p < at starts n → at starts (at owners p) + (p - at starts (at owners p)) ≡ p
  its_place p h = let (x, y, z) = owner_at s.placed is p h in omega arith

  pub lines_hold : Lines (in_tables n starts successors classes) (at starts n) (at starts) (at owners) (at successors) (kind starts classes owners)
  lines_hold = record {
    inside = place_in;
    leads = λ i j h l. refl;
    owned = its_owner;
    owner = λ p h. (owner_at s.placed is p h).0;
    found = λ p h. let (x, y, z) = owner_at s.placed is p h in (p - at starts (at owners p), omega arith, its_place p h);
    classed = λ i j k h l m.
        same_shift (at starts i) (at classes (at starts i + j)) (at classes (at starts i + k)) ∙ sym (ap₂ eqb (its_kind i j h l) (its_kind i k h m));
    seat = λ p h.
        let (x, y, z) = owner_at s.placed is p h in
        let l : at classes p < moves_at starts (at owners p) = rw (its_place p h) at (s.low (at owners p) x (p - at starts (at owners p)) (omega arith)) in
        (at classes p, l, refl);
  }

  -- a class has its number below the number of all joint moves
  pub kind_lt : (p : ℕ) → p < at starts n → kind starts classes owners p < at starts n
  kind_lt p h = let (k, l, e) = lines_hold.seat p h in let (x, y, z) = owner_at s.placed is p h in omega (arith, place_in (at owners p) k x l, e)

  -- the places of all joint moves stand in the table of successors
  pub all_in : at starts n ≤ length successors
  all_in = total_in {successors = successors} (record { placed = s.placed; zero = is.zero; landed = s.landed }) _ refl
