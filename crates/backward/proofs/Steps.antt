-- What one joint move comes to: a counter goes down, and a position takes a count.
use mathlib.Core.Path.{◌≡◌, sym, ap, ap₂, ◌∙◌}
use mathlib.Core.Bool.{Bool, true, false, ◌&&◌, and-false}
use mathlib.Core.List.{List}
use Prim.Native.Nat.{ℕ, ◌+◌, ◌<◌}
use native.Mathlib.Omega.{arith}
use lib.Dec.{eqb}
use lib.ListN.{get_or, set, length, length-set}
use borrow.Author.Tests.{eq-eqb, ne_eqb}
use Rattle.atl.specs.Game.{States}
use Rattle.atl.specs.Marking.{unset}
use Rattle.incoming.specs.Index.{at}
use Rattle.incoming.specs.Owners.{IsIncoming}
use Rattle.incoming.proofs.Owners.{owner_at}
use Rattle.marking.specs.Table.{Tables}
use Rattle.backward.specs.Walk.{Walk, walk, lowered, finishes, enter, settle, visit, Sized}
use Rattle.backward.proofs.Sizes.{sized_room}

-- one position
module _ (a : States) (r i : ℕ) (w : Walk) where
  stays : (eqb (at w.rounds i) unset && a i) ≡ false → w ≡ enter a r i w
  unfolding enter
  stays e = rw e

  pub enter_has : (get_or w.rounds i 0 ≡ unset → ⊥) → w ≡ enter a r i w
  enter_has o = stays (ap (λ (b : Bool). b && a i) (ne_eqb (at w.rounds i) unset o))

  pub enter_barred : a i ≡ false → w ≡ enter a r i w
  enter_barred e = stays (ap (λ (b : Bool). eqb (at w.rounds i) unset && b) e ∙ and-false (eqb (at w.rounds i) unset))

  pub enter_takes : get_or w.rounds i 0 ≡ unset → a i ≡ true → walk w.left w.need (set w.rounds i (r + 1)) (set w.queue w.more i) (w.more + 1) ≡ enter a r i w
  unfolding enter
  enter_takes o e = let z : (eqb (at w.rounds i) unset && a i) ≡ true = ap₂ (λ (x y : Bool). x && y) (eq-eqb (at w.rounds i) unset o) e in rw z

-- one joint move, of class c and of position i: what is left of the class is y, and of what the position waits for z
module _ (own cls : ℕ → ℕ) (want : Bool) (a : States) (r p c i : ℕ) (e : c ≡ cls p) (d : i ≡ own p) (w : Walk) (y : ℕ) (x : Bool)
    (f : (y ≡ lowered want (at w.left c)) × (x ≡ finishes want (at w.left c)))
  where
    after : set w.left c y ≡ set w.left (cls p) (lowered want (at w.left (cls p)))
    after = ap (set w.left c) f.0 ∙ ap (λ (c : ℕ). set w.left c (lowered want (at w.left c))) e

    told : finishes want (at w.left (cls p)) ≡ x
    told = ap (λ (c : ℕ). finishes want (at w.left c)) (sym e) ∙ sym f.1

    -- its class still waits
    pub visit_waits : x ≡ false → walk (set w.left c y) w.need w.rounds w.queue w.more ≡ visit own cls want a r p w
    unfolding visit
    visit_waits o = let u = told ∙ o in rw (u, after)

    module _ (z : ℕ) (t : Bool) (g : (z ≡ lowered true (at w.need i)) × (t ≡ finishes true (at w.need i))) where
      lacks : set w.need i z ≡ set w.need (own p) (lowered true (at w.need (own p)))
      lacks = ap (set w.need i) g.0 ∙ ap (λ (i : ℕ). set w.need i (lowered true (at w.need i))) d

      heard : finishes true (at w.need (own p)) ≡ t
      heard = ap (λ (i : ℕ). finishes true (at w.need i)) (sym d) ∙ sym g.1

      -- its position still waits
      pub visit_lacks : x ≡ true → t ≡ false → walk (set w.left c y) (set w.need i z) w.rounds w.queue w.more ≡ visit own cls want a r p w
      unfolding visit settle
      visit_lacks o k = let u = told ∙ o in let v = heard ∙ k in rw (u, v, after, lacks)

      -- nothing waits
      pub visit_enters : (v : Walk) → x ≡ true → t ≡ true → v ≡ enter a r i (walk (set w.left c y) (set w.need i z) w.rounds w.queue w.more) → v ≡ visit own cls want a r p w
      unfolding visit settle
      visit_enters v o k l = let u = told ∙ o in let q = heard ∙ k in rw (u, q) (l ∙ rw (after, lacks, d))

-- where the joint move at place p stands: i is its position, x + y its class
module _ {n : ℕ} {starts successors classes froms index owners : List ℕ} (s : Tables n starts successors classes) (is : IsIncoming n starts successors froms index owners)
    (p i : ℕ) (h : p < at starts n) (d : i ≡ get_or owners p 0)
  where
    pub place_low : i < n
    place_low = omega (arith, (owner_at s.placed is p h).0)

    pub place_in : i < length starts
    place_in = omega (arith, place_low, s.placed.long)

    pub place_classed : p < length classes
    place_classed = let (k, l, m) = owner_at s.placed is p h in omega (arith, s.placed.within _ k, s.classed)

-- a position that may take a count has room in the queue
pub enter_room : {n total : ℕ} {w : Walk} → Sized n total w → (i : ℕ) → i < n → at w.rounds i ≡ unset → w.more < length w.queue
enter_room s i h e = omega (arith, s.room, sized_room s i h e)

-- counters that go down leave the room as it is
pub sized_lowered : {n total : ℕ} {w : Walk} → Sized n total w → (c y i z : ℕ) → Sized n total (walk (set w.left c y) (set w.need i z) w.rounds w.queue w.more)
sized_lowered {n} {total} {w} s c y i z = record {
  lefts = omega (arith, length-set w.left c y, s.lefts);
  needs = omega (arith, length-set w.need i z, s.needs);
  long = s.long;
  room = s.room;
  few = s.few;
  listed = s.listed;
}
