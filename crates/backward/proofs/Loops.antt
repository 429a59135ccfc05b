-- What the loops of the walk come to: over the joint moves that lead to a position, and over the positions of the queue.
use mathlib.Core.Path.{◌≡◌, refl, ap, ap₂, ◌∙◌}
use Prim.Native.Nat.{ℕ, suc, ◌+◌, ◌-◌, ◌≤◌, ◌<◌}
use native.Mathlib.Omega.{arith}
use lib.ListN.{get_or, length}
use Rattle.incoming.specs.Index.{at}
use Rattle.incoming.proofs.Order.{first_mono}
use Rattle.incoming.proofs.Owners.{entries_in, entry_low, owner_at}
use Rattle.backward.specs.Walk.{Walk, visits, arrive, passes, Sized}
use Rattle.backward.specs.Ground.{positions, joints, own, class_of, may, visited, arrived, passed}
use Rattle.backward.specs.declared.ground.Ground.{Ground}
use Rattle.backward.proofs.Sizes.{visits_sized, passes_sized, passes_up}

module _ (g : Ground) where
  -- each joint move is of one of the positions
  owner : (p : ℕ) → p < joints g → own g p < positions g
  owner p h = (owner_at g.board.tables.placed g.leads p h).0

  -- the first j joint moves from slot `first` of the index on
  abbrev pub visits_of : ℕ → ℕ → ℕ → Walk → Walk
  visits_of = visits (own g) (class_of g) g.want (may g) g.incoming.index.now

  -- the entries of position t stand from slot `first` to slot `last`
  module _ (t : ℕ) (h : t < positions g) (first last : ℕ) (e : first ≡ get_or g.incoming.froms.now t 0) (d : last ≡ get_or g.incoming.froms.now (t + 1) 0) where
    pub entries_rise : first ≤ last
    entries_rise =
        let x = g.leads.sorted.begins t (omega arith) in
        let y = g.leads.sorted.begins (t + 1) (omega arith) in
        omega (arith, first_mono (at g.board.joints.successors.now) (joints g) t (t + 1) (omega arith))

    pub entries_end : last ≤ length g.incoming.index.now
    entries_end = omega (arith, entries_in g.board.tables.placed g.leads t h)

    entries_place : (j : ℕ) → j < last - first → at g.incoming.index.now (first + j) < joints g
    entries_place j k = entry_low g.board.tables.placed g.leads t (first + j) h (omega arith) (omega arith)

    module _ (r : ℕ) (w : Walk) where
      pub visits_none : w ≡ visits_of r first (first - first) w
      unfolding visits
      visits_none = let z : first - first ≡ 0 = omega arith in rw z

      module _ (v : Walk) (j p : ℕ) (l : first ≤ j) (m : j < last) (f : p ≡ get_or g.incoming.index.now j 0) (o : v ≡ visits_of r first (j - first) w) where
        slot_is : first + (j - first) ≡ j
        slot_is = omega arith

        -- the next joint move has its place, and the tables have their room
        pub visit_asks : r ≤ positions g → Sized (positions g) (joints g) w → (r ≤ positions g) × (p < joints g) × Sized (positions g) (joints g) v
        visit_asks k x = (
          k,
          rw (f, ← slot_is) (entries_place (j - first) (omega arith)),
          rw o (visits_sized (may g) r (omega (arith, g.few)) (own g) (class_of g) g.want owner g.incoming.index.now first (j - first) (λ i n. entries_place i (omega arith)) w x),
        )

        pub visits_more : (u : Walk) → u ≡ visited g r p v → u ≡ visits_of r first (j + 1 - first) w
        unfolding visits
        visits_more u q =
            let z : j + 1 - first ≡ suc (j - first) = omega arith in
            rw (z, slot_is) (q ∙ ap₂ (λ (p : ℕ) (v : Walk). visited g r p v) f o)

      pub arrive_all : (v : Walk) (j : ℕ) → j ≤ last → last ≤ j → v ≡ visits_of r first (j - first) w → v ≡ arrived g r t w
      unfolding arrive
      arrive_all v j l m o =
          let z : j - first ≡ at g.incoming.froms.now (t + 1) - at g.incoming.froms.now t = omega arith in
          o ∙ ap₂ (λ (x y : ℕ). visits_of r x y w) e z

  -- the positions from place lo of the queue on
  module _ (r lo : ℕ) (w : Walk) where
    pub passes_none : w ≡ passed g r lo (lo - lo) w
    unfolding passes
    passes_none = let z : lo - lo ≡ 0 = omega arith in rw z

    pub passes_more : (v u : Walk) (q t : ℕ) → lo ≤ q → v ≡ passed g r lo (q - lo) w → t ≡ get_or v.queue q 0 → u ≡ arrived g r t v → u ≡ passed g r lo (q + 1 - lo) w
    unfolding passes
    passes_more v u q t h e d f =
        let z : q + 1 - lo ≡ suc (q - lo) = omega arith in
        let y : lo + (q - lo) ≡ q = omega arith in
        rw (z, ← e, y) (f ∙ ap (λ (t : ℕ). arrived g r t v) d)

    pub passes_all : (v : Walk) (q end : ℕ) → q ≤ end → end ≤ q → v ≡ passed g r lo (q - lo) w → v ≡ passed g r lo (end - lo) w
    passes_all v q end h l e = let z : q ≡ end = omega arith in e ∙ ap (λ (q : ℕ). passed g r lo (q - lo) w) z

    -- the next position of the queue is one, and the tables have their room
    pub arrive_asks : r ≤ positions g → (v : Walk) → Sized (positions g) (joints g) w → (q t : ℕ) → lo ≤ q → q < w.more → t ≡ get_or v.queue q 0 → v ≡ passed g r lo (q - lo) w
        → (r ≤ positions g) × (t < positions g) × Sized (positions g) (joints g) v
    arrive_asks k v x q t h l f o =
        let y : Sized (positions g) (joints g) v = rw o (passes_sized (may g) r (omega (arith, g.few)) (own g) (class_of g) g.want owner g.incoming.froms.now
        g.incoming.index.now lo (q - lo) (λ t m j i. entries_place t m _ _ refl refl j i) w (omega arith) x) in
        let z : w.more ≤ v.more = rw o (passes_up (may g) r (own g) (class_of g) g.want g.incoming.froms.now g.incoming.index.now lo (q - lo) w) in
        (k, omega (arith, y.listed q (omega arith)), y)
