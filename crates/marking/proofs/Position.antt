-- What the loops over the joint moves of one position come to.
use mathlib.Core.Path.{◌≡◌, refl, sym, ap, ◌∙◌}
use mathlib.Core.Bool.{true, false}
use mathlib.Core.List.{List, [], ◌∷◌}
use Prim.Native.Nat.{ℕ, zero, suc, ◌+◌, ◌-◌, ◌≤◌, ◌<◌}
use native.Mathlib.Omega.{arith}
use native.Mathlib.Nat.{le_refl, not-suc-le-zero, le_of_suc-le-suc}
use lib.ListN.{get_or, length, take, drop, length-take, length-drop}
use lib.Dec.{eqb}
use Rattle.atl.specs.Bounded.{lowest}
use Rattle.atl.specs.Game.{Game, States}
use Rattle.atl.specs.Marking.{secures, force}
use Rattle.atl.proofs.Bounded.{some_fails, lowest_lt, lowest_none}
use Rattle.radix.specs.Classes.{moves_at}
use Rattle.marking.specs.Table.{in_tables, Tables}
use Rattle.marking.specs.Flags.{cleared, strike, strikes, first_of}
use Rattle.std.specs.Prelude.{Option, Some, None, position}
use Rattle.std.specs.Option.{is_some, unwrap_or}
use Rattle.std.proofs.lemmas.List.{get_or-take, get_or-drop}
use Rattle.marking.proofs.Flags.{clean_position, first_found, first_none}

-- in range, no default is read
pub get_d_default {ℓ} : {A : Type ℓ} (l : List A) (i : ℕ) (d e : A) → i < length l → get_or l i d ≡ get_or l i e
get_d_default [] i d e h = absurd (not-suc-le-zero h)
get_d_default (x ∷ l) zero d e h = refl
get_d_default (x ∷ l) (suc i) d e h = get_d_default l i d e (le_of_suc-le-suc h)

-- the joint moves of a position, one after the other
module _ (successors classes : List ℕ) (w : States) (first : ℕ) (l : List ℕ) where
  pub strikes_none : l ≡ strikes successors classes w first l (first - first)
  unfolding strikes
  strikes_none = let z : first - first ≡ 0 = omega arith in rw z refl

  pub strikes_more : (p t c : ℕ) (m m' : List ℕ) → first ≤ p → m ≡ strikes successors classes w first l (p - first)
      → t ≡ get_or successors p 0 → c ≡ get_or classes p 0 → m' ≡ strike (w t) m c → m' ≡ strikes successors classes w first l (p + 1 - first)
  unfolding strikes
  strikes_more p t c m m' h e d f g =
      let z : p + 1 - first ≡ suc (p - first) = omega arith in
      let y : first + (p - first) ≡ p = omega arith in
      rw (z, y) (g ∙ rw (d, f, e) refl)

-- one position
module _ {n : ℕ} {starts successors classes : List ℕ} (s : Tables n starts successors classes) (i : ℕ) (h : i < n)
    (first last : ℕ) (p : first ≡ get_or starts i 0) (q : last ≡ get_or starts (i + 1) 0)
  where
    -- a joint move of it is in the tables, leads to a position, and has a class of its own
    pub place_in : (k : ℕ) → first ≤ k → k < last → (k < length successors) × (k < length classes) × (get_or successors k 0 < n) × (get_or classes k 0 < last - first)
    place_in k a b =
        let z : get_or starts i 0 + (k - get_or starts i 0) ≡ k = omega arith in (
          omega (arith, s.placed.within i h),
          omega (arith, s.placed.within i h, s.classed),
          rw z at (s.landed i h (k - get_or starts i 0) (omega arith)),
          let y : get_or classes k 0 < moves_at starts i = rw z at (s.low i h (k - get_or starts i 0) (omega arith)) in omega arith,
        )

    -- all of them, with the flags cleared before
    pub struck : (w : States) (l m k : List ℕ) (x : ℕ) → m ≡ cleared l (last - first) → last ≤ x → x ≤ last
        → k ≡ strikes successors classes w first m (x - first)
        → k ≡ strikes successors classes w (get_or starts i 0) (cleared l (moves_at starts i)) (moves_at starts i)
    struck w l m k x e a b d =
        let z : x - first ≡ moves_at starts i = omega arith in
        let y : last - first ≡ moves_at starts i = omega arith in
        d ∙ rw (z, p) (ap (λ (u : List ℕ). strikes successors classes w (get_or starts i 0) u (moves_at starts i)) (e ∙ ap (cleared l) y))

    pub places_in : (first < last) × (last ≤ length successors) × (last ≤ length classes)
    places_in = (omega (arith, s.placed.up i h), omega (arith, s.placed.within i h), omega (arith, s.placed.within i h, s.classed))

-- what was found: a choice that secures the set
pub found_is : {n : ℕ} {starts successors classes : List ℕ} (s : Tables n starts successors classes) (i : ℕ) (h : i < n) (first last : ℕ)
    (p : first ≡ get_or starts i 0) (q : last ≡ get_or starts (i + 1) 0) (w : States) (l flags : List ℕ) (x : Option ℕ) → length successors ≤ length l
    → flags ≡ strikes successors classes w (get_or starts i 0) (cleared l (moves_at starts i)) (moves_at starts i)
    → x ≡ position (λ c. eqb (get_or flags c 0) 0) (take (last - first) (drop first classes))
    → x ≡ first_of (moves_at starts i) (secures (in_tables n starts successors classes) w i)
found_is {n} {starts} {successors} {classes} s i h first last p q w l flags x room e f =
    let a = places_in s i h first last p q in
    let z : moves_at starts i ≡ last - first = omega arith in
    f ∙ ap (λ (u : List ℕ). position (λ c. eqb (get_or u c 0) 0) (take (last - first) (drop first classes))) e
    ∙ clean_position n starts successors classes s w i h l (get_or starts i 0) (moves_at starts i) refl refl (omega arith)
    (take (last - first) (drop first classes)) (omega (arith, length-take (last - first) (drop first classes), length-drop first classes))
    (λ j g. get_or-take (last - first) (drop first classes) j 0 (omega arith) ∙ get_or-drop first classes j 0 ∙ ap (λ (y : ℕ). get_or classes (y + j) 0) p)

-- as a test and as a number
module _ (G : Game) (w : States) (i : ℕ) (f : Option ℕ) (e : f ≡ first_of (G.moves i) (secures G w i)) where
  found_force : (j : ℕ) → f ≡ Some j → force G w i ≡ true
  unfolding force
  found_force j q = (first_found (G.moves i) (secures G w i) j (sym e ∙ q)).0

  none_force : f ≡ None → force G w i ≡ false
  unfolding force
  none_force q = first_none (G.moves i) (secures G w i) (sym e ∙ q)

  pub found_lowest : (j : ℕ) → f ≡ Some j → j ≡ lowest (G.moves i) (secures G w i)
  found_lowest j q = sym (first_found (G.moves i) (secures G w i) j (sym e ∙ q)).1

  pub none_lowest : f ≡ None → G.moves i ≡ lowest (G.moves i) (secures G w i)
  none_lowest q = sym (lowest_none (G.moves i) (secures G w i) (some_fails (G.moves i) (secures G w i) (first_none (G.moves i) (secures G w i) (sym e ∙ q))))

  pub found_some : is_some f ≡ force G w i
  found_some = go f refl
    where
      go : (g : Option ℕ) → f ≡ g → is_some g ≡ force G w i
      go (Some j) q = sym (found_force j q)
      go None q = sym (none_force q)

  pub found_number : unwrap_or f (G.moves i) ≡ lowest (G.moves i) (secures G w i)
  found_number = go f refl
    where
      go : (g : Option ℕ) → f ≡ g → unwrap_or g (G.moves i) ≡ lowest (G.moves i) (secures G w i)
      go (Some j) q = found_lowest j q
      go None q = none_lowest q

  pub found_within : unwrap_or f (G.moves i) ≤ G.moves i
  found_within = go f refl
    where
      go : (g : Option ℕ) → f ≡ g → unwrap_or g (G.moves i) ≤ G.moves i
      go (Some j) q = let (a, b) = first_found (G.moves i) (secures G w i) j (sym e ∙ q) in omega (arith, lowest_lt (G.moves i) (secures G w i) a)
      go None q = le_refl (G.moves i)
