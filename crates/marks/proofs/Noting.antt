-- Writing one node's bit, position by position.
use mathlib.Core.Path.{◌≡◌, refl, sym, ap, ap₂, ◌∙◌, subst}
use mathlib.Core.Bool.{Bool, true, false, cond}
use mathlib.Core.List.{List}
use Prim.Native.Nat.{ℕ, ◌+◌, ◌≤◌, ◌<◌}
use native.Mathlib.Nat.{le_refl}
use native.Mathlib.Omega.{arith}
use borrow.Author.Tests.{eqb-true, eqb-false, eq-eqb, ne_eqb}
use lib.Dec.{eqb}
use lib.ListN.{get_or, set}
use Rattle.facts.specs.Pack.{add_if}
use Rattle.atl.specs.Game.{States}
use Rattle.radix.specs.Classes.{filled}
use Rattle.radix.proofs.Filling.{filled_none, filled_more, filled_left, ranged_cong}
use Rattle.marks.specs.Noted.{entry, noted, NotedBy}

-- sets that agree below n write the same bits
pub noted_cong : (n k : ℕ) (v w : States) (l : List ℕ) → ((i : ℕ) → i < n → v i ≡ w i) → noted n k v l ≡ noted n k w l
noted_cong n k v w l e = ranged_cong (entry k v l) (entry k w l) 0 l n (λ i h. ap (λ (x : Bool). add_if x (get_or l i 0) k) (e i h))

-- one position after the other
module _ (k : ℕ) (w : States) (l : List ℕ) where
  -- the next entry is as it was
  pub note_left : (i : ℕ) (m : List ℕ) → m ≡ filled (entry k w l) l i → get_or m i 0 ≡ get_or l i 0
  note_left i m e = ap (λ (x : List ℕ). get_or x i 0) e ∙ filled_left (entry k w l) l i i 0 (le_refl i)

  pub note_more : (i : ℕ) (m m' : List ℕ) (on : Bool) → m ≡ filled (entry k w l) l i → on ≡ w i → m' ≡ set m i (add_if on (get_or m i 0) k) → m' ≡ filled (entry k w l) l (i + 1)
  note_more i m m' on e d f =
      f ∙ filled_more (entry k w l) l i _ m e (ap₂ (λ (x : Bool) (y : ℕ). add_if x y k) d (note_left i m e))

  pub note_all : (i n : ℕ) (m : List ℕ) → i ≤ n → n ≤ i → m ≡ filled (entry k w l) l i → m ≡ noted n k w l
  note_all i n m a b e = let z : i ≡ n = omega arith in e ∙ ap (filled (entry k w l) l) z

-- the answers so far
module _ (P : ℕ → Bool → Type 0) (k : ℕ) (l : List ℕ) where
  pub said_none : NotedBy P 0 k l l
  said_none = (λ i. false, λ i h. absurd (omega arith), filled_none _ _)

  -- one answer more
  pub said_more : (i : ℕ) {m m' : List ℕ} (on : Bool) → NotedBy P i k l m → P i on → m' ≡ set m i (add_if on (get_or m i 0) k) → NotedBy P (i + 1) k l m'
  said_more i {m} {m'} on (w, p, e) q f =
      (v, part, note_more k v l i m m' on (e ∙ noted_cong i k w v l (λ j h. sym (ap (λ (t : Bool). cond t on (w j)) (ne_eqb j i (λ z. omega (arith, z, h)))))) (sym (ap (λ (t : Bool). cond t on (w i)) (eq-eqb i i refl))) f)
    where
      v : States
      v j = cond (eqb j i) on (w j)

      part : (j : ℕ) → j < i + 1 → P j (v j)
      part j h = go (eqb j i) refl
        where
          go : (t : Bool) → eqb j i ≡ t → P j (cond t on (w j))
          go true z = subst (λ (x : ℕ). P x on) (sym (eqb-true j i z)) q
          go false z = p j (omega (arith, h, eqb-false j i z))

  pub said_all : (i n : ℕ) {m : List ℕ} → i ≤ n → n ≤ i → NotedBy P i k l m → NotedBy P n k l m
  said_all i n {m} a b s = let z : i ≡ n = omega arith in subst (λ (x : ℕ). NotedBy P x k l m) z s
