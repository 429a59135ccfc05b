-- The targets of a state are listed, one after the other.
use Prim.Native.Nat.{ℕ, ◌+◌, ◌≤◌, ◌<◌}
use mathlib.Core.Path.{◌≡◌, sym, ap, ◌∙◌, subst}
use mathlib.Core.List.{List, [], ◌∷◌, ◌++◌, append_assoc}
use native.Mathlib.Numerals.{add-one}
use native.Mathlib.Omega.{arith}
use lib.ListN.{length, get_or, take, drop, set, length-append, take-append-drop}
use lib.Seq.{take_all}
use Rattle.atl.specs.Bounded.{tabulate}
use Rattle.atl.proofs.Bounded.{length_tabulate, get_d_tabulate}
use Rattle.lookup.proofs.Place.{place_le}
use Rattle.meaning.specs.Lists.{place}
use Rattle.meaning.specs.Filling.{grown, add}
use Rattle.meaning.proofs.Filling.{add_append, add_take, add_more, numbers_take}
use Rattle.model.specs.declared.growing.Growing.{Growing}
use Rattle.model.specs.Tables.{Holds, numbers}
use Rattle.model.specs.Growing.{Numbered}
use Rattle.model.proofs.Holding.{holds_take, holds_more}

-- the first j of the targets ts are listed, where the tables held the states l and the successors z, of `at` joint moves
pub record Going (limit joints : ℕ) (l z : List ℕ) (at : ℕ) (ts : List ℕ) (j : ℕ) (g : Growing) : Type 0 where
  pub numbered : Numbered limit (add l (take j ts)) g
  pub successors_hold : Holds joints g.successors.now g.listed (z ++ numbers (add l (take j ts)) (take j ts))
  pub listed : g.listed ≡ at + j

module _ {limit joints : ℕ} {l z : List ℕ} {at : ℕ} where
  module _ (m : ℕ) (f : ℕ → ℕ) {j t : ℕ} {g : Growing} (going : Going limit joints l z at (tabulate m f) j g) (is : t ≡ f j) (b : j < m) where
    abbrev ts : List ℕ
    ts = tabulate m f

    inside : j < length (tabulate m f)
    inside = omega (arith, length_tabulate m f)

    one : t ≡ get_or (tabulate m f) j 0
    one = is ∙ sym (get_d_tabulate m f 0 j b)

    grows : grown (add l (take j (tabulate m f))) t ≡ add l (take (j + 1) (tabulate m f))
    grows = ap (grown (add l (take j ts))) one ∙ sym (ap (λ (k : ℕ). add l (take k ts)) (add-one j) ∙ add_take l ts j inside)

    stored : (z ++ numbers (add l (take j (tabulate m f))) (take j (tabulate m f))) ++ (place t (add l (take j (tabulate m f))) ∷ [])
        ≡ z ++ numbers (add l (take (j + 1) (tabulate m f))) (take (j + 1) (tabulate m f))
    stored =
        append_assoc z (numbers (add l (take j ts)) (take j ts)) _
        ∙ ap (λ (k : List ℕ). z ++ k)
        (ap (λ (x : ℕ). numbers (add l (take j ts)) (take j ts) ++ (place x (add l (take j ts)) ∷ [])) one
        ∙ sym (ap (λ (k : ℕ). numbers (add l (take k ts)) (take k ts)) (add-one j) ∙ numbers_take l ts j inside))

    -- the list that the code enters t into
    here : take g.found g.states.now ≡ add l (take j (tabulate m f))
    here = holds_take going.numbered.holds

    -- its number fits
    pub going_fits : {i : ℕ} → i ≡ place t (take g.found g.states.now) → i ≤ limit
    going_fits e = omega (arith, place_le t (take g.found g.states.now), ap length here, going.numbered.holds.count, going.numbered.holds.room)

    -- one more is listed
    pub going_more : {i : ℕ} {h : Growing} → (i ≡ place t (take g.found g.states.now)) × Numbered limit (grown (take g.found g.states.now) t) h → (h.successors ≡ g.successors) × (h.listed ≡ g.listed) → at + j < joints
        → Numbered limit (add l (take (j + 1) (tabulate m f))) h
        × Holds joints (set h.successors.now h.listed i) (h.listed + 1) (z ++ numbers (add l (take (j + 1) (tabulate m f))) (take (j + 1) (tabulate m f)))
        × (h.listed + 1 ≡ at + (j + 1))
    going_more {i} {h} w same room =
        let before : Holds joints h.successors.now h.listed (z ++ numbers (add l (take j (tabulate m f))) (take j (tabulate m f))) =
        rw (same.0, same.1) going.successors_hold in (
          subst (λ (k : List ℕ). Numbered limit k h) (ap (λ (k : List ℕ). grown k t) here ∙ grows) w.1,
          subst (λ (k : List ℕ). Holds joints (set h.successors.now h.listed i) (h.listed + 1) k)
              (ap (λ (x : ℕ). (z ++ numbers (add l (take j ts)) (take j ts)) ++ (x ∷ [])) (w.0 ∙ ap (place t) here) ∙ stored)
              (holds_more before i (omega (arith, same.1, going.listed))),
          omega (arith, same.1, going.listed),
        )

    pub going_over : limit < length (grown (take g.found g.states.now) t) → limit < length (add l (tabulate m f))
    going_over w =
        let (u, v) = add_more (add l (take (j + 1) ts)) (drop (j + 1) ts) in
        let all = ap (add l) (sym (take-append-drop (j + 1) ts)) ∙ add_append l (take (j + 1) ts) (drop (j + 1) ts) ∙ v in
        omega (arith, w, ap (λ (k : List ℕ). length (grown k t)) here, ap length grows, ap length all, length-append (add l (take (j + 1) ts)) u)

  pub going_all : (m : ℕ) (f : ℕ → ℕ) {j : ℕ} {g : Growing} → Going limit joints l z at (tabulate m f) j g → m ≤ j
      → Numbered limit (add l (tabulate m f)) g × Holds joints g.successors.now g.listed (z ++ numbers (add l (tabulate m f)) (tabulate m f))
  going_all m f {j} {g} h b =
      let whole : take j (tabulate m f) ≡ tabulate m f = take_all j (tabulate m f) (omega (arith, length_tabulate m f)) in
      (rw whole at h.numbered, rw whole at h.successors_hold)
