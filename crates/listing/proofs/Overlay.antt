-- Texts written into a buffer one after another are one text, and what the buffer then holds.
use Prim.Native.Nat.{ℕ, suc, ◌+◌, ◌≤◌, ◌<◌, min}
use mathlib.Core.Bool.{Bool, true, false}
use mathlib.Core.Path.{◌≡◌, refl, sym, ap, ◌∙◌, subst}
use mathlib.Core.List.{List, [], ◌∷◌, ◌++◌}
use native.Mathlib.Nat.{add-zero, add-suc, suc-add}
use native.Mathlib.Numerals.{add-one}
use native.Mathlib.Omega.{arith}
use lib.Dec.{leb}
use lib.ListN.{length, take, drop, get_or, set, length-append}
use lib.Seq.{length-sets, set_out, take-suc, take_all, drop-nil}
use borrow.Author.Tests.{leb-true, leb-false}
use Rattle.listing.specs.Buffer.{Prints, Stands}
use Rattle.listing.specs.declared.text.Text.{Text}
use Rattle.listing.specs.Wrote.{overlaid, Wrote, Adds}

-- a text that starts behind the end changes nothing
overlaid_out : (l : List ℕ) (at : ℕ) (t : List ℕ) → length l ≤ at → overlaid l at t ≡ l
unfolding overlaid
overlaid_out l at [] h = refl
overlaid_out l at (x ∷ t) h = rw (set_out l at x h) (overlaid_out l (suc at) t (omega arith))

overlaid_more : (l : List ℕ) (at : ℕ) (s t : List ℕ) → overlaid (overlaid l at s) (at + length s) t ≡ overlaid l at (s ++ t)
unfolding overlaid
overlaid_more l at [] t = rw add-zero
overlaid_more l at (x ∷ s) t = rw (add-suc, ← suc-add) (overlaid_more (set l at x) (suc at) s t)

length_overlaid : (l : List ℕ) (at : ℕ) (t : List ℕ) → length (overlaid l at t) ≡ length l
unfolding overlaid
length_overlaid l at t = length-sets l at t

-- the second text goes on where the first ends, or at the buffer's end
overlaid_on : (l : List ℕ) (at : ℕ) (s t : List ℕ) → overlaid (overlaid l at s) (min (at + length s) (length l)) t ≡ overlaid l at (s ++ t)
overlaid_on l at s t = go (leb (at + length s) (length l)) refl
  where
    go : (b : Bool) → leb (at + length s) (length l) ≡ b → overlaid (overlaid l at s) (min (at + length s) (length l)) t ≡ overlaid l at (s ++ t)
    go true e =
        let here : min (at + length s) (length l) ≡ at + length s = omega (arith, leb-true (at + length s) (length l) e) in
        rw here (overlaid_more l at s t)
    go false e =
        let size = length_overlaid l at s in
        let beyond = leb-false (at + length s) (length l) e in
        let here : min (at + length s) (length l) ≡ length l = omega arith in
        rw here
        (overlaid_out (overlaid l at s) (length l) t (omega arith)
        ∙ sym (overlaid_out (overlaid l at s) (at + length s) t (omega arith))
        ∙ overlaid_more l at s t)

pub wrote_length : {l o t : List ℕ} {at q : ℕ} → Wrote l at t o q → length o ≡ length l
wrote_length {l} {o} {t} {at} w = ap length w.out ∙ length_overlaid l at t

-- nothing is written yet
pub wrote_none : {l : List ℕ} {at q : ℕ} → q ≡ min at (length l) → Wrote l at [] l q
unfolding overlaid
wrote_none e = record { end = rw add-zero e; out = refl }

-- one text after another
pub wrote_two : {l m o s t : List ℕ} {at p q : ℕ} → Wrote l at s m p → Wrote m p t o q → Wrote l at (s ++ t) o q
wrote_two {l} {m} {o} {s} {t} {at} {p} {q} f g =
    let size = wrote_length f in
    record {
      end = omega (arith, f.end, g.end, length-append s t);
      out = g.out ∙ ap (λ (k : List ℕ). overlaid k p t) f.out ∙ ap (λ (k : ℕ). overlaid (overlaid l at s) k t) f.end ∙ overlaid_on l at s t;
    }

-- one byte inside the buffer, and one behind its end
pub wrote_byte : (l : List ℕ) (at x : ℕ) → at < length l → Wrote l at (x ∷ []) (set l at x) (at + 1)
unfolding overlaid
wrote_byte l at x h = record { end = omega arith; out = refl }

pub wrote_full : (l : List ℕ) (at x : ℕ) → at ≤ length l → length l ≤ at → Wrote l at (x ∷ []) l at
wrote_full l at x below above = record { end = omega arith; out = sym (overlaid_out l at (x ∷ []) above) }

-- ---- a text that grows

-- nothing more
pub adds_none : (t : Text) → t.at ≤ length t.out.now → Adds t [] t
adds_none t h = record { same = refl; wrote = wrote_none (omega arith) }

-- one text after another
pub adds_two : {t u v : Text} {s r : List ℕ} → Adds t s u → Adds u r v → Adds t (s ++ r) v
adds_two f g = record { same = g.same ∙ f.same; wrote = wrote_two f.wrote g.wrote }

pub adds_same : {t u : Text} {s r : List ℕ} → s ≡ r → Adds t s u → Adds t r u
adds_same {t} {u} e a = subst (λ x. Adds t x u) e a

-- six texts, one after another
pub adds_six : {t₀ t₁ t₂ t₃ t₄ t₅ t₆ : Text} {s₁ s₂ s₃ s₄ s₅ s₆ : List ℕ}
    → Adds t₀ s₁ t₁
    → Adds t₁ s₂ t₂
    → Adds t₂ s₃ t₃
    → Adds t₃ s₄ t₄
    → Adds t₄ s₅ t₅
    → Adds t₅ s₆ t₆
    → Adds t₀ (((((s₁ ++ s₂) ++ s₃) ++ s₄) ++ s₅) ++ s₆) t₆
adds_six a b c d e f = adds_two (adds_two (adds_two (adds_two (adds_two a b) c) d) e) f

-- bytes of a text, one after another: one more, and all of them
pub adds_more : {t u v : Text} (s : List ℕ) (j : ℕ) → j < length s → Adds t (take j s) u → Adds u (get_or s j 0 ∷ []) v → Adds t (take (j + 1) s) v
adds_more s j h f g = adds_same (rw add-one (sym (take-suc s j 0 h))) (adds_two f g)

pub adds_all : {t u : Text} {s : List ℕ} (j : ℕ) → length s ≤ j → Adds t (take j s) u → Adds t s u
adds_all {s = s} j h a = adds_same (take_all j s h) a

-- ---- what the public functions say

overlaid_shift : (x : ℕ) (l : List ℕ) (i : ℕ) (t : List ℕ) → overlaid (x ∷ l) (suc i) t ≡ x ∷ overlaid l i t
unfolding overlaid
overlaid_shift x l i [] = refl
overlaid_shift x l i (y ∷ t) = overlaid_shift x (set l i y) (suc i) t

overlaid_start : (l t : List ℕ) → overlaid l 0 t ≡ take (length l) t ++ drop (length t) l
unfolding overlaid
overlaid_start [] t = overlaid_out [] 0 t (omega arith) ∙ sym (drop-nil (length t))
overlaid_start (x ∷ l) [] = refl
overlaid_start (x ∷ l) (y ∷ t) = overlaid_shift y l 0 t ∙ ap (λ (k : List ℕ). y ∷ k) (overlaid_start l t)

-- a text that was begun at the buffer's start
pub prints : {l o s : List ℕ} {t u : Text} → t.out.now ≡ l → t.at ≡ 0 → Adds t s u → o ≡ u.out.now → Prints s l o u.at
prints {l} {o} {s} {t} {u} e f a g = go (rw (← e, ← f) a.wrote)
  where
    go : Wrote l 0 s u.out.now u.at → Prints s l o u.at
    go w = record { out = g ∙ w.out ∙ overlaid_start l s; count = omega (arith, w.end) }

-- where the buffer is long enough nothing is cut
pub stands : {l o t : List ℕ} {q : ℕ} → length t ≤ length l → Prints t l o q → Stands t l o q
stands {l} {o} {t} {q} h p =
    record { out = p.out ∙ ap (λ (k : List ℕ). k ++ drop (length t) l) (take_all (length l) t h); count = omega (arith, p.count) }
