-- What the sheet's checks give of one rule: its head names a fact, a role and a move of the sheet, and DOES stands under NEXT only.
use Prim.Native.Nat.{ℕ, ◌≤◌, ◌<◌}
use mathlib.Core.Path.{◌≡◌, refl, sym, ap, ◌∙◌, subst}
use mathlib.Core.Bool.{Bool, true, false, cond}
use mathlib.Core.List.Memᴰ
use mathlib.Core.List.{List, [], ◌∷◌, Memᴰ}
use native.Mathlib.Omega.{arith}
use borrow.Author.Tests.{ltb-true, leb-true, eqb-true, eqb-false, ne_eqb, not-true}
use lib.Dec.{eqb, ltb, leb}
use lib.ListN.{length}
use Rattle.facts.specs.Truth.{and_left, and_right}
use Rattle.sheet.specs.declared.Sizes.{Sizes}
use Rattle.sheet.specs.declared.Limits.{Limits}
use Rattle.sheet.specs.declared.record.Part.{Part}
use Rattle.sheet.specs.Data.{Rule}
use Rattle.sheet.specs.Fields.{sizes_fit, within, head_limits, head_fits, literal_fits, every, plain, rule_fits, form_fits, RulesFit}
use Rattle.sheet.specs.Fields as fields

-- the sizes
pub record Room (z : Sizes) : Type 0 where
  pub roles : z.roles ≤ 4
  pub facts : z.facts ≤ 64
  pub moves : z.moves ≤ 16

pub sizes_room : (z : Sizes) → sizes_fit z ≡ true → Room z
unfolding sizes_fit
sizes_room z e =
    let a = and_right (leb 1 z.roles) _ e in
    let b = and_right (leb z.roles 4) _ a in
    let c = and_right (leb 1 z.facts) _ b in
    let d = and_right (leb z.facts 64) _ c in
    let f = and_right (leb z.views 64) _ d in
    record {
      roles = leb-true z.roles 4 (and_left _ _ a);
      facts = leb-true z.facts 64 (and_left _ _ c);
      moves = leb-true z.moves 16 (and_right (leb 1 z.moves) _ f);
    }

-- one rule of many
pub rule_fits_lem : (z : Sizes) (rs : List Rule) → RulesFit z rs → (r : Rule) → Memᴰ r rs → (rule_fits z r ≡ true) × (form_fits r ≡ true)
rule_fits_lem z [] _ r x3 = elim x3 [ ]
rule_fits_lem z (p ∷ rs) (fields.one few a b rest) r (Memᴰ.head e) = subst (λ (q : Rule). (rule_fits z q ≡ true) × (form_fits q ≡ true)) (sym e) (a, b)
rule_fits_lem z (p ∷ rs) (fields.one few a b rest) r (Memᴰ.tail i) = rule_fits_lem z rs rest r i

-- each field is below its limit
within_both : (l : Limits) (a b : ℕ) → within l a b 0 ≡ true → (a < l.a) × (b < l.b)
unfolding within
within_both l a b e = (ltb-true a l.a (and_left _ _ e), ltb-true b l.b (and_left _ _ (and_right (ltb a l.a) _ e)))

head_below : (z : Sizes) (r : Rule) (kind : ℕ) → rule_fits z r ≡ true → r.head.kind ≡ kind → (r.head.a < (head_limits z kind).a) × (r.head.b < (head_limits z kind).b)
unfolding rule_fits head_fits
head_below z r kind e k =
    subst (λ (x : ℕ). (r.head.a < (head_limits z x).a) × (r.head.b < (head_limits z x).b)) k
    (within_both (head_limits z r.head.kind) r.head.a r.head.b (and_left (head_fits z r.head) (every (literal_fits z) r.body) e))

module _ (z : Sizes) (r : Rule) (fit : rule_fits z r ≡ true) where
  pub init_below : r.head.kind ≡ 1 → r.head.a < z.facts
  unfolding head_limits
  init_below k = (head_below z r 1 fit k).0

  pub next_below : r.head.kind ≡ 2 → r.head.a < z.facts
  unfolding head_limits
  next_below k = (head_below z r 2 fit k).0

  pub legal_below : r.head.kind ≡ 4 → (r.head.a < z.roles) × (r.head.b < z.moves)
  unfolding head_limits
  legal_below k = head_below z r 4 fit k

-- no DOES but under NEXT
every_in : (f : Part → Bool) (b : List Part) → every f b ≡ true → (l : Part) → Memᴰ l b → f l ≡ true
every_in f [] e l x'' = elim x'' [ ]
every_in f (p ∷ b) e l (Memᴰ.head q) = ap f q ∙ and_left (f p) (every f b) e
every_in f (p ∷ b) e l (Memᴰ.tail i) = every_in f b (and_right (f p) (every f b) e) l i

empty_body : (b : List Part) → length b ≡ 0 → (l : Part) → Memᴰ l b → ⊥
empty_body [] e l i = Memᴰ.not-nil i
empty_body (p ∷ b) e l i = absurd (omega arith)

pub no_does : (r : Rule) → form_fits r ≡ true → (r.head.kind ≡ 2 → ⊥) → (l : Part) → Memᴰ l r.body → l.kind ≡ 5 → ⊥
unfolding form_fits
no_does r e n l i five = go (eqb r.head.kind 1) refl
  where
    go : (t : Bool) → eqb r.head.kind 1 ≡ t → ⊥
    go true q = empty_body r.body (eqb-true (length r.body) 0 (sym (ap (λ (t : Bool). cond t (eqb (length r.body) 0) (cond (eqb r.head.kind 2) true (every plain r.body))) q) ∙ e)) l i
    go false q =
        let p : every plain r.body ≡ true =
        sym (ap (λ (t : Bool). cond t (eqb (length r.body) 0) (cond (eqb r.head.kind 2) true (every plain r.body))) q
        ∙ ap (λ (t : Bool). cond t true (every plain r.body)) (ne_eqb r.head.kind 2 n)) ∙ e in
        eqb-false l.kind 5 (not-true (eqb l.kind 5) (every_in plain r.body p l i)) five
