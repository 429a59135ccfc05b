-- `Sets::number_of` meets its contract: what the roles that are left add to the number so far gives the whole number.
use Rattle.std.proofs.Common.{◌≤◌, ◌≡◌, sym, ap, ap₂, ◌∙◌, arith, inl, inr, ℕ, ◌*◌, ◌<◌, List, ◌∷◌, length, drop, length-append}
use Rattle.choices.specs.Moves.{members, rank}
use Rattle.choices.specs.Encode.{So, front, past, turn, end, product_fits, rank_le}
use Rattle.choices.proofs.Sets.number_of.Goals as goal

-- the product of a turn is small
small : (ss ms : List ℕ) (z p n s c : ℕ) (rest : List ℕ) → length ss ≤ 4 → So ss ms z p n → s ∷ rest ≡ drop p ss → c ≡ length (members s) → n * c < 100000
small ss ms z p n s c rest few so e f =
    let (h, x, t) = front ss p s rest e in
    product_fits ss ms z p n few h so c (f ∙ ap (λ (y : ℕ). length (members y)) x)

pub overflow_mul-n : goal.overflow_mul-n
overflow_mul-n c =
    let l = c.loop-set in
    let v = l.invariant in
    let e = c.in-Some.ensures.steps in
    omega (arith, small c.args.self.sets.now c.args.moves.now _ (length l.yielded) l.n _ c.count.result _ c.args.self.few v.so (sym e.0 ∙ v.roles) c.count.ensures)

pub overflow_add-n : goal.overflow_add-n
overflow_add-n c =
    let l = c.loop-set in
    let v = l.invariant in
    let e = c.in-Some.ensures.steps in
    omega (arith, c.below.ensures, rank_le c.in-Some.set.now c.in-Some.m.now, small c.args.self.sets.now c.args.moves.now _ (length l.yielded) l.n _ c.count.result _ c.args.self.few v.so (sym e.0 ∙ v.roles) c.count.ensures)

pub loop-set-preserved : goal.loop-set-preserved
loop-set-preserved c =
    let l = c.loop-set in
    let v = l.invariant in
    let e = c.in-Some.ensures.steps in
    let sets = c.args.self.sets.now in
    let moves = c.args.moves.now in
    let p = length l.yielded in
    let (h, x, t) = front sets p c.in-Some.set.now c.next.new.self.a.rest.now (sym e.0 ∙ v.roles) in
    let (k, y, u) = front moves p c.in-Some.m.now c.next.new.self.b.rest.now (sym e.1 ∙ v.moved) in
    simp length-append record {
      so = turn sets moves _ p l.n c.args.self.few h v.so k c.count.result c.below.result (c.count.ensures ∙ ap (λ (y : ℕ). length (members y)) x) (c.below.ensures ∙ ap₂ rank x y);
      roles = t;
      moved = u;
    }

pub returns : goal.returns
returns c =
    let l = c.loop-set in
    let v = l.invariant in
    end c.args.self.sets.now c.args.moves.now _ (length l.yielded) l.n v.so
    (elim c.in-None.ensures.steps [
      | inl h ↦ inl (past _ _ (sym (ap length v.roles) ∙ h.1.0))
      | inr h ↦ inr (past _ _ (sym (ap length v.moved) ∙ h.1.0))
    ])
