-- `marks::note`: the next entry is as it was, so the test is asked of it.
use mathlib.Core.Path.{◌≡◌, ap, ◌∙◌}
use Prim.Native.Nat.{ℕ}
use lib.ListN.{get_or}
use Rattle.facts.specs.declared.FactSet.{FactSet}
use Rattle.radix.proofs.Filling.{filled_none}
use Rattle.marks.proofs.Noting.{note_left, note_more, note_all, said_none, said_more, said_all}
use Rattle.marks.proofs.note.Goals as goal

abbrev set_of : ℕ → FactSet
set_of x = record { bits = x }

pub loop-i-init : goal.loop-i-init
loop-i-init g c = record { set = λ w f. filled_none _ _; answered = said_none (λ i on. goal.F-post g c.args.test i (set_of (get_or c.args.marks.now i 0)) on) _ _ }

pub loop-i-preserved : goal.loop-i-preserved
loop-i-preserved g c =
    let before = c.args.marks.now in
    let i = c.loop-i.i in
    let s = c.loop-i.invariant.answered in
    let asked : c.from.result ≡ set_of (get_or before i 0) = ap set_of (c.from.ensures ∙ note_left c.args.k s.0 before i c.loop-i.marks s.2) in
    let said = rw asked at c.test-on.ensures in
    record {
      set = λ w f. note_more c.args.k w before i _ _ _ (c.loop-i.invariant.set w f) (f i _ c.loop-i-test.true said) c.mark.ensures;
      answered = said_more (λ i on. goal.F-post g c.args.test i (set_of (get_or c.args.marks.now i 0)) on) c.args.k before i _ c.loop-i.invariant.answered said c.mark.ensures;
    }

pub returns : goal.returns
returns g c = record {
  set = λ w f. note_all c.args.k w c.args.marks.now c.loop-i.i c.args.n _ c.loop-i.auto.i-end c.loop-i-test.false (c.loop-i.invariant.set w f);
  answered = said_all (λ i on. goal.F-post g c.args.test i (set_of (get_or c.args.marks.now i 0)) on) c.args.k c.args.marks.now c.loop-i.i c.args.n c.loop-i.auto.i-end c.loop-i-test.false c.loop-i.invariant.answered;
}
