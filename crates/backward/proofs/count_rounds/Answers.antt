-- `backward::count_rounds`: the counters are filled, the positions of count 0 lined up, and walked from.
use native.Mathlib.Omega.{arith}
use mathlib.Core.Path.{sym, ap, subst, ◌∙◌}
use mathlib.Core.Bool.{cond}
use Prim.Native.Nat.{ℕ}
use lib.ListN.{length, length-replicate}
use Rattle.atl.specs.Bounded.{tabulate}
use Rattle.atl.specs.Marking.{unset}
use Rattle.marking.specs.Table.{side}
use Rattle.marking.specs.Board.{marked_by}
use Rattle.backward.specs.Walk.{Walk, Opens, Lined}
use Rattle.backward.specs.Ground.{positions}
use Rattle.backward.proofs.Lines.{all_in}
use Rattle.backward.proofs.count_rounds.Goals as goal

pub walk_rounds-requires : goal.walk_rounds-requires
walk_rounds-requires c =
    let g = c.args.ground in
    let e = c.enqueue.ensures.rest in
    let start = side g.want (marked_by c.args.start) in (
      omega (arith, all_in g.board.tables g.leads, c.requires.2, c.count_members.auto.left, ap (λ (w : Walk). length w.left) e),
      omega (arith, g.few, c.fill_need.auto.need, length-replicate {A = ℕ} 1024 0, ap (λ (w : Walk). length w.need) e),
      omega (arith, g.few, c.enqueue.ensures.room, length-replicate {A = ℕ} 1024 0),
      let P : Walk → Type 0 = λ w. Opens (positions g) g.board.joints.starts.now g.board.classes.now g.incoming.owners.now g.want w.left w.need in
          subst P (sym e) (record { lefts = c.count_members.ensures; needs = c.fill_need.ensures }),
      let P : ℕ → Type 0 = λ n. Lined n c.enqueue.new.self.more c.enqueue.new.self.rounds.now c.enqueue.new.self.queue in
          subst P (c.begin.auto.rounds ∙ c.requires.0) c.enqueue.ensures.lined,
      (start, ap (λ (w : Walk). w.rounds) e ∙ c.begin.ensures ∙ ap (λ (n : ℕ). tabulate n (λ i. cond (start i) 0 unset)) c.requires.0),
    )
