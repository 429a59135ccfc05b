-- `marks::note`: bit k is written at the first i positions.
use mathlib.Core.Path.{◌≡◌}
use mathlib.Core.Bool.{Bool}
use Prim.Native.Nat.{ℕ, ◌<◌}
use lib.ListN.{get_or}
use Rattle.atl.specs.Game.{States}
use Rattle.radix.specs.Classes.{filled}
use Rattle.marks.specs.Noted.{entry, NotedBy}
use Rattle.marks.proofs.note.Given as goal

abbrev pub invariant-loop-i : goal.invariant-loop-i
invariant-loop-i g l = record {
  set : (w : States) → ((i : ℕ) (on : Bool) → i < l.n → goal.F-post g l.test i (record { bits = get_or l.initial.marks i 0 }) on → on ≡ w i)
      → l.marks ≡ filled (entry l.k w l.initial.marks) l.initial.marks l.i;
  answered : NotedBy (λ i on. goal.F-post g l.test i (record { bits = get_or l.initial.marks i 0 }) on) l.i l.k l.initial.marks l.marks;
}
