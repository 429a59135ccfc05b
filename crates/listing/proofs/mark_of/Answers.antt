-- `listing::mark_of` meets its contract: the shift is the bit, and there is no bit beyond the word.
use native.Mathlib.Omega.{arith}
use Rattle.facts.specs.Bits.{bit}
use Rattle.facts.specs.Laws.{bit_beyond}
use Prim.Native.Nat.{ℕ}
use mathlib.Core.Path.{sym, ap, ◌∙◌}
use Rattle.listing.proofs.mark_of.Goals as goal

pub returns-else-node-lt64 : goal.returns-else-node-lt64
returns-else-node-lt64 c =
    let node = c.args.node in
    let word = c.entry-word in
    sym (ap (λ (w : ℕ). bit w node) (sym (word.ensures 0 (λ d e. e))) ∙ bit_beyond 64 word.result node (omega arith) (omega arith))
