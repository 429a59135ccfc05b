-- `model::growing::Growing::reset` meets its contract: each table is cleared by itself, then one state is stored.
use native.Mathlib.Omega.{arith}
use Rattle.std.proofs.Common.{refl, ap, ◌∙◌}
use lib.ListN.{set}
use mathlib.Core.List.{[]}
use Rattle.tables.specs.Lengths.{state_limit}
use Rattle.tables.proofs.Pad.{cleared, set_pad}
use Rattle.model.proofs.growing.Growing.reset.Goals as goal

pub returns-clause-fresh : goal.returns-clause-fresh
returns-clause-fresh c = record {
  states_are = ap (λ l. set l 0 c.args.x) (cleared _ _ _ (c.fill.ensures.after (λ y e. e)) c.requires.states_long) ∙ set_pad state_limit [] c.args.x (omega arith);
  starts_zero = cleared _ _ _ (c.fill-2.ensures.after (λ y e. e)) c.requires.starts_long;
  successors_zero = cleared _ _ _ (c.fill-3.ensures.after (λ y e. e)) c.requires.successors_long;
  counts_zero = cleared _ _ _ (c.fill-4.ensures.after (λ y e. e)) c.requires.counts_long;
  views_zero = cleared _ _ _ (c.fill-5.ensures.after (λ y e. e)) c.requires.views_long;
  one_found = refl;
  none_listed = refl;
}
