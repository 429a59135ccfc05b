-- `nodes::mark_node`: by the kind of node, one node more is marked.
use mathlib.Core.Path.{refl}
use Rattle.nodes.proofs.Steps.{plain_test, node_asks, bit_asks, test_asks, test_step, not_step, and_step, or_step, future_step}
use Rattle.nodes.proofs.mark_node.Goals as goal

pub asked_at-q-requires : goal.asked_at-q-requires
asked_at-q-requires c = node_asks c.requires.0 c.args.k c.requires.1

pub mark_not-requires : goal.mark_not-requires
mark_not-requires c = bit_asks c.requires.0 c.args.k c.requires.1 c.args.marks.now c.requires.2

pub mark_and-requires : goal.mark_and-requires
mark_and-requires c = bit_asks c.requires.0 c.args.k c.requires.1 c.args.marks.now c.requires.2

pub mark_or-requires : goal.mark_or-requires
mark_or-requires c = bit_asks c.requires.0 c.args.k c.requires.1 c.args.marks.now c.requires.2

pub mark_future-requires : goal.mark_future-requires
mark_future-requires c = bit_asks c.requires.0 c.args.k c.requires.1 c.args.marks.now c.requires.2

pub mark_test-requires : goal.mark_test-requires
mark_test-requires c = test_asks c.requires.0 c.args.k c.requires.1 c.args.marks.now c.requires.2

pub returns-in-Not : goal.returns-in-Not
returns-in-Not c = not_step c.requires.0 c.args.k c.requires.1 _ c.asked_at-q.ensures c.args.marks.now _ c.requires.2 _ c.in-Not.is c.mark_not.ensures

pub returns-in-And : goal.returns-in-And
returns-in-And c = and_step c.requires.0 c.args.k c.requires.1 _ c.asked_at-q.ensures c.args.marks.now _ c.requires.2 _ _ c.in-And.is c.mark_and.ensures

pub returns-in-Or : goal.returns-in-Or
returns-in-Or c = or_step c.requires.0 c.args.k c.requires.1 _ c.asked_at-q.ensures c.args.marks.now _ c.requires.2 _ _ c.in-Or.is c.mark_or.ensures

pub returns-in-Can : goal.returns-in-Can
returns-in-Can c = future_step c.requires.0 c.args.k c.requires.1 _ c.asked_at-q.ensures c.args.marks.now _ c.requires.2 _ _ c.in-Can.is c.mark_future.ensures

pub returns-in_default : goal.returns-in_default
returns-in_default c =
    let other = c.in_default in
    test_step c.requires.0 c.args.k c.requires.1 _ c.asked_at-q.ensures c.args.marks.now _ c.requires.2 _ refl
    (plain_test c.args.k _ other.not-Not other.not-And other.not-Or other.not-Can) c.mark_test.ensures
