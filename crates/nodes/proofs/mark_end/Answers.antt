-- `nodes::mark_end`: the last node has rounds and choices exactly where it is EVENTUALLY.
use native.Mathlib.Omega.{arith}
use Prim.Native.Nat.{◌-◌}
use mathlib.Core.Path.{sym, ◌∙◌}
use Rattle.nodes.proofs.Sheet.{some_node}
use Rattle.nodes.proofs.Steps.{node_asks}
use Rattle.nodes.proofs.Ending.{last_below, all_nodes, last_asks, other_rounds, other_choices, reach_marks, reach_rounds, reach_choices}
use Rattle.nodes.proofs.mark_end.Goals as goal

pub overflow_sub-k : goal.overflow_sub-k
overflow_sub-k c = let z = some_node _ _ c.requires.0.asked.sheet in omega arith

pub asked_at-requires : goal.asked_at-requires
asked_at-requires c = node_asks c.requires.0 (c.args.held.layout.nodes - 1) (last_below c.requires.0)

pub mark_last-requires : goal.mark_last-requires
mark_last-requires c =
    let now = c.args.tables.now in
    last_asks c.requires.0 now.marks.now now.rounds.now now.choices.now c.requires.1 c.requires.2 c.requires.3

pub mark_node-requires : goal.mark_node-requires
mark_node-requires c = (c.requires.0, last_below c.requires.0, c.requires.1)

pub returns-in-Some-clause-marks : goal.returns-in-Some-clause-marks
returns-in-Some-clause-marks c =
    let now = c.args.tables.now in
    let reaches = sym c.goal_of.ensures ∙ c.in-Some.is in
    reach_marks c.requires.0 _ c.asked_at.ensures now.marks.now c.requires.1 now.rounds.now now.choices.now c.requires.2 c.requires.3 c.in-Some.field-0.coalition c.in-Some.field-0.goal reaches _ c.mark_last.ensures.marks

pub returns-in-Some-clause-rounds : goal.returns-in-Some-clause-rounds
returns-in-Some-clause-rounds c =
    let now = c.args.tables.now in
    let reaches = sym c.goal_of.ensures ∙ c.in-Some.is in
    reach_rounds c.requires.0 _ c.asked_at.ensures now.marks.now c.requires.1 now.rounds.now now.choices.now c.requires.2 c.requires.3 c.in-Some.field-0.coalition c.in-Some.field-0.goal reaches _ c.mark_last.ensures.rounds

pub returns-in-Some-clause-choices : goal.returns-in-Some-clause-choices
returns-in-Some-clause-choices c =
    let now = c.args.tables.now in
    let reaches = sym c.goal_of.ensures ∙ c.in-Some.is in
    reach_choices c.requires.0 _ c.asked_at.ensures now.marks.now c.requires.1 now.rounds.now now.choices.now c.requires.2 c.requires.3 c.in-Some.field-0.coalition c.in-Some.field-0.goal reaches _ c.mark_last.ensures.choices

pub returns-in-None-clause-marks : goal.returns-in-None-clause-marks
returns-in-None-clause-marks c = all_nodes c.requires.0 c.mark_node.ensures

pub returns-in-None-clause-rounds : goal.returns-in-None-clause-rounds
returns-in-None-clause-rounds c =
    let now = c.args.tables.now in
    other_rounds c.requires.0 _ c.asked_at.ensures now.marks.now c.requires.1 now.rounds.now now.choices.now c.requires.2 c.requires.3 (sym c.goal_of.ensures ∙ c.in-None.is)

pub returns-in-None-clause-choices : goal.returns-in-None-clause-choices
returns-in-None-clause-choices c =
    let now = c.args.tables.now in
    other_choices c.requires.0 _ c.asked_at.ensures now.marks.now c.requires.1 now.rounds.now now.choices.now c.requires.2 c.requires.3 (sym c.goal_of.ensures ∙ c.in-None.is)
