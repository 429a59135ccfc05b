-- `nodes::mark_all`: the marks of all nodes, the rounds and choices of the last one, and its mark at state 0.
use native.Mathlib.Omega.{arith}
use mathlib.Core.Path.{ap, ◌∙◌}
use Prim.Native.Nat.{ℕ, ◌-◌}
use Rattle.facts.specs.Bits.{has}
use Rattle.nodes.proofs.Sheet.{some_node}
use Rattle.nodes.proofs.Beginning.{begun}
use Rattle.nodes.proofs.Steps.{modelled}
use Rattle.nodes.proofs.Ending.{marks_all, marks_some, verdict_all}
use Rattle.nodes.proofs.mark_all.Goals as goal

pub invariant_of-arena : goal.invariant_of-arena
invariant_of-arena c = record { model = modelled (begun c.requires.0); leads = c.requires.1 }

pub mark_first-requires : goal.mark_first-requires
mark_first-requires c = (begun c.requires.0, c.requires.2)

pub mark_end-requires : goal.mark_end-requires
mark_end-requires c = (begun c.requires.0, c.mark_first.ensures, c.requires.3, c.requires.4)

pub overflow_sub-last : goal.overflow_sub-last
overflow_sub-last c = let z = some_node _ _ c.requires.0.sheet in omega arith

pub bounds-tables-0 : goal.bounds-tables-0
bounds-tables-0 c = marks_some (begun c.requires.0) c.mark_end.ensures.marks

pub returns-clause-answered : goal.returns-clause-answered
returns-clause-answered c =
    let ready = begun c.requires.0 in
    record {
      marks_are = marks_all ready _ c.mark_end.ensures.marks;
      rounds_are = c.mark_end.ensures.rounds;
      choices_are = c.mark_end.ensures.choices;
      verdict_is = verdict_all ready _ _ c.mark_end.ensures.marks (c.has.ensures ∙ ap (λ (x : ℕ). has x (c.args.held.layout.nodes - 1)) c.from.ensures);
    }
