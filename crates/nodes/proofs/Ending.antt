-- The last node: its rounds and choices where it is EVENTUALLY, none elsewhere; and the verdict.
use Prim.Native.Nat.{ℕ, ◌+◌, ◌-◌, ◌*◌, ◌≤◌, ◌<◌}
use mathlib.Core.Path.{◌≡◌, refl, sym, ap, ◌∙◌}
use mathlib.Core.Bool.{Bool}
use mathlib.Core.List.{List, [], ◌++◌}
use native.Mathlib.Omega.{arith}
use lib.ListN.{length, get_or, take, drop}
use Rattle.facts.specs.Bits.{has}
use Rattle.facts.specs.Pack.{pack, has_pack}
use Rattle.tables.specs.Lengths.{state_limit, move_limit}
use Rattle.tables.specs.Pad.{pad}
use Rattle.tables.proofs.Pad.{length_pad}
use Rattle.sheet.specs.Data.{Sheet, node_at}
use Rattle.sheet.specs.Question.{question_of}
use Rattle.sheet.specs.Reading.{sheet_in}
use Rattle.sheet.specs.declared.Layout.{Layout}
use Rattle.sheet.specs.declared.question.Future.TheVariants as future
use Rattle.sheet.specs.declared.question.Question.{Question}
use Rattle.sheet.specs.declared.question.Question.TheVariants as question
use Rattle.atl.specs.Game.{everything}
use Rattle.atl.specs.Marking.{marked, eventually, rounds, plan}
use Rattle.atl.specs.Bounded.{tabulate}
use Rattle.meaning.specs.Rules.{Rules}
use Rattle.meaning.specs.Atl as atl
use Rattle.meaning.specs.Atl.{Node}
use Rattle.meaning.specs.Marks.{is_marked}
use Rattle.meaning.specs.Promise.{last}
use Rattle.meaning.specs.Reference.{zeros, rounds_for, choices_for, answer}
use Rattle.meaning.proofs.Promise.{answer_meets}
use Rattle.position.specs.Meaning.{node_of, nodes_of}
use Rattle.position.specs.Position.{rules_of}
use Rattle.model.specs.Views.{views_of}
use Rattle.model.specs.Answers.{Accepts}
use Rattle.marking.specs.Rule.{bits}
use Rattle.marks.specs.Noted.{noted}
use Rattle.marks.specs.Model.{in_counts}
use Rattle.marks.specs.Node.{timed}
use Rattle.std.specs.Prelude.{Some, None}
use Rattle.nodes.specs.declared.Reach.{Reach}
use Rattle.nodes.specs.Goal.{goal_of}
use Rattle.nodes.specs.Asked.{Ready, marks_to}
use Rattle.nodes.proofs.Sheet.{count, some_node, in_order}
use Rattle.nodes.proofs.Marking.{pad_zeros, pad_over, marks_long, marks_at}
use Rattle.nodes.proofs.Tables as tables
use Rattle.nodes.proofs.Steps as steps

-- a goal of a coalition
abbrev pub reach : ℕ → ℕ → Reach
reach c a = record { coalition = c; goal = a }

-- a question that has the goal is EVENTUALLY
unlike : {r : Reach} → None ≡ Some r → ⊥
unlike e = cc

reach_is : (q : Question) (c a : ℕ) → goal_of q ≡ Some (reach c a) → q ≡ question.Can c (future.Eventually a)
reach_is (question.Can b (future.Eventually x)) c a e =
    let i : reach b x ≡ reach c a = cc in
    ap (λ (r : Reach). question.Can r.coalition (future.Eventually r.goal)) i
reach_is (question.Can b (future.Next x)) c a e = absurd (unlike e)
reach_is (question.Can b (future.Always x)) c a e = absurd (unlike e)
reach_is (question.Can b (future.Until x z)) c a e = absurd (unlike e)
reach_is question.Unknown c a e = absurd (unlike e)
reach_is question.True c a e = absurd (unlike e)
reach_is (question.Fact f) c a e = absurd (unlike e)
reach_is (question.View v) c a e = absurd (unlike e)
reach_is (question.Legal role move) c a e = absurd (unlike e)
reach_is (question.Goal role value) c a e = absurd (unlike e)
reach_is question.Terminal c a e = absurd (unlike e)
reach_is (question.Not x) c a e = absurd (unlike e)
reach_is (question.And x z) c a e = absurd (unlike e)
reach_is (question.Or x z) c a e = absurd (unlike e)

-- any other has neither rounds nor choices
module _ (R : Rules) (nodes : List Node) (l : List ℕ) (k : ℕ) where
  abbrev Empty : Question → Type 0
  Empty q = (rounds_for R nodes l (node_of k q) ≡ zeros R nodes l) × (choices_for R nodes l (node_of k q) ≡ zeros R nodes l)

  other_is : (q : Question) → goal_of q ≡ None → Empty q
  unfolding node_of rounds_for choices_for
  other_is (question.Can b (future.Eventually x)) e = absurd (unlike (sym e))
  other_is (question.Can b (future.Next x)) e = (refl, refl)
  other_is (question.Can b (future.Always x)) e = (refl, refl)
  other_is (question.Can b (future.Until x z)) e = (refl, refl)
  other_is question.Unknown e = (refl, refl)
  other_is question.True e = (refl, refl)
  other_is (question.Fact f) e = (refl, refl)
  other_is (question.View v) e = (refl, refl)
  other_is (question.Legal role move) e = (refl, refl)
  other_is (question.Goal role value) e = (refl, refl)
  other_is question.Terminal e = (refl, refl)
  other_is (question.Not x) e = (refl, refl)
  other_is (question.And x z) e = (refl, refl)
  other_is (question.Or x z) e = (refl, refl)

module _ {s : List ℕ} {y : Layout} {n : ℕ} {states views starting following counting : List ℕ} (ready : Ready s y n states views starting following counting) where
  abbrev d : Sheet
  d = sheet_in s y

  abbrev R : Rules
  R = rules_of d

  abbrev l : List ℕ
  l = take n states

  abbrev nodes : List Node
  nodes = nodes_of d

  abbrev model : Accepts (rules_of (sheet_in s y)) (views_of (sheet_in s y)) state_limit move_limit n ready.asked.moves states starting following counting views
  model = ready.asked.model

  last_is : last nodes ≡ y.nodes - 1
  last_is = ap (λ (x : ℕ). x - 1) (count s y ready.asked.sheet)

  few : length l ≤ state_limit
  few = (tables.is_model model).few

  -- the last node's number
  abbrev k : ℕ
  k = y.nodes - 1

  pub last_below : y.nodes - 1 < y.nodes
  last_below = let z = some_node s y ready.asked.sheet in omega arith

  pub all_nodes : {marks : List ℕ} → marks ≡ marks_to (sheet_in s y) (take n states) (y.nodes - 1 + 1) → marks ≡ marks_to (sheet_in s y) (take n states) y.nodes
  all_nodes e = let z = some_node s y ready.asked.sheet in steps.all_marked d l (omega arith) (omega arith) e

  empty_long : (t : List ℕ) → t ≡ pad state_limit [] → n ≤ length t
  empty_long t e = let z = ap length e ∙ length_pad state_limit [] (omega arith) in omega (arith, z, tables.number model, few)

  pub last_asks : (before rs cs : List ℕ) → before ≡ marks_to (sheet_in s y) (take n states) (y.nodes - 1) → rs ≡ pad state_limit [] → cs ≡ pad state_limit []
      → (n ≤ length before) × (n ≤ length rs) × (n ≤ length cs) × (y.nodes - 1 < 64)
  last_asks before rs cs e f g = let (a, b) = steps.bit_asks ready k last_below before e in (a, empty_long rs f, empty_long cs g, b)

  -- the last node, which asks q
  module _ (q : Question) (asks : q ≡ question_of (node_at s (y.first + 6 * (y.nodes - 1)))) (before : List ℕ)
      (so_far : before ≡ marks_to (sheet_in s y) (take n states) (y.nodes - 1)) (rs cs : List ℕ) (rs_zero : rs ≡ pad state_limit []) (cs_zero : cs ≡ pad state_limit []) where
    at_end : last nodes ≡ k
    at_end = last_is

    node : atl.node_at nodes k ≡ node_of k q
    node = steps.node ready k last_below q asks before before so_far q refl

    long : (length (answer R nodes l).rounds ≡ length l) × (length (answer R nodes l).choices ≡ length l)
    long =
        let a = answer_meets R nodes state_limit move_limit (omega arith) l (tables.is_model model) (in_order s y ready.asked.sheet)
        (omega (arith, count s y ready.asked.sheet, some_node s y ready.asked.sheet)) in
        (a.rounds_long, a.choices_long)

    pub other_rounds : goal_of q ≡ None → rs ≡ pad state_limit (answer (rules_of (sheet_in s y)) (nodes_of (sheet_in s y)) (take n states)).rounds
    other_rounds e =
        rs_zero ∙ pad_zeros state_limit (length l) few
        ∙ ap (pad state_limit) (sym (ap (λ x. rounds_for R nodes l (atl.node_at nodes x)) at_end ∙ ap (rounds_for R nodes l) node ∙ (other_is R nodes l k q e).0))

    pub other_choices : goal_of q ≡ None → cs ≡ pad state_limit (answer (rules_of (sheet_in s y)) (nodes_of (sheet_in s y)) (take n states)).choices
    other_choices e =
        cs_zero ∙ pad_zeros state_limit (length l) few
        ∙ ap (pad state_limit) (sym (ap (λ x. choices_for R nodes l (atl.node_at nodes x)) at_end ∙ ap (choices_for R nodes l) node ∙ (other_is R nodes l k q e).1))

    module _ (c a : ℕ) (e : goal_of q ≡ Some (reach c a)) where
      pub reach_marks : (after : List ℕ) → after ≡ noted n k (marked (eventually (in_counts n starting following counting c) (bits before a))) before
          → after ≡ marks_to (sheet_in s y) (take n states) y.nodes
      unfolding timed
      reach_marks after f = all_nodes (steps.future_step ready k last_below q asks before after so_far c (future.Eventually a) (reach_is q c a e) f)

      pub reach_rounds : (rs' : List ℕ) → rs' ≡ rounds (in_counts n starting following counting c) everything (bits before a) ++ drop n rs
          → rs' ≡ pad state_limit (answer (rules_of (sheet_in s y)) (nodes_of (sheet_in s y)) (take n states)).rounds
      reach_rounds rs' f =
          steps.rounds_step ready k last_below q asks before before so_far c a (reach_is q c a e) rs rs' f
          ∙ ap (λ x. rounds_for R nodes l (atl.node_at nodes x) ++ drop n rs) (sym at_end)
          ∙ pad_over state_limit n (answer R nodes l).rounds rs (long.0 ∙ sym (tables.number model)) rs_zero

      pub reach_choices : (cs' : List ℕ) → cs' ≡ plan (in_counts n starting following counting c) (rounds (in_counts n starting following counting c) everything (bits before a)) ++ drop n cs
          → cs' ≡ pad state_limit (answer (rules_of (sheet_in s y)) (nodes_of (sheet_in s y)) (take n states)).choices
      reach_choices cs' f =
          steps.choices_step ready k last_below q asks before before so_far c a (reach_is q c a e) cs cs' f
          ∙ ap (λ x. choices_for R nodes l (atl.node_at nodes x) ++ drop n cs) (sym at_end)
          ∙ pad_over state_limit n (answer R nodes l).choices cs (long.1 ∙ sym (tables.number model)) cs_zero

  -- the table of marks of all nodes, and the verdict
  pub marks_all : (marks : List ℕ) → marks ≡ marks_to (sheet_in s y) (take n states) y.nodes → marks ≡ pad state_limit (answer (rules_of (sheet_in s y)) (nodes_of (sheet_in s y)) (take n states)).marks
  unfolding marks_to
  marks_all marks e =
      e ∙ ap (λ (x : ℕ). pad state_limit (tabulate (length l) (λ i. pack (is_marked R l nodes i) x))) (sym (count s y ready.asked.sheet))

  pub marks_some : {marks : List ℕ} → marks ≡ marks_to (sheet_in s y) (take n states) y.nodes → 0 < length marks
  marks_some e = let z = ap length e ∙ marks_long d l few y.nodes in omega arith

  some_position : 0 < length l
  some_position = let e = ap length (tables.is_model model).positions.order in omega arith

  pub verdict_all : (marks : List ℕ) (r : Bool) → marks ≡ marks_to (sheet_in s y) (take n states) y.nodes → r ≡ has (get_or marks 0 0) (y.nodes - 1)
      → r ≡ (answer (rules_of (sheet_in s y)) (nodes_of (sheet_in s y)) (take n states)).verdict
  verdict_all marks r e f =
      let z = some_node s y ready.asked.sheet in
      f ∙ ap (λ (x : ℕ). has x (y.nodes - 1)) (ap (λ (x : List ℕ). get_or x 0 0) e ∙ marks_at d l few y.nodes 0 some_position)
      ∙ has_pack (is_marked R l nodes 0) y.nodes (y.nodes - 1) (omega arith) ∙ ap (is_marked R l nodes 0) (sym last_is)
