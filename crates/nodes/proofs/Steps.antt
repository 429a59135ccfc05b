-- One node more, kind by kind: what the code writes into the table of marks is the node's mark.
use Prim.Native.Nat.{ℕ, suc, ◌+◌, ◌*◌, ◌≤◌, ◌<◌}
use mathlib.Core.Path.{◌≡◌, refl, sym, ap, ap₂, ◌∙◌}
use mathlib.Core.Bool.{not, ◌&&◌, ◌||◌}
use mathlib.Core.List.{List, [], ◌++◌, map}
use native.Mathlib.Omega.{arith}
use lib.ListN.{length, get_or, take, drop, replicate, length-replicate}
use Rattle.tables.specs.Lengths.{state_limit, move_limit}
use Rattle.tables.specs.Pad.{pad}
use Rattle.sheet.specs.Data.{Sheet, node_at, rules_end}
use Rattle.sheet.specs.Question.{question_of}
use Rattle.sheet.specs.Reading.{sheet_in}
use Rattle.sheet.specs.declared.Layout.{Layout}
use Rattle.sheet.specs.declared.question.Future.{Future}
use Rattle.sheet.specs.declared.question.Future.TheVariants.{Next, Always, Eventually, Until}
use Rattle.sheet.specs.declared.question.Question.{Question}
use Rattle.sheet.specs.declared.question.Question.TheVariants.{Not, And, Or, Can}
use Rattle.sheet.specs.declared.question.Question.TheVariants as question
use Rattle.atl.specs.Game.{States, everything}
use Rattle.atl.specs.Marking.{marked, rounds, plan}
use Rattle.meaning.specs.Rules.{Rules, options, moves}
use Rattle.meaning.specs.Atl as atl
use Rattle.meaning.specs.Atl.{Node, TEST, CAN, EVENTUALLY}
use Rattle.meaning.specs.Reference.{rounds_for, choices_for}
use Rattle.meaning.proofs.Firsts.{Distinct}
use Rattle.meaning.proofs.Tables.{running_first}
use Rattle.position.specs.Meaning.{node_of, nodes_of, asked_by}
use Rattle.position.specs.Meaning as position
use Rattle.position.specs.Position.{still, look_in, says, rules_of}
use Rattle.position.proofs.Fitting.{sizes_room}
use Rattle.position.proofs.Play.{options_distinct}
use Rattle.model.specs.Views.{views_of}
use Rattle.model.specs.Answers.{Accepts}
use Rattle.incoming.specs.Owners.{Moves}
use Rattle.marking.specs.Rule.{bits}
use Rattle.marks.specs.Noted.{noted}
use Rattle.marks.specs.Model.{Model, in_counts}
use Rattle.marks.specs.Node as marks
use Rattle.marks.specs.Node.{timed}
use Rattle.marks.specs.Held.{Held, Marked}
use Rattle.marks.proofs.Join.{test_right, not_right, and_right, or_right, future_right, rounds_right, choices_right}
use Rattle.nodes.specs.Asked.{Ready, look_held, marks_to}
use Rattle.nodes.proofs.Sheet.{fits, rules_within, node_within, few_nodes, count, in_order, asked_is, node_is}
use Rattle.nodes.proofs.Tables as tables
use Rattle.nodes.proofs.Marking.{marks_long, marked_is, none_marked, one_more}

-- a kind of future is named alike in both
kind_same : (f : Future) → position.kind_of f ≡ marks.kind_of f
kind_same (Next a) = refl
kind_same (Always a) = refl
kind_same (Eventually a) = refl
kind_same (Until a b) = refl

-- a question that is none of these is a plain test
pub plain_test : (k : ℕ) (q : Question) → ((a : ℕ) → q ≡ Not a → ⊥) → ((a b : ℕ) → q ≡ And a b → ⊥) → ((a b : ℕ) → q ≡ Or a b → ⊥) → ((c : ℕ) (f : Future) → q ≡ Can c f → ⊥)
    → node_of k q ≡ TEST k
unfolding node_of
plain_test k (Not a) n m o p = absurd (n a refl)
plain_test k (And a b) n m o p = absurd (m a b refl)
plain_test k (Or a b) n m o p = absurd (o a b refl)
plain_test k (Can c f) n m o p = absurd (p c f refl)
plain_test k question.Unknown n m o p = refl
plain_test k question.True n m o p = refl
plain_test k (question.Fact f) n m o p = refl
plain_test k (question.View v) n m o p = refl
plain_test k (question.Legal role move) n m o p = refl
plain_test k (question.Goal role value) n m o p = refl
plain_test k question.Terminal n m o p = refl

module _ {s : List ℕ} {y : Layout} {n : ℕ} {states views starting following counting : List ℕ} (ready : Ready s y n states views starting following counting) where
  abbrev d : Sheet
  d = sheet_in s y

  abbrev R : Rules
  R = rules_of d

  abbrev l : List ℕ
  l = take n states

  abbrev nodes : List Node
  nodes = nodes_of d

  abbrev model : Accepts (rules_of (sheet_in s y)) (views_of (sheet_in s y)) state_limit move_limit n ready.asked.moves states starting following counting views
  model = ready.asked.model

  four : R.roles ≤ 4
  four = (sizes_room d.sizes (fits s y ready.asked.sheet).sizes).roles

  distinct : (i r : ℕ) → i < length l → r < R.roles → Distinct (options R (get_or l i 0) r)
  distinct i r h b = options_distinct d (get_or l i 0) r

  held : Held R l n starting following counting
  held = tables.held model four

  few : length l ≤ state_limit
  few = (tables.is_model model).few

  -- the tables are a model
  pub modelled : Model state_limit move_limit n starting following counting
  modelled = tables.modelled model four distinct

  -- what is asked to index who leads where
  pub leads_ask : Moves n starting following × (length following ≤ 8192) × (n < 1025) × (n < length (replicate {A = ℕ} 1025 0))
      × (length following ≤ length (replicate {A = ℕ} 8192 0)) × (length following ≤ length (replicate {A = ℕ} 8192 0))
  leads_ask = (
    record {
      placed = modelled.placed;
      zero = held.starts_are 0 (omega arith) ∙ running_first 0 (map (λ s. length (moves R s)) l);
      landed = modelled.landed;
    },
    modelled.fits,
    omega (arith, modelled.few),
    omega (arith, modelled.few, length-replicate {A = ℕ} 1025 0),
    omega (arith, modelled.fits, length-replicate {A = ℕ} 8192 0),
    omega (arith, modelled.fits, length-replicate {A = ℕ} 8192 0),
  )

  -- what a plain test is read off in a position
  look_is : (i : ℕ) → i < n → look_held states views i ≡ look_in d.rules (get_or l i 0) still
  look_is i h =
      let e = tables.state_at model i in
      let v = ready.views_are i h in
      rw (v, e)

  -- the table of marks: empty before the first node, of full size, and whole after a count of nodes
  pub none_yet : (marks : List ℕ) → marks ≡ pad state_limit [] → marks ≡ marks_to (sheet_in s y) (take n states) 0
  none_yet = none_marked d l few

  pub marks_size : {marks marks' : List ℕ} (k : ℕ) → marks ≡ pad state_limit [] → marks' ≡ marks_to (sheet_in s y) (take n states) k → length marks' ≡ length marks
  marks_size {marks} {marks'} k e f = ap length f ∙ marks_long d l few k ∙ sym (ap length (none_yet marks e) ∙ marks_long d l few 0)

  -- what is asked for node k, over the marks of the nodes before it
  module _ (k : ℕ) (h : k < y.nodes) where
    pub node_asks : y.first + 6 * k + 6 ≤ length s
    node_asks = node_within s y ready.asked.sheet k h

    module _ (before : List ℕ) (so_far : before ≡ marks_to (sheet_in s y) (take n states) k) where
      pub bit_asks : (n ≤ length before) × (k < 64)
      bit_asks =
          let e = ap length so_far ∙ marks_long d l few k in
          (omega (arith, e, tables.few model), omega (arith, few_nodes s y ready.asked.sheet))

      pub test_asks : (rules_end s y.top y.rules ≤ length s) × (n ≤ length states) × (n ≤ length views) × (n ≤ length before) × (k < 64)
      test_asks = (rules_within s y ready.asked.sheet, omega (arith, tables.few model, tables.states_long model), ready.views_long, bit_asks.0, bit_asks.1)

  -- node k, which asks q
  module _ (k : ℕ) (h : k < y.nodes) (q : Question) (asks : q ≡ question_of (node_at s (y.first + 6 * k))) (before after : List ℕ)
      (so_far : before ≡ marks_to (sheet_in s y) (take n states) k) where
    here : k < length nodes
    here = omega (arith, count s y ready.asked.sheet)

    order : atl.InOrder nodes
    order = in_order s y ready.asked.sheet

    so : Marked R l nodes k before
    so = marked_is d l few k before so_far

    long : n ≤ length before
    long = (bit_asks k h before so_far).0

    pub node : (p : Question) → q ≡ p → atl.node_at (nodes_of (sheet_in s y)) k ≡ node_of k p
    node p e = node_is s y ready.asked.sheet k q h asks ∙ ap (node_of k) e

    more : (w : States) → after ≡ noted n k w before → Marked R l nodes (suc k) after → after ≡ marks_to d l (k + 1)
    more w f g = one_more d l few n k w before after (tables.number model) so_far f g

    pub test_step : (p : Question) → q ≡ p → node_of k p ≡ TEST k → after ≡ noted n k (λ i. says (sheet_in s y).rules (look_held states views i) p) before
        → after ≡ marks_to (sheet_in s y) (take n states) (k + 1)
    test_step p e t f =
        let w : States = λ i. says d.rules (look_held states views i) p in
        let a : p ≡ asked_by d k = sym e ∙ asked_is s y ready.asked.sheet k q h asks in
        more w f (test_right R l state_limit move_limit (tables.is_model model) four distinct n starting following counting held nodes order k here before so long after k
        (node p e ∙ t) w (λ i b. ap₂ (says d.rules) (look_is i (omega (arith, tables.number model))) a) f)

    pub not_step : (a : ℕ) → q ≡ Not a → after ≡ noted n k (λ i. not (bits before a i)) before → after ≡ marks_to (sheet_in s y) (take n states) (k + 1)
    unfolding node_of
    not_step a e f =
        more (λ i. not (bits before a i)) f (not_right R l state_limit move_limit (tables.is_model model) four distinct n starting following counting held nodes order k here before so long after a (node (Not a) e) f)

    pub and_step : (a b : ℕ) → q ≡ And a b → after ≡ noted n k (λ i. bits before a i && bits before b i) before → after ≡ marks_to (sheet_in s y) (take n states) (k + 1)
    unfolding node_of
    and_step a b e f =
        more (λ i. bits before a i && bits before b i) f (and_right R l state_limit move_limit (tables.is_model model) four distinct n starting following counting held nodes order k here before so long after a b (node (And a b) e) f)

    pub or_step : (a b : ℕ) → q ≡ Or a b → after ≡ noted n k (λ i. bits before a i || bits before b i) before → after ≡ marks_to (sheet_in s y) (take n states) (k + 1)
    unfolding node_of
    or_step a b e f =
        more (λ i. bits before a i || bits before b i) f (or_right R l state_limit move_limit (tables.is_model model) four distinct n starting following counting held nodes order k here before so long after a b (node (Or a b) e) f)

    pub future_step : (c : ℕ) (f : Future) → q ≡ Can c f → after ≡ noted n k (marked (timed (in_counts n starting following counting c) (bits before) f)) before
        → after ≡ marks_to (sheet_in s y) (take n states) (k + 1)
    unfolding node_of
    future_step c f e g =
        more (marked (timed (in_counts n starting following counting c) (bits before) f)) g (future_right R l state_limit move_limit (tables.is_model model) four distinct n starting following counting held nodes order k here before so long c f after
        (node (Can c f) e ∙ ap (CAN c) (kind_same f)) g)

    -- EVENTUALLY as the last node: its rounds and choices
    module _ (c a : ℕ) (e : q ≡ Can c (Eventually a)) where
      eventual : atl.node_at nodes k ≡ CAN c (EVENTUALLY a)
      unfolding node_of
      eventual = node (Can c (Eventually a)) e

      pub rounds_step : (rs rs' : List ℕ) → rs' ≡ rounds (in_counts n starting following counting c) everything (bits before a) ++ drop n rs
          → rs' ≡ rounds_for (rules_of (sheet_in s y)) (nodes_of (sheet_in s y)) (take n states) (atl.node_at (nodes_of (sheet_in s y)) k) ++ drop n rs
      rounds_step = rounds_right R l state_limit move_limit (tables.is_model model) four distinct n starting following counting held nodes order k here before so long c a eventual

      pub choices_step : (cs cs' : List ℕ) → cs' ≡ plan (in_counts n starting following counting c) (rounds (in_counts n starting following counting c) everything (bits before a)) ++ drop n cs
          → cs' ≡ choices_for (rules_of (sheet_in s y)) (nodes_of (sheet_in s y)) (take n states) (atl.node_at (nodes_of (sheet_in s y)) k) ++ drop n cs
      choices_step = choices_right R l state_limit move_limit (tables.is_model model) four distinct n starting following counting held nodes order k here before so long c a eventual

-- so many nodes and no more
pub all_marked : (d : Sheet) (l : List ℕ) {k m : ℕ} {marks : List ℕ} → k ≤ m → m ≤ k → marks ≡ marks_to d l k → marks ≡ marks_to d l m
all_marked d l {k} {m} a b e = let z : k ≡ m = omega arith in e ∙ ap (marks_to d l) z
