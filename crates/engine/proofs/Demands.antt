-- THE DEMANDS, said of the entry point: begin here. `w` is what the contract of `solve` gives for an accepted sheet, `m` what it gives for any.
use Prim.Native.Nat.{ℕ, suc, ◌+◌, ◌≤◌, ◌<◌}
use native.Mathlib.Numerals.{add-one}
use mathlib.Core.Path.{◌≡◌, refl, sym, ap, ◌∙◌, subst}
use mathlib.Core.Bool.{Bool, true, false}
use mathlib.Core.List.{List, []}
use mathlib.Core.Logic.{◌↔◌}
use native.Mathlib.Omega.{arith}
use lib.ListN.{length, get_or, take}
use Rattle.tables.specs.Lengths.{state_limit, move_limit}
use Rattle.tables.specs.Pad.{pad}
use Rattle.tables.proofs.Pad.{take_pad}
use Rattle.sheet.specs.Reading.{IsRefused}
use Rattle.views.specs.Meaning.{view_rules, IsPlace}
use Rattle.meaning.specs.Lists.{◌∈◌}
use Rattle.meaning.specs.Rules.{Rules, Reach, moves, after}
use Rattle.meaning.specs.Atl.{Node, CAN, EVENTUALLY, Member, Agree, IsRounds, Ensures, UntilWithin, Anything, Sat, node_at}
use Rattle.meaning.specs.Model.{IsRefusal}
use Rattle.meaning.specs.Promise as promise
use Rattle.meaning.specs.Promise.{none, last, IsAnswer}
use Rattle.meaning.specs.Demands.{IsState, at, to, mark, count, strategy, Asked}
use Rattle.meaning.proofs.Demands as demands
use Rattle.position.specs.Meaning.{nodes_of}
use Rattle.position.proofs.Nodes.{nodes_in_order}
use Rattle.engine.specs.declared.Refusal.{Refusal}
use Rattle.engine.specs.declared.Refusal.TheVariants.{Table, Sheet as BadSheet, Strata, NoChoice, ManyMoves, ManyStates}
use Rattle.std.specs.Prelude.{Err}
use Rattle.engine.specs.Promise.{Answer, Tables, RightLengths, zero_tables, Reads, Game, Solves, Meets}
use Rattle.engine.specs.Used.{used}
use Rattle.engine.proofs.Right.{answer_unique}

-- ---- demand 1: every input has an answer (`solved_meets`), one only (`answer_unique`), and a refusal is given exactly under its rule

-- Document 01's table, for each refusal: when it is given.
abbrev pub Given : List ℕ → Tables → Refusal → Type 0
Given s t Table = RightLengths t → ⊥
Given s t (BadSheet f k) = RightLengths t × IsRefused s f k
Given s t (Strata v) = RightLengths t × ((r : Reads s) × IsPlace (view_rules r.sheet.rules) v)
Given s t (NoChoice k) = RightLengths t × ((g : Game s) × IsRefusal g.rules state_limit move_limit 8 k)
Given s t (ManyMoves k) = RightLengths t × ((g : Game s) × IsRefusal g.rules state_limit move_limit 7 k)
Given s t (ManyStates k) = RightLengths t × ((g : Game s) × IsRefusal g.rules state_limit move_limit 6 k)

-- What a refusal leaves in the tables: 1 to 5 and 9 leave them as they came, 6 to 8 leave every entry zero.
abbrev pub left : Refusal → Tables → Tables
left Table t = t
left (BadSheet f k) t = t
left (Strata v) t = t
left (NoChoice k) t = zero_tables
left (ManyMoves k) t = zero_tables
left (ManyStates k) t = zero_tables

-- where the rule of a refusal holds, it meets the promise with these tables
meets_given : (s : List ℕ) (t : Tables) (q : Refusal) → Given s t q → Meets s t (left q t) (Err q)
meets_given s t Table g = (g, refl)
meets_given s t (BadSheet f k) g = (g.0, g.1, refl)
meets_given s t (Strata v) g = (g.0, g.1, refl)
meets_given s t (NoChoice k) g = (g.0, g.1, refl)
meets_given s t (ManyMoves k) g = (g.0, g.1, refl)
meets_given s t (ManyStates k) g = (g.0, g.1, refl)

given_meets : (s : List ℕ) (t u : Tables) (q : Refusal) → Meets s t u (Err q) → Given s t q
given_meets s t u Table m = m.0
given_meets s t u (BadSheet f k) m = (m.0, m.1)
given_meets s t u (Strata v) m = (m.0, m.1)
given_meets s t u (NoChoice k) m = (m.0, m.1)
given_meets s t u (ManyMoves k) m = (m.0, m.1)
given_meets s t u (ManyStates k) m = (m.0, m.1)

module _ (s : List ℕ) (t u : Tables) (r : Answer) (m : Meets s t u r) where
  -- A refusal is given exactly under its rule.
  pub refusal_exact : (q : Refusal) → (r ≡ Err q) ↔ Given s t q
  refusal_exact q = (
    λ e. given_meets s t u q (subst (Meets s t u) e m),
    λ g. (answer_unique s t u (left q t) r (Err q) m (meets_given s t q g)).0,
  )

  -- And the tables are then as document 01 says.
  pub refusal_tables : (q : Refusal) → r ≡ Err q → u ≡ left q t
  refusal_tables q e = (answer_unique s t u (left q t) r (Err q) m (meets_given s t q ((refusal_exact q).0 e))).1

-- ---- demands 2 and 3: what the used entries of the tables are
module _ {s : List ℕ} {t u : Tables} {states joints : ℕ} {verdict : Bool} (w : Solves s t u states joints verdict) where
  abbrev R : Rules
  R = w.game.rules

  abbrev nodes : List Node
  nodes = nodes_of w.game.read.sheet

  -- the answer, as it stands in the tables
  abbrev pub held : promise.Answer
  held = used u states joints verdict

  front : (size n : ℕ) (l table : List ℕ) → table ≡ pad size l → n ≡ length l → take n table ≡ l
  front size n l table e h = ap (λ (k : ℕ). take k table) h ∙ ap (take (length l)) e ∙ take_pad size l

  pub used_is : held ≡ w.answer
  used_is =
      let a = w.answer in
      let ok = w.right in
      let n = w.states_are in
      let long : states + 1 ≡ length a.starts = add-one states ∙ ap suc n ∙ sym (demands.moves_all R nodes state_limit move_limit a ok).2 in
      let p = front state_limit states a.positions u.states (ap (λ (x : Tables). x.states) w.holds) n in
      let q = front (state_limit + 1) (states + 1) a.starts u.starts (ap (λ (x : Tables). x.starts) w.holds) long in
      let o = front move_limit joints a.successors u.successors (ap (λ (x : Tables). x.successors) w.holds) w.moves_are in
      let m = front state_limit states a.marks u.marks (ap (λ (x : Tables). x.marks) w.holds) (n ∙ sym ok.marks_long) in
      let c = front state_limit states a.rounds u.rounds (ap (λ (x : Tables). x.rounds) w.holds) (n ∙ sym ok.rounds_long) in
      let h = front state_limit states a.choices u.choices (ap (λ (x : Tables). x.choices) w.holds) (n ∙ sym ok.choices_long) in
      let v = w.verdict_is in
      λ i. record { positions = p i; starts = q i; successors = o i; marks = m i; rounds = c i; choices = h i; verdict = v i }

  -- The used entries of the tables are a right answer for the sheet's game and question.
  pub used_right : IsAnswer R nodes state_limit move_limit held
  used_right = subst (IsAnswer R nodes state_limit move_limit) (sym used_is) w.right

  -- demand 2: positions, joint moves, marks and verdict
  pub positions_right : (p : ℕ) → (p ∈ held.positions) ↔ Reach R p
  positions_right = demands.positions_right R nodes state_limit move_limit held used_right

  pub moves_right : (i : ℕ) → IsState held i
      → (get_or held.starts (suc i) 0 ≡ get_or held.starts i 0 + length (moves R (at held i)))
      × ((j : ℕ) → j < length (moves R (at held i)) → IsState held (to held i j) × (at held (to held i j) ≡ after R (at held i) (get_or (moves R (at held i)) j [])))
  moves_right = demands.moves_right R nodes state_limit move_limit held used_right

  pub marks_right : (i j : ℕ) → IsState held i → j < length nodes → (mark held i j ≡ true) ↔ Sat R nodes j (at held i)
  marks_right = demands.marks_right R nodes state_limit move_limit held used_right

  pub verdict_right : (verdict ≡ true) ↔ Sat R nodes (last nodes) R.initial
  verdict_right = demands.verdict_right R nodes state_limit move_limit held used_right

  -- demand 3: where the last node is EVENTUALLY b for the coalition C
  module _ {C b : ℕ} (asks : node_at nodes (last nodes) ≡ CAN C (EVENTUALLY b)) where
    pub asked : Asked R nodes state_limit move_limit held C b
    asked = record { right = used_right; order = nodes_in_order w.game.read.sheet w.game.read.fits; small = omega arith; asked = asks }

    -- a marked state's count is the least number of moves within which the roles can force the goal
    pub rounds_least : (i : ℕ) → IsState held i → mark held i (last nodes) ≡ true → (count held i < none) × IsRounds R C Anything (Sat R nodes b) (at held i) (count held i)
    rounds_least = demands.rounds_least asked

    -- the one plan in the table attains it, from every marked state, against all play
    pub plan_attains : (i : ℕ) → IsState held i → mark held i (last nodes) ≡ true
        → Ensures R C (strategy R held.positions held.choices) (at held i) (UntilWithin (count held i) Anything (Sat R nodes b))
    plan_attains = demands.plan_attains asked

    -- no unmarked state is a goal, and each joint choice of the roles has a reply that leads to an unmarked state
    pub unmarked_not_goal : (i : ℕ) → IsState held i → mark held i (last nodes) ≡ false → mark held i b ≡ false
    unmarked_not_goal = demands.unmarked_not_goal asked

    pub unmarked_reply : (i : ℕ) → IsState held i → mark held i (last nodes) ≡ false → (m : List ℕ) → m ∈ moves R (at held i)
        → (n : List ℕ) × (n ∈ moves R (at held i)) × Agree R C m n × (k : ℕ) × IsState held k × (at held k ≡ after R (at held i) n) × (mark held k (last nodes) ≡ false)
    unmarked_reply = demands.unmarked_reply asked

-- A role joins, or the goal holds in more positions, on the same rules: no mark is lost and no count grows.
pub growth : {R : Rules} {n n' : List Node} {t u : promise.Answer} {C D b b' : ℕ} → ((r : ℕ) → Member R C r → Member R D r)
    → Asked R n state_limit move_limit t C b → Asked R n' state_limit move_limit u D b' → ((s : ℕ) → Reach R s → Sat R n b s → Sat R n' b' s)
    → (i : ℕ) → IsState t i → (mark t i (last n) ≡ true → mark u i (last n') ≡ true) × (count u i ≤ count t i)
growth joins = demands.growth_tables joins
