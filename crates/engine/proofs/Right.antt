-- The reference meets the promise, and no other answer does.
use Prim.Native.Nat.{ℕ, ◌+◌, ◌<◌}
use mathlib.Core.Path.{◌≡◌, refl, sym, ap, ◌∙◌, subst}
use mathlib.Core.Bool.{Bool, true, false, cond, ◌&&◌, false≢true}
use mathlib.Core.List.{List}
use native.Mathlib.Omega.{arith}
use lib.ListN.{length}
use lib.Dec.{eqb}
use borrow.Author.Tests.{eqb-true, eq-eqb}
use Rattle.tables.specs.Lengths.{state_limit, move_limit}
use Rattle.sheet.specs.declared.Layout.{Layout}
use Rattle.sheet.specs.declared.Fault.{Fault}
use Rattle.sheet.specs.Data.{Sheet}
use Rattle.sheet.specs.Reading.{Answer as Reading, refused as unread, read_sheet, sheet_in}
use Rattle.sheet.proofs.Refusal.{refusal_exact}
use Rattle.sheet.proofs.Exact.{exact}
use Rattle.sheet.proofs.Encoded.{encoded}
use Rattle.views.specs.Sheet.{Studied, refused_by}
use Rattle.views.specs.Sheet as views
use Rattle.views.proofs.Says.{accepted_is, place_is}
use Rattle.meaning.specs.Rules.{Rules}
use Rattle.meaning.specs.Model.{Stops, no_choice, many_moves, many_states, IsRefusal}
use Rattle.meaning.specs.Promise.{Result, refused, accepted, IsResult}
use Rattle.meaning.specs.Reference.{result}
use Rattle.meaning.proofs.Result.{result_right, result_unique}
use Rattle.position.specs.Meaning.{nodes_of}
use Rattle.position.specs.Position.{rules_of}
use Rattle.position.proofs.Right.{rules_right, rules_unique}
use Rattle.views.proofs.Fits.{sheet_fits}
use Rattle.position.proofs.Nodes.{nodes_long, nodes_in_order}
use Rattle.engine.specs.declared.Refusal.TheVariants.{Table, Sheet as BadSheet, Strata, NoChoice, ManyMoves, ManyStates}
use Rattle.std.specs.Prelude.{Ok, Err}
use Rattle.engine.specs.Promise.{Answer, accepts, Tables, RightLengths, Reads, Game, Meets}
use Rattle.engine.specs.Solved.{Outcome, outcome, lengths_right, told, played, studied, read, solved}

-- ---- the lengths
all_six : (a b c d e f : Bool) → (a && b && c && d && e && f) ≡ true → (a ≡ true) × (b ≡ true) × (c ≡ true) × (d ≡ true) × (e ≡ true) × (f ≡ true)
all_six true true true true true f h = (refl, refl, refl, refl, refl, h)
all_six true true true true false f h = absurd (false≢true h)
all_six true true true false e f h = absurd (false≢true h)
all_six true true false d e f h = absurd (false≢true h)
all_six true false c d e f h = absurd (false≢true h)
all_six false b c d e f h = absurd (false≢true h)

pub lengths_are : (t : Tables) → lengths_right t ≡ true → RightLengths t
unfolding lengths_right
lengths_are t e =
    let six = all_six (eqb (length t.states) state_limit) (eqb (length t.starts) (state_limit + 1)) (eqb (length t.successors) move_limit) (eqb (length t.rounds) state_limit)
    (eqb (length t.choices) state_limit) (eqb (length t.marks) state_limit) e in
    record {
      states = eqb-true _ _ six.0;
      starts = eqb-true _ _ six.1;
      successors = eqb-true _ _ six.2;
      rounds = eqb-true _ _ six.3;
      choices = eqb-true _ _ six.4;
      marks = eqb-true _ _ six.5;
    }

pub lengths_right_lem : (t : Tables) → RightLengths t → lengths_right t ≡ true
unfolding lengths_right
lengths_right_lem t r =
    rw (eq-eqb _ _ r.states, eq-eqb _ _ r.starts, eq-eqb _ _ r.successors, eq-eqb _ _ r.rounds, eq-eqb _ _ r.choices, eq-eqb _ _ r.marks) refl

-- ---- the reference meets the promise
abbrev MeetsAs : List ℕ → Tables → Outcome → Type 0
MeetsAs s t o = Meets s t o.tables o.answer

module _ (s : List ℕ) (t : Tables) (right : RightLengths t) where
  told_meets : (g : Game s) (r : Result) → IsResult g.rules (nodes_of g.read.sheet) state_limit move_limit r → MeetsAs s t (told r)
  told_meets g (refused n k) h = go n h.stops h
    where
      go : (n : ℕ) → Stops g.rules state_limit move_limit k n → IsRefusal g.rules state_limit move_limit n k → MeetsAs s t (told (refused n k))
      go n (no_choice w) h = (right, (g, h), refl)
      go n (many_moves w v) h = (right, (g, h), refl)
      go n (many_states w v u) h = (right, (g, h), refl)
  told_meets g (accepted a) h =
      record { lengths = right; game = g; answer = a; right = h; holds = refl; states_are = refl; moves_are = refl; verdict_is = refl }

  studied_meets : (r : Reads s) (a : Studied) → views.answer r.sheet.rules ≡ a → MeetsAs s t (studied t r.sheet a)
  unfolding played
  studied_meets r (Ok _) e =
      let d = r.sheet in
      let ok = (accepted_is d.rules (sheet_fits d r.fits)).0 e in
      told_meets (record { read = r; stratified = ok; rules = rules_of d; game = rules_right d r.fits ok }) (result (rules_of d) (nodes_of d) state_limit move_limit)
      (result_right (rules_of d) (nodes_of d) state_limit move_limit (omega arith) (nodes_in_order d r.fits)
      (subst (λ (n : ℕ). 0 < n) (sym (nodes_long d.nodes 0)) (omega (arith, r.fits.some_node))) (omega arith))
  studied_meets r (Err x) e = (right, (r, (place_is r.sheet.rules (sheet_fits r.sheet r.fits) x.view).0 e), refl)

  read_meets : (a : Reading) → read_sheet s ≡ a → MeetsAs s t (read t s a)
  read_meets (Err x) e = (right, (refusal_exact s x.fault x.place).0 e, refl)
  read_meets (Ok y) e =
      let x = exact s y e in
      studied_meets (record { sheet = sheet_in s y; bytes = x.bytes; fits = x.fits }) (views.answer (sheet_in s y).rules) refl

pub solved_meets : (s : List ℕ) (t : Tables) → MeetsAs s t (solved s t)
unfolding solved
solved_meets s t = go (lengths_right t) refl
  where
    go : (b : Bool) → lengths_right t ≡ b → MeetsAs s t (cond b (read t s (read_sheet s)) (outcome (Err Table) t))
    go true e = read_meets s t (lengths_are t e) (read_sheet s) refl
    go false e = ((λ r. false≢true (sym e ∙ lengths_right_lem t r)), refl)

-- ---- and nothing else does
module _ (s : List ℕ) (t u : Tables) where
  -- a sheet that keeps to every range is read as itself
  module _ (r : Reads s) where
    reads_as : (y : Layout) × (read_sheet s ≡ Ok y) × (sheet_in s y ≡ r.sheet)
    reads_as =
        let e = encoded r.sheet r.fits in
        (e.0, ap read_sheet r.bytes ∙ e.1, ap (λ (b : List ℕ). sheet_in b e.0) r.bytes ∙ e.2)

    read_as : read t s (read_sheet s) ≡ studied t r.sheet (views.answer r.sheet.rules)
    read_as = ap (read t s) reads_as.1 ∙ ap (λ (d : Sheet). studied t d (views.answer d.rules)) reads_as.2

  pub solved_right : RightLengths t → solved s t ≡ read t s (read_sheet s)
  unfolding solved
  solved_right r = ap (λ (b : Bool). cond b (read t s (read_sheet s)) (outcome (Err Table) t)) (lengths_right_lem t r)

  game_as : (g : Game s) → RightLengths t → (r : Result) → IsResult g.rules (nodes_of g.read.sheet) state_limit move_limit r → solved s t ≡ told r
  unfolding played
  game_as g right r h =
      let d = g.read.sheet in
      let fit = g.read.fits in
      let same : g.rules ≡ rules_of d = rules_unique d fit g.stratified g.rules (rules_of d) g.game (rules_right d fit g.stratified) in
      let is = subst (λ (R : Rules). IsResult R (nodes_of d) state_limit move_limit r) same h in
      solved_right right ∙ read_as g.read
      ∙ ap (studied t d) ((accepted_is d.rules (sheet_fits d fit)).1 g.stratified)
      ∙ ap told (result_unique (rules_of d) (nodes_of d) state_limit move_limit (result (rules_of d) (nodes_of d) state_limit move_limit) r
      (result_right (rules_of d) (nodes_of d) state_limit move_limit (omega arith) (nodes_in_order d fit)
      (subst (λ (n : ℕ). 0 < n) (sym (nodes_long d.nodes 0)) (omega (arith, fit.some_node))) (omega arith)) is)

  pub meets_solved : (r : Answer) → Meets s t u r → outcome r u ≡ solved s t
  unfolding solved
  meets_solved (Err Table) m = ap (outcome (Err Table)) m.1 ∙ sym (ap (λ (b : Bool). cond b (read t s (read_sheet s)) (outcome (Err Table) t)) (not_right (lengths_right t) refl))
    where
      not_right : (b : Bool) → lengths_right t ≡ b → lengths_right t ≡ false
      not_right true e = absurd (m.0 (lengths_are t e))
      not_right false e = e
  meets_solved (Err (BadSheet f k)) m =
      ap (outcome (Err (BadSheet f k))) m.2 ∙ sym (solved_right m.0 ∙ ap (read t s) ((refusal_exact s f k).1 m.1))
  meets_solved (Err (Strata v)) m =
      let r = m.1.0 in
      ap (outcome (Err (Strata v))) m.2
      ∙ sym (solved_right m.0 ∙ read_as r ∙ ap (studied t r.sheet) ((place_is r.sheet.rules (sheet_fits r.sheet r.fits) v).1 m.1.1))
  meets_solved (Err (NoChoice k)) m = ap (outcome (Err (NoChoice k))) m.2 ∙ sym (game_as m.1.0 m.0 (refused 8 k) m.1.1)
  meets_solved (Err (ManyMoves k)) m = ap (outcome (Err (ManyMoves k))) m.2 ∙ sym (game_as m.1.0 m.0 (refused 7 k) m.1.1)
  meets_solved (Err (ManyStates k)) m = ap (outcome (Err (ManyStates k))) m.2 ∙ sym (game_as m.1.0 m.0 (refused 6 k) m.1.1)
  meets_solved (Ok solved) w =
      let a = w.answer in
      ap (λ (x : ℕ). outcome (accepts x solved.moves solved.verdict) u) w.states_are
      ∙ ap (λ (x : ℕ). outcome (accepts (length a.positions) x solved.verdict) u) w.moves_are
      ∙ ap (λ (x : Bool). outcome (accepts (length a.positions) (length a.successors) x) u) w.verdict_is
      ∙ ap (outcome (accepts (length a.positions) (length a.successors) a.verdict)) w.holds
      ∙ sym (game_as w.game w.lengths (accepted a) w.right)

-- ---- for the code: where it stops, what it answers meets the promise
pub solves_none : (s : List ℕ) (t : Tables) → lengths_right t ≡ false → Meets s t t (Err Table)
solves_none s t h = ((λ r. false≢true (sym h ∙ lengths_right_lem t r)), refl)

module _ (s : List ℕ) (t : Tables) (h : lengths_right t ≡ true) where
  solves_read : (u : Tables) (r : Answer) → outcome r u ≡ read t s (read_sheet s) → Meets s t u r
  unfolding solved
  solves_read u r e =
      subst (λ (o : Outcome). Meets s t o.tables o.answer)
      (ap (λ (b : Bool). cond b (read t s (read_sheet s)) (outcome (Err Table) t)) h ∙ sym e) (solved_meets s t)

  pub solves_unread : (f : Fault) (k : ℕ) → read_sheet s ≡ Err (unread f k) → Meets s t t (Err (BadSheet f k))
  solves_unread f k e = solves_read t (Err (BadSheet f k)) (ap (read t s) (sym e))

  module _ (y : Layout) (e : read_sheet s ≡ Ok y) where
    solves_studied : (u : Tables) (r : Answer) (a : Studied) → views.answer (sheet_in s y).rules ≡ a → outcome r u ≡ studied t (sheet_in s y) a → Meets s t u r
    solves_studied u r a f g = solves_read u r (g ∙ ap (studied t (sheet_in s y)) (sym f) ∙ ap (read t s) (sym e))

    pub solves_unstratified : (v : ℕ) → views.answer (sheet_in s y).rules ≡ refused_by v → Meets s t t (Err (Strata v))
    solves_unstratified v f = solves_studied t (Err (Strata v)) (refused_by v) f refl

    pub solves_played : (u : Tables) (r : Answer) → views.answer (sheet_in s y).rules ≡ Ok tt → outcome r u ≡ played (sheet_in s y) → Meets s t u r
    solves_played u r f g = solves_studied u r (Ok tt) f g

-- Two answers that both meet the promise for one input are equal, and so are the tables that they leave.
pub answer_unique : (s : List ℕ) (t u v : Tables) (r q : Answer) → Meets s t u r → Meets s t v q → (r ≡ q) × (u ≡ v)
answer_unique s t u v r q a b =
    let e : outcome r u ≡ outcome q v = meets_solved s t u r a ∙ sym (meets_solved s t v q b) in
    (ap (λ (o : Outcome). o.answer) e, ap (λ (o : Outcome). o.tables) e)
