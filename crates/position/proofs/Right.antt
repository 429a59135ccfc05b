-- The game that is computed from a sheet is the game of that sheet, and there is no other.
use Prim.Native.Nat.{ℕ, ◌<◌}
use mathlib.Core.Path.{◌≡◌, refl, sym, ◌∙◌, subst}
use mathlib.Core.Bool.{Bool, true, false≢true}
use mathlib.Core.Logic.{◌↔◌, ⊎_elim}
use mathlib.Core.List.{List, []}
use native.Mathlib.Omega.{arith}
use borrow.Author.Tests.{eqb-true, eq-eqb}
use lib.Bits.{bit_and}
use Rattle.facts.specs.Truth.{same_test, and_left, and_right, and_both}
use Rattle.facts.specs.Bits.{bit, has}
use Rattle.facts.specs.Laws.{has_and, has_beyond}
use Rattle.facts.specs.Sets.{same_bit, same_set, le_or_lt}
use Rattle.sheet.specs.declared.record.Part.{Part}
use Rattle.sheet.specs.Data.{Rule, Sheet}
use Rattle.sheet.specs.Fields.{Fits, rule_fits}
use Rattle.sheet.specs.declared.question.Question.{Question}
use Rattle.sheet.specs.declared.question.Question.TheVariants as question
use Rattle.rules.specs.declared.Look.{Look}
use Rattle.rules.specs.declared.Ask.TheVariants.{Init, Next}
use Rattle.rules.specs.Meaning.{Fires, NextHolds, LegalHolds, GoalHolds, TerminalHolds, InitHolds, nothing}
use Rattle.rules.specs.Rules.{does_set, legal_set, next_facts, init_facts}
use Rattle.rules.proofs.Laws.{legal_lt}
use Rattle.rules.proofs.Says.{gathered_is, next_is, legal_is, terminal_is, goal_is, init_is, does_is}
use Rattle.std.specs.Prelude.{Ok}
use Rattle.views.specs.Meaning.{At, view_rules, Stratified}
use Rattle.views.specs.Sheet.{answer}
use Rattle.views.proofs.Fits.{sheet_fits}
use Rattle.views.proofs.Says.{accepted_is, look_at_lem, look_only}
use Rattle.choices.specs.Moves.{members}
use Rattle.choices.proofs.Members.{member_is, members_ascending, ascending_unique}
use Rattle.meaning.specs.Lists.{◌∈◌}
use Rattle.meaning.specs.Rules.{Rules}
use Rattle.position.specs.Choices.{choices}
use Rattle.position.specs.Meaning.{IsChoice, Tests, asked_by, Follows, GameOf}
use Rattle.position.specs.Position.{still, look_in, says, rules_of}
use Rattle.position.proofs.Fitting.{Room, sizes_room, rule_fits_lem, init_below, next_below, legal_below}
use Rattle.position.proofs.Same.{fires_still}

flip : {A B : Type 0} → A ↔ B → B ↔ A
flip p = (p.1, p.0)

both_ways : {A B C : Type 0} → A ↔ B → B ↔ C → A ↔ C
both_ways p q = (λ a. q.0 (p.0 a), λ c. p.1 (q.1 c))

module _ (d : Sheet) (fit : Fits d) where
  abbrev rs : List Rule
  rs = d.rules

  room : Room d.sizes
  room = sizes_room d.sizes fit.sizes

  head_fits_lem : {k : Look} {H : Part → Type 0} (f : Fires rs k H) → rule_fits d.sizes f.rule ≡ true
  head_fits_lem f = (rule_fits_lem d.sizes rs fit.rules f.rule f.there).0

  -- what the rules name is small
  legal_small : (k : Look) (role move : ℕ) → LegalHolds rs k role move → move < 16
  unfolding LegalHolds
  legal_small k role move f = omega (arith, (legal_below d.sizes f.rule (head_fits_lem f) f.head.0).1, f.head.2, room.moves)

  next_low : (k : Look) (fact : ℕ) → has (next_facts rs k) fact ≡ true → fact < 64
  unfolding next_facts
  next_low k fact h = ((gathered_is Next k (λ v x. refl) rs fact).0 h).head.1

  next_named : (k : Look) (fact : ℕ) → NextHolds rs k fact → fact < 64
  unfolding NextHolds
  next_named k fact f = omega (arith, next_below d.sizes f.rule (head_fits_lem f) f.head.0, f.head.1, room.facts)

  next_right : (k : Look) (fact : ℕ) → (has (next_facts rs k) fact ≡ true) ↔ NextHolds rs k fact
  next_right k fact = (λ h. (next_is rs k fact (next_low k fact h)).0 h, λ f. (next_is rs k fact (next_named k fact f)).1 f)

  init_low : (fact : ℕ) → has (init_facts rs) fact ≡ true → fact < 64
  unfolding init_facts
  init_low fact h = ((gathered_is Init nothing (λ v x. refl) rs fact).0 h).head.1

  init_named : (fact : ℕ) → InitHolds rs fact → fact < 64
  unfolding InitHolds
  init_named fact f = omega (arith, init_below d.sizes f.rule (head_fits_lem f) f.head.0, f.head.1, room.facts)

  init_right : (fact : ℕ) → (has (init_facts rs) fact ≡ true) ↔ InitHolds rs fact
  init_right fact = (λ h. (init_is rs fact (init_low fact h)).0 h, λ f. (init_is rs fact (init_named fact f)).1 f)

  legal_low : (k : Look) (role move : ℕ) → has (legal_set rs k role) move ≡ true → move < 16
  unfolding legal_set
  legal_low k role move h = ⊎_elim
      (λ up. absurd (false≢true (has_beyond 16 (legal_set rs k role) move (legal_lt role k rs) up ∙ h)))
      (λ low. low)
      (le_or_lt 16 move)

  legal_right : (k : Look) (role move : ℕ) → (has (legal_set rs k role) move ≡ true) ↔ LegalHolds rs k role move
  legal_right k role move = (λ h. (legal_is rs k role move (legal_low k role move h)).0 h, λ f. (legal_is rs k role move (legal_small k role move f)).1 f)

  choice_right : (k : Look) (role move : ℕ) → (move ∈ members (choices (legal_set rs k role) (does_set role rs 0))) ↔ IsChoice rs k role move
  unfolding choices IsChoice
  choice_right k role move =
      let legal = legal_set rs k role in
      let moves = does_set role rs 0 in (
        λ h. let (low, b) = (member_is (bit_and legal moves) move).0 h in
            let e = sym (has_and legal moves move) ∙ b in
            ((legal_right k role move).0 (and_left _ _ e), (does_is role move low rs).0 (and_right (has legal move) _ e)),
        λ p. let low = legal_small k role move p.0 in
            (member_is (bit_and legal moves) move).1 (low, has_and legal moves move ∙ and_both ((legal_right k role move).1 p.0) ((does_is role move low rs).1 p.1)),
      )

  test_right : (k : Look) (q : Question) → (says rs k q ≡ true) ↔ Tests rs k q
  unfolding Tests
  test_right k question.True = (λ h. tt, λ h. refl)
  test_right k (question.Fact f) = (λ h. h, λ h. h)
  test_right k (question.View v) = (λ h. h, λ h. h)
  test_right k (question.Legal role move) = legal_right k role move
  test_right k (question.Goal role value) = goal_is rs k role value
  test_right k question.Terminal = terminal_is rs k
  test_right k question.Unknown = (λ h. false≢true h, λ h. absurd h)
  test_right k (question.Not a) = (λ h. false≢true h, λ h. absurd h)
  test_right k (question.And a b) = (λ h. false≢true h, λ h. absurd h)
  test_right k (question.Or a b) = (λ h. false≢true h, λ h. absurd h)
  test_right k (question.Can c f) = (λ h. false≢true h, λ h. absurd h)

  -- whatever moves are made
  module _ (s : ℕ) (m : List ℕ) where
    swap : (n l : List ℕ) (H : Part → Type 0) → ((h : Part) → H h → h.kind ≡ 2 → ⊥) → Fires rs (look_in rs s n) H → Fires rs (look_in rs s l) H
    swap n l H other f = fires_still (look_in rs s n) n l d fit H other f

    move_free : (H : Part → Type 0) → ((h : Part) → H h → h.kind ≡ 2 → ⊥) → Fires rs (look_in rs s still) H ↔ Fires rs (look_in rs s m) H
    move_free H other = (swap still m H other, swap m still H other)

    terminal_free : TerminalHolds rs (look_in rs s still) ↔ TerminalHolds rs (look_in rs s m)
    unfolding TerminalHolds
    terminal_free = move_free _ (λ h e g. omega arith)

    legal_free : (role move : ℕ) → LegalHolds rs (look_in rs s still) role move ↔ LegalHolds rs (look_in rs s m) role move
    unfolding LegalHolds
    legal_free role move = move_free _ (λ h e g. omega (arith, e.0))

    goal_free : (role value : ℕ) → GoalHolds rs (look_in rs s still) role value ↔ GoalHolds rs (look_in rs s m) role value
    unfolding GoalHolds
    goal_free role value = move_free _ (λ h e g. omega (arith, e.0))

    choice_free : (role move : ℕ) → IsChoice rs (look_in rs s still) role move ↔ IsChoice rs (look_in rs s m) role move
    unfolding IsChoice
    choice_free role move = (λ p. ((legal_free role move).0 p.0, p.1), λ p. ((legal_free role move).1 p.0, p.1))

    test_free : (q : Question) → Tests rs (look_in rs s still) q ↔ Tests rs (look_in rs s m) q
    unfolding Tests
    test_free question.True = (λ h. h, λ h. h)
    test_free (question.Fact f) = (λ h. h, λ h. h)
    test_free (question.View v) = (λ h. h, λ h. h)
    test_free (question.Legal role move) = legal_free role move
    test_free (question.Goal role value) = goal_free role value
    test_free question.Terminal = terminal_free
    test_free question.Unknown = (λ h. h, λ h. h)
    test_free (question.Not a) = (λ h. h, λ h. h)
    test_free (question.And a b) = (λ h. h, λ h. h)
    test_free (question.Or a b) = (λ h. h, λ h. h)
    test_free (question.Can c f) = (λ h. h, λ h. h)

    follows_at : Follows d (rules_of d) s m (look_in rs s m)
    follows_at = record {
      terminal = both_ways (terminal_is rs (look_in rs s still)) terminal_free;
      choices = λ role move. both_ways (choice_right (look_in rs s still) role move) (choice_free role move);
      target = next_right (look_in rs s m);
      test = λ j. both_ways (test_right (look_in rs s still) (asked_by d j)) (test_free (asked_by d j));
    }

  -- the VIEW rules are stratified
  module _ (ok : Stratified (view_rules rs)) where
    accepted : answer rs ≡ Ok tt
    accepted = (accepted_is rs (sheet_fits d fit)).1 ok

    pub rules_right : GameOf d (rules_of d)
    rules_right = record {
      roles = refl;
      initial = init_right;
      ascending = λ s role. members_ascending (choices (legal_set rs (look_in rs s still) role) (does_set role rs 0));
      follows = λ s m k a. subst (Follows d (rules_of d) s m) (sym (look_only rs (sheet_fits d fit) accepted s m k a)) (follows_at s m);
    }

    at_look : (s : ℕ) (m : List ℕ) → At rs s m (look_in rs s m)
    at_look s m = look_at_lem rs (sheet_fits d fit) accepted s m

    -- two games of one sheet are equal, place by place
    module _ (R Q : Rules) (g : GameOf d R) (h : GameOf d Q) where
      by : (s : ℕ) (m : List ℕ) → Follows d R s m (look_in rs s m)
      by s m = g.follows s m (look_in rs s m) (at_look s m)

      also : (s : ℕ) (m : List ℕ) → Follows d Q s m (look_in rs s m)
      also s m = h.follows s m (look_in rs s m) (at_look s m)

      same_truth : {A : Type 0} (x y : Bool) → (x ≡ true) ↔ A → (y ≡ true) ↔ A → x ≡ y
      same_truth x y p q = same_test x y (λ e. q.1 (p.0 e)) (λ e. p.1 (q.0 e))

      same_number : (x y : ℕ) (A : ℕ → Type 0) → ((i : ℕ) → (has x i ≡ true) ↔ A i) → ((i : ℕ) → (has y i ≡ true) ↔ A i) → x ≡ y
      same_number x y A p q = same_set x y (λ i. same_bit x y i
          (λ e. eqb-true (bit y i) 1 ((q i).1 ((p i).0 (eq-eqb (bit x i) 1 e))))
          (λ e. eqb-true (bit x i) 1 ((p i).1 ((q i).0 (eq-eqb (bit y i) 1 e)))))

      same_terminal : (s : ℕ) → R.terminal s ≡ Q.terminal s
      same_terminal s = same_truth (R.terminal s) (Q.terminal s) (by s []).terminal (also s []).terminal

      same_choices : (s role : ℕ) → R.choices s role ≡ Q.choices s role
      same_choices s role = ascending_unique (R.choices s role) (Q.choices s role) (g.ascending s role) (h.ascending s role)
          (λ x. both_ways ((by s []).choices role x) (flip ((also s []).choices role x)))

      same_target : (s : ℕ) (m : List ℕ) → R.target s m ≡ Q.target s m
      same_target s m = same_number (R.target s m) (Q.target s m) (NextHolds rs (look_in rs s m)) (by s m).target (also s m).target

      same_tests : (j s : ℕ) → R.test j s ≡ Q.test j s
      same_tests j s = same_truth (R.test j s) (Q.test j s) ((by s []).test j) ((also s []).test j)

      pub rules_unique : R ≡ Q
      rules_unique =
          let roles = g.roles ∙ sym h.roles in
          let initial = same_number R.initial Q.initial (InitHolds rs) g.initial h.initial in
          λ i. record {
            roles = roles i;
            initial = initial i;
            terminal = λ s. same_terminal s i;
            choices = λ s role. same_choices s role i;
            target = λ s m. same_target s m i;
            test = λ j s. same_tests j s i;
          }
