-- Document 01's starred cases: one statement over the table, proved by computing.
use Prim.Native.Nat.{ℕ}
use mathlib.Core.Bool.{false}
use mathlib.Core.Path.{◌≡◌, refl, ap, ◌∙◌, subst}
use mathlib.Core.List.{List, [], ◌∷◌, ◌++◌}
use lib.Count as count
use Rattle.sheet.specs.Reading.{read_sheet}
use Rattle.sheet.specs.Fields as sheet_fields
use Rattle.sheet.specs.Question as sheet_question
use Rattle.sheet.specs.Reading as sheet_reading
use Rattle.facts.specs.Bits as facts_bits
use Rattle.facts.specs.Pack as facts_pack
use Rattle.rules.specs.Meaning as rules_meaning
use Rattle.rules.specs.Rules as rules_rules
use Rattle.views.specs.Reference as views_reference
use Rattle.views.specs.Sheet as views_sheet
use Rattle.choices.specs.Moves as choices_moves
use Rattle.position.specs.Choices as position_choices
use Rattle.position.specs.Meaning as position_meaning
use Rattle.meaning.specs.Marks as meaning_marks
use Rattle.meaning.specs.Model as meaning_model
use Rattle.meaning.specs.Reference as meaning_reference
use Rattle.meaning.specs.Rules as meaning_rules
use Rattle.atl.specs.Marking as atl_marking
use Rattle.engine.specs.Promise.{Tables, RightLengths, Meets}
use Rattle.engine.specs.Solved.{Outcome, outcome, told, played, read}
use lib.ListN.{get_or}
use Rattle.sheet.specs.Data.{part, Sheet, bytes_of}
use Rattle.meaning.specs.Rules.{Rules}
use Rattle.rules.specs.declared.Look.{Look}
use Rattle.sheet.specs.Fields.{Fits}
use Rattle.sheet.proofs.Exact.{exact}
use Rattle.views.proofs.Says.{views_same}
use Rattle.views.proofs.Fits.{sheet_fits}
use Rattle.meaning.specs.Reference.{result}
use Rattle.tables.specs.Lengths.{state_limit, move_limit}
use Rattle.position.specs.Meaning.{asked_by, nodes_of}
use Rattle.position.specs.Position.{still, says}
use Rattle.engine.specs.declared.Refusal.TheVariants.{Table}
use Rattle.std.specs.Prelude.{Ok, Err}
use Rattle.engine.specs.Promise.{accepts}
use Rattle.engine.specs.Cases.{Case, starred, sheet, lamp_rules, ◌from◌, node, two_states}
use Rattle.engine.proofs.Right.{solved_meets, solved_right}

-- every case of a list
abbrev Each : (Case → Type 0) → List Case → Type 0
Each P [] = Unit
Each P (c ∷ cs) = P c × Each P cs

infixr 20 ◌and◌
◌and◌ : {A B : Type 0} → A → B → A × B
a and b = (a, b)

-- what the reference computes meets the promise
by_computing : (t : Tables) (right : RightLengths t) (c : Case) → read t c.bytes (read_sheet c.bytes) ≡ outcome c.answer (c.tables t)
    → Meets c.bytes t (c.tables t) c.answer
by_computing t right c e =
    subst (λ (o : Outcome). Meets c.bytes t o.tables o.answer) (solved_right c.bytes t t right ∙ e) (solved_meets c.bytes t)

-- ---- VIEW 0 from VIEW 0 is the one case whose views are asked for: they are worked out by the reference that knows no levels
abbrev viewed : Sheet
viewed = sheet 1 (lamp_rules ++ (part 3 0 0 from (part 3 0 0 ∷ [])) ∷ []) (node 3 0 0 ∷ [])

-- what literals are read off in state s, where v are its views
abbrev seeing : ℕ → List ℕ → ℕ → Look
seeing s m v = record { facts = record { bits = s }; views = record { bits = v }; moves = m }

-- its game, where the views of a state are given
by_views : (ℕ → ℕ) → Rules
by_views views = record {
  roles = 2;
  initial = rules_rules.init_facts viewed.rules;
  terminal = λ s. rules_rules.is_terminal viewed.rules (seeing s still (views s));
  choices = λ s role. choices_moves.members (position_choices.choices (rules_rules.legal_set viewed.rules (seeing s still (views s)) role) (rules_rules.does_set role viewed.rules 0));
  target = λ s m. rules_rules.next_facts viewed.rules (seeing s m (views s));
  test = λ j s. says viewed.rules (seeing s still (views s)) (asked_by viewed j);
}

-- it is read as itself, so it keeps to every range
viewed_fits : Fits viewed
unfolding played count.ones sheet_fields.sizes_fit sheet_fields.within sheet_fields.coalitions sheet_fields.head_limits sheet_fields.literal_limits sheet_fields.node_limits sheet_fields.head_fits sheet_fields.literal_fits sheet_fields.node_fits sheet_fields.rule_fits sheet_fields.form_fits sheet_question.question_of sheet_reading.first_node sheet_reading.record_step sheet_reading.step_at sheet_reading.run sheet_reading.read_sheet facts_bits.insert facts_pack.pack rules_meaning.doing rules_meaning.holds rules_rules.fires rules_rules.added rules_rules.gathered rules_rules.does_of rules_rules.does_set rules_rules.legal_set rules_rules.legals_set rules_rules.legals_of rules_rules.is_terminal rules_rules.is_goal rules_rules.next_facts rules_rules.init_facts views_reference.settle views_reference.layer views_reference.layered views_reference.put views_reference.name_of views_reference.row_of views_reference.row views_reference.rows views_reference.join views_reference.close views_reference.reach views_reference.back_to views_reference.on_chain views_reference.closed views_reference.lowest views_reference.refused views_sheet.mask_at views_sheet.views_at views_sheet.answer choices_moves.members_from choices_moves.members position_choices.choices position_meaning.node_of meaning_marks.mark_time meaning_marks.mark meaning_model.found meaning_reference.rounds_for meaning_reference.choices_for meaning_reference.why meaning_reference.solve meaning_rules.joints meaning_rules.options meaning_rules.moves meaning_rules.after atl_marking.recount atl_marking.swept atl_marking.secures atl_marking.force atl_marking.next atl_marking.onward atl_marking.choice atl_marking.doomed
viewed_fits = (exact (bytes_of viewed) (record { sizes = viewed.sizes; rules = 8; nodes = 1; top = 6; first = 72 }) refl).fits

viewed_accepted : views_sheet.answer viewed.rules ≡ Ok tt
unfolding played count.ones sheet_fields.sizes_fit sheet_fields.within sheet_fields.coalitions sheet_fields.head_limits sheet_fields.literal_limits sheet_fields.node_limits sheet_fields.head_fits sheet_fields.literal_fits sheet_fields.node_fits sheet_fields.rule_fits sheet_fields.form_fits sheet_question.question_of sheet_reading.first_node sheet_reading.record_step sheet_reading.step_at sheet_reading.run sheet_reading.read_sheet facts_bits.insert facts_pack.pack rules_meaning.doing rules_meaning.holds rules_rules.fires rules_rules.added rules_rules.gathered rules_rules.does_of rules_rules.does_set rules_rules.legal_set rules_rules.legals_set rules_rules.legals_of rules_rules.is_terminal rules_rules.is_goal rules_rules.next_facts rules_rules.init_facts views_reference.settle views_reference.layer views_reference.layered views_reference.put views_reference.name_of views_reference.row_of views_reference.row views_reference.rows views_reference.join views_reference.close views_reference.reach views_reference.back_to views_reference.on_chain views_reference.closed views_reference.lowest views_reference.refused views_sheet.mask_at views_sheet.views_at views_sheet.answer choices_moves.members_from choices_moves.members position_choices.choices position_meaning.node_of meaning_marks.mark_time meaning_marks.mark meaning_model.found meaning_reference.rounds_for meaning_reference.choices_for meaning_reference.why meaning_reference.solve meaning_rules.joints meaning_rules.options meaning_rules.moves meaning_rules.after atl_marking.recount atl_marking.swept atl_marking.secures atl_marking.force atl_marking.next atl_marking.onward atl_marking.choice atl_marking.doomed
viewed_accepted = refl

view_case : (t : Tables) → read t (bytes_of viewed) (read_sheet (bytes_of viewed)) ≡ outcome (accepts 2 5 false) (two_states (0 ∷ 0 ∷ []) (0 ∷ 0 ∷ []) (0 ∷ 0 ∷ []))
unfolding played count.ones sheet_fields.sizes_fit sheet_fields.within sheet_fields.coalitions sheet_fields.head_limits sheet_fields.literal_limits sheet_fields.node_limits sheet_fields.head_fits sheet_fields.literal_fits sheet_fields.node_fits sheet_fields.rule_fits sheet_fields.form_fits sheet_question.question_of sheet_reading.first_node sheet_reading.record_step sheet_reading.step_at sheet_reading.run sheet_reading.read_sheet facts_bits.insert facts_pack.pack rules_meaning.doing rules_meaning.holds rules_rules.fires rules_rules.added rules_rules.gathered rules_rules.does_of rules_rules.does_set rules_rules.legal_set rules_rules.legals_set rules_rules.legals_of rules_rules.is_terminal rules_rules.is_goal rules_rules.next_facts rules_rules.init_facts views_reference.settle views_reference.views views_reference.least views_reference.stands views_reference.fires views_reference.swept views_reference.layer views_reference.layered views_reference.put views_reference.name_of views_reference.row_of views_reference.row views_reference.rows views_reference.join views_reference.close views_reference.reach views_reference.back_to views_reference.on_chain views_reference.closed views_reference.lowest views_reference.refused views_sheet.mask_at views_sheet.views_at views_sheet.answer choices_moves.members_from choices_moves.members position_choices.choices position_meaning.node_of meaning_marks.mark_time meaning_marks.mark meaning_model.found meaning_reference.rounds_for meaning_reference.choices_for meaning_reference.why meaning_reference.solve meaning_rules.joints meaning_rules.options meaning_rules.moves meaning_rules.after atl_marking.recount atl_marking.swept atl_marking.secures atl_marking.force atl_marking.next atl_marking.onward atl_marking.choice atl_marking.doomed by_views
view_case t = ap (λ (f : ℕ → ℕ). told (result (by_views f) (nodes_of viewed) state_limit move_limit))
    (λ i s. views_same viewed.rules (sheet_fits viewed viewed_fits) viewed_accepted s i)

-- THE STARRED CASES: the engine's promise holds of each with that answer and those tables, whatever the tables held when they were lent
pub starred_cases : (t : Tables) → RightLengths t → Each (λ c. Meets c.bytes t (c.tables t) c.answer) starred
unfolding played count.ones sheet_fields.sizes_fit sheet_fields.within sheet_fields.coalitions sheet_fields.head_limits sheet_fields.literal_limits sheet_fields.node_limits sheet_fields.head_fits sheet_fields.literal_fits sheet_fields.node_fits sheet_fields.rule_fits sheet_fields.form_fits sheet_question.question_of sheet_reading.first_node sheet_reading.record_step sheet_reading.step_at sheet_reading.run sheet_reading.read_sheet facts_bits.insert facts_pack.pack rules_meaning.doing rules_meaning.holds rules_rules.fires rules_rules.added rules_rules.gathered rules_rules.does_of rules_rules.does_set rules_rules.legal_set rules_rules.legals_set rules_rules.legals_of rules_rules.is_terminal rules_rules.is_goal rules_rules.next_facts rules_rules.init_facts views_reference.settle views_reference.layer views_reference.layered views_reference.put views_reference.name_of views_reference.row_of views_reference.row views_reference.rows views_reference.join views_reference.close views_reference.reach views_reference.back_to views_reference.on_chain views_reference.closed views_reference.lowest views_reference.refused views_sheet.mask_at views_sheet.views_at views_sheet.answer choices_moves.members_from choices_moves.members position_choices.choices position_meaning.node_of meaning_marks.mark_time meaning_marks.mark meaning_model.found meaning_reference.rounds_for meaning_reference.choices_for meaning_reference.why meaning_reference.solve meaning_rules.joints meaning_rules.options meaning_rules.moves meaning_rules.after atl_marking.recount atl_marking.swept atl_marking.secures atl_marking.force atl_marking.next atl_marking.onward atl_marking.choice atl_marking.doomed
starred_cases t right =
    by_computing t right (at 0) refl and
    by_computing t right (at 1) refl and
    by_computing t right (at 2) refl and
    by_computing t right (at 3) refl and
    by_computing t right (at 4) refl and
    by_computing t right (at 5) refl and
    by_computing t right (at 6) (view_case t) and
    by_computing t right (at 7) refl and
    by_computing t right (at 8) refl and
    by_computing t right (at 9) refl and
    by_computing t right (at 10) refl and
    by_computing t right (at 11) refl and
    by_computing t right (at 12) refl and tt
  where
    at : ℕ → Case
    at i = get_or starred i (record { bytes = []; answer = Err Table; tables = λ t. t })
