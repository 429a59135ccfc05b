-- For the code that plays: a game that is refused, and one whose model and marks are in the tables, are what the reference gives.
use Prim.Native.Nat.{ℕ, ◌*◌, ◌<◌}
use mathlib.Core.Path.{◌≡◌, sym, ap, ◌∙◌, subst}
use mathlib.Core.Bool.{Bool}
use mathlib.Core.List.{List, []}
use native.Mathlib.Omega.{arith}
use lib.ListN.{length, take, length-map}
use Rattle.tables.specs.Lengths.{state_limit, move_limit}
use Rattle.tables.specs.Pad.{pad}
use Rattle.sheet.specs.Data.{Sheet}
use Rattle.sheet.specs.Fields.{Fits}
use Rattle.meaning.specs.Model.{IsRefusal, IsModel}
use Rattle.meaning.specs.Promise.{Result, refused, accepted, IsResult}
use Rattle.meaning.specs.Reference as reference
use Rattle.meaning.specs.Reference.{result}
use Rattle.meaning.proofs.Promise.{answer_meets}
use Rattle.meaning.proofs.Result.{result_right, result_unique}
use Rattle.position.specs.Meaning.{nodes_of}
use Rattle.position.specs.Position.{rules_of}
use Rattle.position.proofs.Nodes.{nodes_long, nodes_in_order}
use Rattle.sheet.specs.declared.Layout.{Layout}
use Rattle.sheet.specs.Reading.{read_sheet, sheet_in}
use Rattle.meaning.specs.Lists.{place, all}
use Rattle.meaning.specs.Rules.{targets}
use Rattle.meaning.specs.Promise as promise
use Rattle.tables.proofs.Pad.{take_pad}
use Rattle.model.specs.declared.Refusal.{Refusal as Stop}
use Rattle.offer.specs.Offer.{role_limit}
use Rattle.model.specs.Views.{views_of}
use Rattle.model.specs.Tables.{Sized, Zeros}
use Rattle.model.specs.Answers as model
use Rattle.model.specs.Answers.{Accepts}
use Rattle.nodes.specs.Asked.{Asked, Answered}
use Rattle.engine.specs.declared.Refusal.{Refusal}
use Rattle.std.specs.Prelude.{Ok, Err}
use Rattle.engine.specs.Promise.{accepts, tables, RightLengths, zero_tables}
use Rattle.engine.specs.Solved.{outcome, stop, told, played}

module _ (d : Sheet) (fit : Fits d) where
  some_node : 0 < length (nodes_of d)
  some_node = subst (λ (n : ℕ). 0 < n) (sym (nodes_long d.nodes 0)) (omega (arith, fit.some_node))

  -- any right result is the reference's
  played_is : (r : Result) → IsResult (rules_of d) (nodes_of d) state_limit move_limit r → told r ≡ played d
  unfolding played
  played_is r h =
      ap told (result_unique (rules_of d) (nodes_of d) state_limit move_limit r (result (rules_of d) (nodes_of d) state_limit move_limit) h
      (result_right (rules_of d) (nodes_of d) state_limit move_limit (omega arith) (nodes_in_order d fit) some_node (omega arith)))

  pub played_refused : (n k : ℕ) → IsRefusal (rules_of d) state_limit move_limit n k → outcome (Err (stop n k)) zero_tables ≡ played d
  played_refused n k h = played_is (refused n k) h

  pub played_accepted : (l : List ℕ) → IsModel (rules_of d) state_limit move_limit l → told (accepted (reference.answer (rules_of d) (nodes_of d) l)) ≡ played d
  played_accepted l h =
      played_is (accepted (reference.answer (rules_of d) (nodes_of d) l))
      (answer_meets (rules_of d) (nodes_of d) state_limit move_limit (omega arith) l h (nodes_in_order d fit) some_node)

-- ---- the tables
module _ {a b c d e f a' b' c' d' e' f' : List ℕ} where
  tables_same : a ≡ a' → b ≡ b' → c ≡ c' → d ≡ d' → e ≡ e' → f ≡ f' → tables a b c d e f ≡ tables a' b' c' d' e' f'
  tables_same p q r s t u = λ i. record { states = p i; starts = q i; successors = r i; rounds = s i; choices = t i; marks = u i }

-- the lengths, as the builder asks for them
pub sized : (states starts successors rounds choices marks counts views : List ℕ) → RightLengths (tables states starts successors rounds choices marks) → length counts ≡ role_limit * state_limit → length views ≡ state_limit
    → Sized state_limit move_limit states starts successors counts views
sized states starts successors rounds choices marks counts views r h k =
    record { states_long = r.states; starts_long = r.starts; successors_long = r.successors; counts_long = h; views_long = k }

module _ (d : Sheet) (fit : Fits d) where
  -- refused: every table is zero
  pub play_stops : (f : Stop) (x : Refusal) → x ≡ stop (model.number_of f) (model.place_of f) → (states starts successors counts views rounds choices marks : List ℕ)
      → IsRefusal (rules_of d) state_limit move_limit (model.number_of f) (model.place_of f) × Zeros state_limit move_limit states starts successors counts views
      → rounds ≡ pad state_limit [] → choices ≡ pad state_limit [] → marks ≡ pad state_limit []
      → outcome (Err x) (tables states starts successors rounds choices marks) ≡ played d
  play_stops f x e states starts successors counts views rounds choices marks h p q r =
      ap (λ (y : Refusal). outcome (Err y) (tables states starts successors rounds choices marks)) e
      ∙ ap (outcome (Err (stop (model.number_of f) (model.place_of f)))) (tables_same h.1.states_zero h.1.starts_zero h.1.successors_zero p q r)
      ∙ played_refused d fit (model.number_of f) (model.place_of f) h.0

  -- the first n states are the positions
  pub first_states : (n m : ℕ) (states starts successors counts views : List ℕ) → (h : Accepts (rules_of d) (views_of d) state_limit move_limit n m states starts successors counts views) → take n states ≡ h.positions
  first_states n m states starts successors counts views h =
      ap (λ (k : ℕ). take k states) h.count ∙ ap (take (length h.positions)) h.states_are ∙ take_pad state_limit h.positions

  -- accepted: the tables hold the answer
  pub play_accepts : (n m : ℕ) (v : Bool) (states starts successors counts views rounds choices marks : List ℕ)
      → Accepts (rules_of d) (views_of d) state_limit move_limit n m states starts successors counts views
      → Answered (reference.answer (rules_of d) (nodes_of d) (take n states)) v marks rounds choices
      → outcome (accepts n m v) (tables states starts successors rounds choices marks) ≡ played d
  play_accepts n m v states starts successors counts views rounds choices marks h w =
      let l = h.positions in
      let e = first_states n m states starts successors counts views h in
      let a : List ℕ → promise.Answer = reference.answer (rules_of d) (nodes_of d) in
      let moves : m ≡ length (a l).successors = h.moves ∙ sym (length-map (all (targets (rules_of d)) l) (λ (t : ℕ). place t l)) in
      ap (λ (k : ℕ). outcome (accepts k m v) (tables states starts successors rounds choices marks)) h.count
      ∙ ap (λ (k : ℕ). outcome (accepts (length l) k v) (tables states starts successors rounds choices marks)) moves
      ∙ ap (λ (b : Bool). outcome (accepts (length l) (length (a l).successors) b) (tables states starts successors rounds choices marks)) (w.verdict_is ∙ ap (λ (x : List ℕ). (a x).verdict) e)
      ∙ ap (outcome (accepts (length l) (length (a l).successors) (a l).verdict))
      (tables_same h.states_are h.starts_are h.successors_are
      (w.rounds_are ∙ ap (λ (x : List ℕ). pad state_limit (a x).rounds) e)
      (w.choices_are ∙ ap (λ (x : List ℕ). pad state_limit (a x).choices) e)
      (w.marks_are ∙ ap (λ (x : List ℕ). pad state_limit (a x).marks) e))
      ∙ played_accepted d fit l h.is_model

  -- what the question is asked of
  pub asked : (s : List ℕ) (y : Layout) → read_sheet s ≡ Ok y → sheet_in s y ≡ d → (n m : ℕ) (states starts successors counts views : List ℕ)
      → Accepts (rules_of d) (views_of d) state_limit move_limit n m states starts successors counts views → Asked s y n states views starts successors counts
  asked s y r same n m states starts successors counts views h = record {
    sheet = r;
    moves = m;
    model = subst (λ (g : Sheet). Accepts (rules_of g) (views_of g) state_limit move_limit n m states starts successors counts views) (sym same) h;
  }
