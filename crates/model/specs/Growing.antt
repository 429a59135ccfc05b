-- The model as it grows: what the tables hold, and the answers of the functions that fill them.
use Rattle.std.specs.Prelude.{ℕ, ◌+◌, ◌*◌, ◌<◌, ◌≡◌, List, [], ◌∷◌, ◌++◌, Option, Some, None, Result, Ok, Err, length}
use Rattle.tables.specs.Pad.{pad}
use Rattle.lookup.specs.Tree.{Treed}
use Rattle.meaning.specs.Lists.{place}
use Rattle.meaning.specs.Rules.{Rules}
use Rattle.meaning.specs.Model.{found, IsRefusal}
use Rattle.meaning.specs.Filling.{grown, add, starts_to, successors_to}
use Rattle.meaning.proofs.Outcome.{SoFar}
use Rattle.sheet.specs.Reading.{sheet_in}
use Rattle.position.specs.Position.{rules_of}
use Rattle.offer.specs.Offer.{role_limit}
use Rattle.offer.specs.declared.Study.{Study}
use Rattle.model.specs.Counts.{counts_to}
use Rattle.model.specs.Views.{views_of, views_to}
use Rattle.model.specs.Tables.{Holds, numbers, Sized}
use Rattle.model.specs.Answers.{number_of, place_of, Accepts}
use Rattle.model.specs.declared.Refusal.{Refusal}
use Rattle.model.specs.declared.growing.Growing.{Growing}

-- The tables are the ones that were lent, and as long.
pub record Lent (g h : Growing) : Type 0 where
  pub states : h.states.ghost_name ≡ g.states.ghost_name
  pub starts : h.starts.ghost_name ≡ g.starts.ghost_name
  pub successors : h.successors.ghost_name ≡ g.successors.ghost_name
  pub counts : h.counts.ghost_name ≡ g.counts.ghost_name
  pub views : h.views.ghost_name ≡ g.views.ghost_name
  pub states_long : length h.states.now ≡ length g.states.now
  pub starts_long : length h.starts.now ≡ length g.starts.now
  pub successors_long : length h.successors.now ≡ length g.successors.now
  pub counts_long : length h.counts.now ≡ length g.counts.now
  pub views_long : length h.views.now ≡ length g.views.now

-- The tables have their lengths.
abbrev pub Lengths : ℕ → ℕ → Growing → Type 0
Lengths limit joints g = Sized limit joints g.states.now g.starts.now g.successors.now g.counts.now g.views.now

-- The rows of the positions stay: starts, counts and views.
pub record Rows (g h : Growing) : Type 0 where
  pub starts : h.starts ≡ g.starts
  pub counts : h.counts ≡ g.counts
  pub views : h.views ≡ g.views

-- The table of states holds l, and its tree finds each.
pub record Numbered (limit : ℕ) (l : List ℕ) (g : Growing) : Type 0 where
  pub holds : Holds limit g.states.now g.found l
  pub treed : Treed g.states.now g.found g.tree.tests g.tree.forks

-- The five tables hold the state x and zeros alone.
pub record Fresh (limit joints x : ℕ) (g : Growing) : Type 0 where
  pub states_are : g.states.now ≡ pad limit (x ∷ [])
  pub starts_zero : g.starts.now ≡ pad (limit + 1) []
  pub successors_zero : g.successors.now ≡ pad joints []
  pub counts_zero : g.counts.now ≡ pad (role_limit * limit) []
  pub views_zero : g.views.now ≡ pad limit []
  pub one_found : g.found ≡ 1
  pub none_listed : g.listed ≡ 0

-- What entering t answers, where the table held l: the number of t, and the table holds l with t; or there is no room.
abbrev pub Entered : ℕ → List ℕ → ℕ → Option ℕ → Growing → Type 0
Entered limit l t (Some i) g = (i ≡ place t l) × Numbered limit (grown l t) g
Entered limit l t None g = limit < length (grown l t)

-- What listing the targets ts answers, where the tables held the states l and the successors z; `at` joint moves are listed then.
abbrev pub Listed : (limit joints : ℕ) (l z ts : List ℕ) → ℕ → Option (Unit {0}) → Growing → Type 0
Listed limit joints l z ts at (Some u) g = Numbered limit (add l ts) g × Holds joints g.successors.now g.listed (z ++ numbers (add l ts) ts) × (g.listed ≡ at)
Listed limit joints l z ts at None g = limit < length (add l ts)

-- The rules of the game that is studied, and the views of each of its positions.
abbrev pub rules_in : Study → Rules
rules_in t = rules_of (sheet_in t.s.now t.y)

abbrev pub seen_in : Study → ℕ → ℕ
seen_in t = views_of (sheet_in t.s.now t.y)

-- The game's rules, the views of each position, and the limits.
module _ (R : Rules) (seen : ℕ → ℕ) (limit joints : ℕ) where
  -- The first k positions have been expanded, none of them was refused, and the tables hold what has been found; `seen` says the views of a position.
  pub record Stage (k : ℕ) (g : Growing) : Type 0 where
    pub so_far : SoFar R limit joints k
    pub numbered : Numbered limit (found R k) g
    pub starts_hold : Holds (limit + 1) g.starts.now (k + 1) (starts_to R k)
    pub successors_hold : Holds joints g.successors.now g.listed (successors_to R k)
    pub counts_hold : Holds (role_limit * limit) g.counts.now (role_limit * k) (counts_to R k)
    pub views_hold : Holds limit g.views.now k (views_to R seen k)

  -- What expanding position k answers: one position more is expanded, or it is refused.
  abbrev pub Expanded : ℕ → Result (Unit {0}) Refusal → Growing → Type 0
  Expanded k (Ok u) g = Stage (k + 1) g
  Expanded k (Err f) g = IsRefusal R limit joints (number_of f) (place_of f)

  -- What expanding every position answers; on a refusal nothing is said of the tables yet.
  abbrev pub Explored : Result (Unit {0}) Refusal → Growing → Type 0
  Explored (Ok u) g = Accepts R seen limit joints g.found g.listed g.states.now g.starts.now g.successors.now g.counts.now g.views.now
  Explored (Err f) g = IsRefusal R limit joints (number_of f) (place_of f)
