-- The used part of the lent tables, as an answer: what a holder of the tables looks at.
use Rattle.std.specs.Prelude.{ℕ, ◌+◌, Bool, take}
use Rattle.meaning.specs.Promise.{Answer}
use Rattle.engine.specs.Promise.{Tables}

-- The first entries of each table, for so many states and joint moves, and the verdict.
abbrev pub used : Tables → ℕ → ℕ → Bool → Answer
used t states moves verdict = record {
  positions = take states t.states;
  starts = take (states + 1) t.starts;
  successors = take moves t.successors;
  marks = take states t.marks;
  rounds = take states t.rounds;
  choices = take states t.choices;
  verdict = verdict;
}
