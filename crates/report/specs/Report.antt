-- What is printed of a sheet, and what a report is: an answer that meets the engine's promise, and its text.
use Rattle.std.specs.Prelude.{ℕ, ◌+◌, ◌-◌, ◌*◌, Bool, true, false, List, Ok, Err}
use Rattle.sheet.specs.declared.Layout.{Layout}
use Rattle.sheet.specs.declared.question.Future.{Future}
use Rattle.sheet.specs.declared.question.Future.TheVariants as future
use Rattle.sheet.specs.declared.question.Question.{Question}
use Rattle.sheet.specs.declared.question.Question.TheVariants as question
use Rattle.sheet.specs.Data.{node_at}
use Rattle.sheet.specs.Question.{question_of}
use Rattle.sheet.specs.Reading.{Answer as Reading, read_sheet}
use Rattle.listing.specs.Listing.{listing, refusal, tables_of}
use Rattle.listing.specs.Buffer.{Prints}
use Rattle.engine.specs.Promise.{Answer, number_of, place_of, Tables, Meets}
use Rattle.report.specs.declared.Last.{Last}

-- The future is EVENTUALLY.
abbrev pub is_reach : Future → Bool
is_reach (future.Next a) = false
is_reach (future.Always a) = false
is_reach (future.Eventually a) = true
is_reach (future.Until a b) = false

-- The node is EVENTUALLY.
abbrev pub is_eventually : Question → Bool
is_eventually question.Unknown = false
is_eventually question.True = false
is_eventually (question.Fact f) = false
is_eventually (question.View v) = false
is_eventually (question.Legal r m) = false
is_eventually (question.Goal r v) = false
is_eventually question.Terminal = false
is_eventually (question.Not a) = false
is_eventually (question.And a b) = false
is_eventually (question.Or a b) = false
is_eventually (question.Can c f) = is_reach f

-- The last node of a sheet with this layout: its number, and whether it is EVENTUALLY.
unfoldable pub last_at : List ℕ → Layout → Last
last_at s y = record { number = y.nodes - 1; eventually = is_eventually (question_of (node_at s (y.first + 6 * (y.nodes - 1)))) }

-- The last node of a sheet; one that does not read has none.
abbrev pub last_in : List ℕ → Reading → Last
last_in s (Ok y) = last_at s y
last_in s (Err _) = record { number = 0; eventually = false }

-- The listing of an accepted sheet.
unfoldable pub listing_of : List ℕ → Tables → ℕ → Bool → List ℕ
listing_of s t n verdict =
    listing (tables_of t.states t.starts t.marks t.rounds t.choices (last_in s (read_sheet s)).number (last_in s (read_sheet s)).eventually) n verdict

-- What is printed of an answer.
abbrev pub text_of : List ℕ → Tables → Answer → List ℕ
text_of s t (Ok solved) = listing_of s t solved.states solved.verdict
text_of s t (Err r) = refusal (number_of r) (place_of r)

-- The buffer holds the text of an answer that meets the promise.
pub record Reports (s : List ℕ) (before after : Tables) (out_before out_after : List ℕ) (r : ℕ) : Type 0 where
  pub answer : Answer
  pub meets : Meets s before after answer
  pub prints : Prints (text_of s after answer) out_before out_after r
