-- What each writing function leaves: a text from some place on, and where it ends.
use Rattle.std.specs.Prelude.{ℕ, ◌+◌, min, ◌≡◌, List, length}
use Rattle.std.proofs.lemmas.List.Edits.{sets}
use Rattle.listing.specs.declared.text.Text.{Text}

-- The buffer with the text from `at` on; bytes that would fall behind its end are left out.
unfoldable pub overlaid : List ℕ → ℕ → List ℕ → List ℕ
overlaid before at text = sets before at text

-- The text was written from `at` on, and ends at r, or at the buffer's end.
pub record Wrote (before : List ℕ) (at : ℕ) (text : List ℕ) (after : List ℕ) (r : ℕ) : Type 0 where
  pub end : r ≡ min (at + length text) (length before)
  pub out : after ≡ overlaid before at text

-- The text has these bytes more, in the same buffer.
pub record Adds (before : Text) (more : List ℕ) (after : Text) : Type 0 where
  pub same : after.out.ghost_name ≡ before.out.ghost_name
  pub wrote : Wrote before.out.now before.at more after.out.now after.at
