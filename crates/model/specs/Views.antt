-- The table of views: the views of each position, each set as one number.
use Rattle.std.specs.Prelude.{ℕ, List, map, take}
use Rattle.sheet.specs.Data.{Sheet}
use Rattle.views.specs.Sheet.{masks_of, views_at}
use Rattle.meaning.specs.Rules.{Rules}
use Rattle.meaning.specs.Model.{found}

-- The views of position x of a sheet's game.
unfoldable pub views_of : Sheet → ℕ → ℕ
views_of d x = views_at d.rules x (masks_of d.rules)

-- The table of views when k positions have been expanded, where `seen` says the views of a position.
abbrev pub views_to : Rules → (ℕ → ℕ) → ℕ → List ℕ
views_to R seen k = map seen (take k (found R k))
