-- `study` meets its contract: rows, closure, levels and search, one after another.
use Rattle.std.proofs.Common.{List, ℕ, ap, ◌∙◌}
use Rattle.sheet.specs.Records.{rules_of}
use Rattle.views.specs.Meaning.{view_rules}
use Rattle.views.specs.Reference.{listed, close, reach, closed, lowest, refused}
use Rattle.views.specs.Sheet.{mask_at, answer_of, answer}
use Rattle.views.proofs.study.Goals as goal

pub returns : goal.returns
unfolding reach answer refused
returns c =
    let q = c.closure.ensures ∙ ap (close 64) c.rows_of.ensures in
    record {
      rows = q;
      levels = c.masks_of.ensures ∙ ap (λ (l : List ℕ). listed (mask_at l) 64 1) q;
      place = c.refused_at.ensures ∙ ap (λ (l : List ℕ). answer_of (lowest (closed l (view_rules (rules_of c.args.rules))) 64 0)) q;
    }
