-- `sheet::reader::Reader::sizes` meets its contract: one law a return.
use Rattle.sheet.proofs.Steps.{cut_here, sizes_refused, sizes_taken}
use Rattle.std.proofs.Common.{refl, sym, ◌∙◌}
use Rattle.sheet.specs.declared.Mark.TheVariants.{SZ}
use Rattle.sheet.proofs.reader.Reader.sizes.Goals as goal

pub returns-in_default : goal.returns-in_default
returns-in_default c = cut_here _ _ _ c.left.ensures SZ refl c.in_default.len_below

pub returns-then-not-fit : goal.returns-then-not-fit
returns-then-not-fit c = sizes_refused _ _ _ c.left.ensures c.in-len6-up.len_at_least (sym c.fit.ensures ∙ c.if-not-fit.true)

pub returns : goal.returns
returns c = sizes_taken _ _ _ c.left.ensures c.in-len6-up.len_at_least (sym c.fit.ensures ∙ c.if-not-fit.false)
