-- `sheet::read` meets its contract: the invariant: from here on reading gives what it gives from the start.
use Rattle.std.proofs.Common.{ap, ◌∙◌, sym, arith, Ok, Err, Option, ℕ}
use Rattle.sheet.specs.declared.Spot.{Spot}
use Rattle.sheet.specs.declared.Layout.{Layout}
use Rattle.sheet.specs.Reading.{read_sheet, refused}
use Rattle.sheet.proofs.Laws.{run_done, run_no, run_next, run_out}
use Rattle.sheet.specs.declared.Fault.TheVariants.{TooMany}
use Rattle.sheet.proofs.read.Goals as goal

pub returns-in-Ok-None : goal.returns-in-Ok-None
unfolding read_sheet
returns-in-Ok-None c = ap (λ (y : Layout). Ok y) c.layout.ensures ∙ run_done _ _ _ _ (omega arith) (ap (λ (q : Option Spot). Ok q) (sym c.in-Ok-None.field-0-is) ∙ sym c.in-Ok-None.is ∙ c.next_record.ensures) ∙ c.loop-k.invariant

pub returns-in-Err : goal.returns-in-Err
unfolding read_sheet
returns-in-Err c = ap (λ (k : ℕ). Err (refused c.in-Err.fault k)) c.place_of-place.ensures ∙ run_no _ _ _ _ _ (omega arith) (sym c.in-Err.is ∙ c.next_record.ensures) ∙ c.loop-k.invariant

pub loop-k-preserved : goal.loop-k-preserved
loop-k-preserved c = run_next _ _ _ _ _ _ (omega arith) (ap (λ (q : Option Spot). Ok q) (sym c.in-Ok-Some.field-0-is) ∙ sym c.in-Ok-Some.is ∙ c.next_record.ensures) ∙ c.loop-k.invariant

pub returns : goal.returns
unfolding read_sheet
returns c = ap (λ (k : ℕ). Err (refused TooMany k)) (omega arith) ∙ run_out _ _ _ _ (omega arith) ∙ c.loop-k.invariant
