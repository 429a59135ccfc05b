-- `report::report` meets its contract: the listing reads the last node off the sheet.
use Rattle.report.proofs.Laws.{reports_listing}
use Rattle.report.proofs.report.Goals as goal

pub returns-in-Ok-clause-reports : goal.returns-in-Ok-clause-reports
returns-in-Ok-clause-reports c = reports_listing c.last_in-last.ensures c.in-Ok.is c.solve.ensures c.print.ensures.prints
