-- `sheet::read` meets its contract: the invariant: from here on reading gives what it gives from the start.
use Rattle.std.proofs.Common.{◌≡◌, ◌-◌}
use Rattle.sheet.specs.Reading.{run, start, most_records}
use Rattle.sheet.proofs.read.Given as goal

abbrev pub invariant-loop-k : goal.invariant-loop-k
invariant-loop-k l = run (most_records - l.k) l.s l.k l.spot ≡ run most_records l.s 0 start
