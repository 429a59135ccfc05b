-- `readings::each` meets its contract: each turn takes at least two bytes off the stream.
use Rattle.std.proofs.Common.{length}
use Rattle.readings.proofs.each.Given as goal

abbrev pub decreases-loop-stream : goal.decreases-loop-stream
decreases-loop-stream l = length l.stream
