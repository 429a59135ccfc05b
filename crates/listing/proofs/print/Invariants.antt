-- `listing::print` meets its contract: behind the first line stand the lines of the first i states.
use Rattle.std.proofs.Common.{length, ◌≤◌, ◌*◌}
use Rattle.tables.specs.Lengths.{state_limit}
use Rattle.listing.specs.Wrote.{Adds}
use Rattle.listing.specs.Listing.{tables_in, state_lines}
use Rattle.listing.specs.Buffer.{line_room}
use Rattle.listing.proofs.print.Given as goal

abbrev pub invariant-loop-i : goal.invariant-loop-i
invariant-loop-i l = record {
  adds : Adds l.initial.text (state_lines (tables_in l.shown) l.i) l.text;
  short : l.n ≤ state_limit → length (state_lines (tables_in l.shown) l.i) ≤ l.i * line_room;
}
