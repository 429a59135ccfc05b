-- `encode_levels` meets its contract. From the present slot and tables, the levels that are left lead to the last slot and the whole tables.
use Rattle.std.proofs.lemmas.List.Edits.{sets}
use Rattle.sheet.specs.Records.{rules_of}
use Rattle.codes.specs.Laid.{leveled, level_ends, last_end}
use Rattle.codes.proofs.Levels.{Leveling}
use Rattle.codes.proofs.encode_levels.Given as goal

abbrev pub invariant-loop-i : goal.invariant-loop-i
invariant-loop-i l =
    let rs = rules_of l.fn.rules in
    Leveling rs l.masks (last_end rs l.masks l.from) (leveled rs l.masks l.initial.codes.code l.from) (sets l.initial.codes.ends 3 (level_ends rs l.masks l.from)) l.i l.c l.codes.code l.codes.ends
