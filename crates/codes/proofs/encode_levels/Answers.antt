-- `encode_levels` meets its contract. From the present slot and tables, the levels that are left lead to the last slot and the whole tables.
use Rattle.std.proofs.Common.{arith}
use Rattle.codes.proofs.Levels.{leveling_few, leveling_room}
use Rattle.codes.proofs.encode_levels.Goals as goal

pub encode_level-c-requires : goal.encode_level-c-requires
encode_level-c-requires c = (c.requires.0, leveling_room c.told-masks c.loop-i.invariant c.loop-i-test.true)

pub overflow_cast-codes : goal.overflow_cast-codes
overflow_cast-codes c = omega (arith, c.encode_level-c.ensures.slot, leveling_few c.told-masks c.loop-i.invariant c.loop-i-test.true)
