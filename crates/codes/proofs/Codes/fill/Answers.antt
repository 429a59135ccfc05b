-- `Codes::fill` meets its contract: each call has its room, and the tables are those of the whole sheet.
use Rattle.std.proofs.Common.{arith}
use Rattle.sheet.specs.Records.{rules_of}
use Rattle.codes.specs.Table.{Sized}
use Rattle.codes.proofs.Compiling.{next_room, legal_room, terminal_room, a_low, b_low, c_low, last_room, compile_is}
use Rattle.codes.proofs.Codes.fill.Goals as goal

pub encode-a-requires : goal.encode-a-requires
encode-a-requires c =
    let p = c.requires in
    let sized : Sized c.args.self.now.code c.args.self.now.ends = record { code_long = omega arith; ends_long = omega arith } in
    (p.0, next_room (rules_of c.args.rules) p.1 p.2 sized)

pub encode-b-requires : goal.encode-b-requires
encode-b-requires c =
    let p = c.requires in
    let sized : Sized c.args.self.now.code c.args.self.now.ends = record { code_long = omega arith; ends_long = omega arith } in
    (p.0, legal_room (rules_of c.args.rules) p.1 p.2 sized c.encode-a.ensures.slot c.encode-a.ensures.table)

pub encode-c-requires : goal.encode-c-requires
encode-c-requires c =
    let p = c.requires in
    let sized : Sized c.args.self.now.code c.args.self.now.ends = record { code_long = omega arith; ends_long = omega arith } in
    (p.0, terminal_room (rules_of c.args.rules) p.1 p.2 sized c.encode-a.ensures.slot c.encode-a.ensures.table c.encode-b.ensures.slot c.encode-b.ensures.table)

pub overflow_cast-self : goal.overflow_cast-self
overflow_cast-self c =
    let p = c.requires in
    let sized : Sized c.args.self.now.code c.args.self.now.ends = record { code_long = omega arith; ends_long = omega arith } in
    omega (arith, a_low (rules_of c.args.rules) p.1 p.2 sized c.encode-a.ensures.slot c.encode-a.ensures.table)

pub overflow_cast-self-2 : goal.overflow_cast-self-2
overflow_cast-self-2 c =
    let p = c.requires in
    let sized : Sized c.args.self.now.code c.args.self.now.ends = record { code_long = omega arith; ends_long = omega arith } in
    omega (arith, b_low (rules_of c.args.rules) p.1 p.2 sized c.encode-a.ensures.slot c.encode-a.ensures.table c.encode-b.ensures.slot c.encode-b.ensures.table)

pub overflow_cast-self-3 : goal.overflow_cast-self-3
overflow_cast-self-3 c =
    let p = c.requires in
    let sized : Sized c.args.self.now.code c.args.self.now.ends = record { code_long = omega arith; ends_long = omega arith } in
    omega (arith, c_low (rules_of c.args.rules) p.1 p.2 sized c.encode-a.ensures.slot c.encode-a.ensures.table c.encode-b.ensures.slot c.encode-b.ensures.table c.encode-c.ensures.slot c.encode-c.ensures.table)

pub encode_levels-requires : goal.encode_levels-requires
encode_levels-requires c =
    let p = c.requires in
    let sized : Sized c.args.self.now.code c.args.self.now.ends = record { code_long = omega arith; ends_long = omega arith } in
    let rs = rules_of c.args.rules in (
      p.0,
      last_room rs p.1 p.2 sized c.encode-a.ensures.slot c.encode-a.ensures.table c.encode-b.ensures.slot c.encode-b.ensures.table c.encode-c.ensures.slot c.encode-c.ensures.table,
    )

pub returns : goal.returns
returns c =
    let p = c.requires in
    let sized : Sized c.args.self.now.code c.args.self.now.ends = record { code_long = omega arith; ends_long = omega arith } in
    let r = compile_is (rules_of c.args.rules) p.1 p.2 sized c.encode-a.ensures.slot c.encode-a.ensures.table c.encode-b.ensures.slot c.encode-b.ensures.table c.encode-c.ensures.slot c.encode-c.ensures.table c.encode_levels.ensures.table c.encode_levels.ensures.places in
    record { compiled = r.0; sized = r.1.0; table = r.1.1.0; places = r.1.1.1 }
