-- `encode` meets its contract. From the present slot and table, the rules that are left lead to the last slot and the whole table.
use Rattle.codes.proofs.Laying.{laying_sound, laying_slot, laying_on, laying_out}
use Rattle.codes.proofs.encode.Goals as goal

pub encode_rule-c-requires : goal.encode_rule-c-requires
encode_rule-c-requires c =
    let v = rw c.in-Some.ensures.steps at c.loop-rule.invariant in
    (laying_sound v, laying_slot v)

pub loop-rule-preserved : goal.loop-rule-preserved
loop-rule-preserved c = laying_on (rw c.in-Some.ensures.steps at c.loop-rule.invariant) c.encode_rule-c.ensures.slot c.encode_rule-c.ensures.table

pub returns : goal.returns
returns c =
    let r = laying_out (rw c.in-None.ensures.steps.0 at c.loop-rule.invariant) in
    record { slot = r.0; table = r.1 }
