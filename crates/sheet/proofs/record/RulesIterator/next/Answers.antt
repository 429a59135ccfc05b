-- `sheet::record::RulesIterator::next` meets its contract: six bytes and its literals are the next rule; with fewer bytes than six there is none.
use Rattle.std.proofs.Common.{rules, length, ap}
use Rattle.sheet.specs.Records.{rules_of, literals}
use Rattle.sheet.proofs.Records.{rules_short, rules_next, rules_none}
use Rattle.sheet.proofs.record.RulesIterator.next.Goals as goal

pub returns-then-self-eq0-clause-steps : goal.returns-then-self-eq0-clause-steps
unfolding rules_of literals
returns-then-self-eq0-clause-steps c = let none = rules_none _ _ c.if-self-eq0.true in (none, none)

pub returns-in_default-clause-steps : goal.returns-in_default-clause-steps
unfolding rules_of literals
returns-in_default-clause-steps c = let none = rules_short _ _ c.in_default.len_below in (none, none)

pub returns-clause-steps : goal.returns-clause-steps
unfolding rules_of literals
returns-clause-steps c =
    rules_next _ _ _ _ _ _ c.if-self-eq0.false c.in-len6-up.len_at_least c.from-size.ensures c.min.ensures c.split_at.ensures.front c.split_at.ensures.back

pub returns-clause-goes : goal.returns-clause-goes
unfolding rules_of literals
returns-clause-goes c =
    let shorter =
    ap length
    (rules_next _ _ _ _ _ _ c.if-self-eq0.false c.in-len6-up.len_at_least c.from-size.ensures c.min.ensures c.split_at.ensures.front c.split_at.ensures.back) in
    search rules
