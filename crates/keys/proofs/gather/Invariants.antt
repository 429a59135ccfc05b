-- `keys::gather` meets its contract: after each turn the live slots below c have given.
use Rattle.keys.specs.Keys.{alive, Gathered}
use Rattle.keys.proofs.gather.Given as goal

abbrev pub invariant-loop-c : goal.invariant-loop-c
invariant-loop-c l = Gathered l.code l.homes l.n (alive l.code l.look.facts.bits l.look.views.bits l.c) l.gifts
