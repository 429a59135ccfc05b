-- `keys::Keys::file` meets its contract: after each turn the slots below c are filed.
use Rattle.keys.specs.Keys.{Filing}
use Rattle.keys.proofs.Keys.file.Given as goal

abbrev pub invariant-loop-c : goal.invariant-loop-c
invariant-loop-c l = Filing l.code l.c l.table l.homes l.self
