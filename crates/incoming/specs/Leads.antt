-- The tables of who leads where, as the code lends them.
use Rattle.incoming.specs.Owners.{IsIncoming}
use Rattle.radix.specs.declared.Joints.{Joints}
use Rattle.incoming.specs.declared.Incoming.{Incoming}

-- they say it of these joint moves
abbrev pub Leads : Joints → Incoming → Type 0
Leads j t = IsIncoming j.n j.starts.now j.successors.now t.froms.now t.index.now t.owners.now
