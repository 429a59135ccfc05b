-- `nodes::answer`: the index of who leads where is made over the model.
use Rattle.nodes.proofs.Beginning.{begun}
use Rattle.nodes.proofs.Steps.{leads_ask}
use Rattle.nodes.proofs.answer.Goals as goal

pub build_incoming-requires : goal.build_incoming-requires
build_incoming-requires c = leads_ask (begun c.requires.0)
