-- `backward::Ground::counter`: a joint move has its position and its class.
use Rattle.backward.proofs.Steps.{place_in, place_classed}
use Rattle.backward.proofs.ground.Ground.counter.Goals as goal

pub bounds-self-i : goal.bounds-self-i
bounds-self-i c = let g = c.args.self.now in place_in g.board.tables g.leads c.args.p _ c.requires c.from-i.ensures

pub bounds-self-p-2 : goal.bounds-self-p-2
bounds-self-p-2 c = let g = c.args.self.now in place_classed g.board.tables g.leads c.args.p _ c.requires c.from-i.ensures
