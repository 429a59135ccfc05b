-- `marks::classify`: a model has room for its joint moves, and its counts make them.
use Rattle.marks.proofs.Games.{classes_asks}
use Rattle.marks.proofs.classify.Goals as goal

pub fill_classes-requires : goal.fill_classes-requires
fill_classes-requires c = classes_asks c.args.coalition.arena.model c.args.coalition.mask c.args.classes.now c.requires
