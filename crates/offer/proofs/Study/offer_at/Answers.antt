-- `offer::Study::offer_at` meets its contract: the views and choices are those of the sheet's rules.
use Rattle.facts.specs.Bits.{insert}
use Rattle.codes.specs.Codes.{joint_of}
use Rattle.offer.proofs.Laws.{levels_there, legal_there, terminal_there, offer_is}
use Rattle.offer.proofs.Study.offer_at.Goals as goal

pub views_by-v-requires : goal.views_by-v-requires
views_by-v-requires c = levels_there _ c.requires.whole.fits _ _ _ _ c.requires.studied c.requires.coded

pub invariant_of-collect : goal.invariant_of-collect
invariant_of-collect c = record { slots = legal_there _ c.requires.whole.fits _ _ _ _ c.requires.studied c.requires.coded c.from-next.ensures c.from-legal.ensures c.from-terminal.ensures }

pub invariant_of-collect-2 : goal.invariant_of-collect-2
invariant_of-collect-2 c = record { slots = terminal_there _ c.requires.whole.fits _ _ _ _ c.requires.studied c.requires.coded c.from-next.ensures c.from-legal.ensures c.from-terminal.ensures }

pub returns : goal.returns
unfolding joint_of insert
returns c = offer_is _ c.requires.whole.fits _ _ _ _ c.requires.studied c.requires.coded c.from-next.ensures c.from-legal.ensures c.from-terminal.ensures _ c.views_by-v.ensures c.collect-legals.ensures c.collect-over.ensures c.choices_from.ensures
