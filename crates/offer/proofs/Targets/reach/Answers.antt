-- `offer::Targets::reach` meets its contract: what is looked up for the joint move is what the rules give; there are at most 65,536 joint moves, so that the number fits.
use native.Mathlib.Omega.{arith}
use Rattle.sheet.specs.Reading.{sheet_in}
use Rattle.choices.specs.Laws.{total_four}
use Rattle.offer.proofs.Right.{few_roles}
use Rattle.offer.proofs.Laws.{below_total, target_stays, target_goes}
use Rattle.offer.proofs.Targets.reach.Goals as goal

pub returns-then-choices : goal.returns-then-choices
returns-then-choices c =
    (target_stays c.args.self.offer (sheet_in c.args.self.s.now c.args.self.y) _ c.if-choices.true, c.requires.3)

pub overflow_cast-j : goal.overflow_cast-j
overflow_cast-j c =
    let few = few_roles (sheet_in c.args.self.s.now c.args.self.y) c.requires.0.fits in
    let small = below_total c.args.self.offer _ _ _ c.from.ensures c.requires.1 in
    omega (arith, total_four c.args.self.offer.choices.sets c.from.result (omega (arith, c.from.ensures, few)), small)

pub joint_move-m-requires : goal.joint_move-m-requires
joint_move-m-requires c = (
  omega (arith, c.from.ensures, few_roles (sheet_in c.args.self.s.now c.args.self.y) c.requires.0.fits),
  below_total c.args.self.offer _ _ _ c.from.ensures c.requires.1,
)

pub returns : goal.returns
returns c = (
  target_goes c.args.self.offer (sheet_in c.args.self.s.now c.args.self.y) _ _ c.if-choices.false c.from.ensures c.joint_move-m.ensures c.requires.2 c.joint_of.ensures c.give.ensures.0,
  c.give.ensures.1,
)
