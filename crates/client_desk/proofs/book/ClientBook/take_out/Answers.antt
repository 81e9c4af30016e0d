use Rattle.std.proofs.Common.{ap, sym, subst, ◌∙◌, arith}
use Rattle.client_desk.specs.Draws.{taken_out}
use Rattle.client_desk.specs.inside.Changes.{CanGive, released_sums, side_with}
use Rattle.client_desk.specs.inside.UnderWay.{IsUnderWay}
use Rattle.client_desk.proofs.UnderWay.{weighs-pair}
use Rattle.client_desk.proofs.Ways.{can-take, take-way}
use Rattle.client_desk.proofs.book.ClientBook.take_out.Goals as goal

pub left-lots-requires : goal.left-lots-requires
left-lots-requires c = record { sender = omega (arith, c.requires.rests.6.sender, c.requires.rests.5.stands.senders) }

pub release-requires : goal.release-requires
release-requires c = record {
  gives = subst (CanGive c.args.self.now c.args.bank c.args.number c.args.pair) (sym c.left-lots.ensures.value)
      (can-take c.requires.rests.0 c.requires.rests.1 c.requires.rests.2 c.requires.rests.3 c.requires.rests.4 c.args.self.now c.args.pair c.args.bank c.args.number c.requires.rests.5 c.requires.rests.7
      (weighs-pair c.requires.rests.0 _ _ c.requires.rests.3 _ c.args.self.now c.args.pair c.requires.rests.5.stands c.requires.rests.7) c.requires.rests.6 c.left-lots.ensures.full);
}

pub returns-clause-taken : goal.returns-clause-taken
returns-clause-taken c h tagged t orders fills way known =
    subst (IsUnderWay h tagged t (taken_out c.args.pair c.args.bank c.args.number orders) fills)
    (sym (c.release.ensures.value ∙ ap (side_with released_sums c.args.self.now c.args.bank c.args.number c.args.pair) c.left-lots.ensures.value))
    (take-way h tagged t orders fills c.args.self.now c.args.pair c.args.bank c.args.number way known c.left-lots.ensures.full)
