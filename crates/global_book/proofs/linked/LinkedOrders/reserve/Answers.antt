use Rattle.std.proofs.Common.{ap, subst, sym, ◌∙◌}
use Rattle.access_index.specs.Ranked.{bank_holds}
use Rattle.global_book.specs.Room.{ladders_of}
use Rattle.global_book.specs.inside.Ends.{orders_of}
use Rattle.global_book.specs.inside.Linked.{AreLinked, Linked}
use Rattle.global_book.specs.inside.Owning.{AreOwnersOf}
use Rattle.global_book.proofs.Linking.{holds-others, linked-same}
use Rattle.global_book.proofs.linked.LinkedOrders.reserve.Goals as goal

pub invariant_of-self-2 : goal.invariant_of-self-2
invariant_of-self-2 c = record {
  listed = c.reserve.ensures.valid;
  linked = subst (λ ss. AreLinked ss c.reserve-2.new.self) (sym c.reserve.ensures.slots)
      (linked-same c.self.inside.list.slots c.self.inside.ladders c.reserve-2.new.self c.args.side c.self.invariant.linked c.reserve-2.ensures.levels c.reserve-2.ensures.other_side);
  owned = subst (λ ss. AreOwnersOf (orders_of ss) c.self.inside.owners) (sym c.reserve.ensures.slots) c.self.invariant.owned;
}

pub returns-clause-others : goal.returns-clause-others
returns-clause-others c = λ one other at fine.
    holds-others c.self.inside.ladders c.reserve-2.new.self c.args.side c.args.bank c.reserve-2.ensures.others c.reserve-2.ensures.other_side one other at fine
    ∙ ap (λ (l : Linked). bank_holds (ladders_of l.ladders one) other at) c.self.view_is
