use Rattle.std.proofs.Common.{[], subst, sym}
use Rattle.global_book.specs.inside.Ends.{orders_of}
use Rattle.global_book.specs.inside.Owning.{AreOwnersOf}
use Rattle.global_book.proofs.Linking.{linked-none, listed-none}
use Rattle.global_book.proofs.Owning.{owners-none}
use Rattle.global_book.proofs.linked.LinkedOrders.new.Goals as goal

pub invariant_of-result : goal.invariant_of-result
invariant_of-result c = record {
  listed = listed-none _ c.in_ok-new.ensures.empty;
  linked = linked-none _ _ c.in_ok-new.ensures.empty c.in_ok-new-2.ensures;
  owned = subst (λ ss. AreOwnersOf (orders_of ss) c.in_ok-new-3.field-0) (sym c.in_ok-new.ensures.empty) (subst (AreOwnersOf []) (sym c.in_ok-new-3.ensures) owners-none);
}
