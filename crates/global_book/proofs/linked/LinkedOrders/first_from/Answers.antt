use Rattle.std.proofs.Common.{Option, option_map, subst, sym}
use Rattle.access_index.specs.declared.words.Head.{Head}
use Rattle.global_book.specs.inside.Bests.{IsBestOf, is_own_from}
use Rattle.global_book.proofs.linked.LinkedOrders.first_from.Goals as goal

pub returns-in_err-head : goal.returns-in_err-head
returns-in_err-head c =
    subst (IsBestOf c.args.self.now.orders.slots (is_own_from c.args.bank c.args.side c.args.from) c.args.side) (sym c.from_residual.ensures)
    (subst (λ (found : Option Head). IsBestOf c.args.self.now.orders.slots (is_own_from c.args.bank c.args.side c.args.from) c.args.side (option_map (λ (head : Head). head.place) found)) c.in_err-head.was c.head_from.ensures.best)

pub returns : goal.returns
returns c =
    subst (λ (found : Option Head). IsBestOf c.args.self.now.orders.slots (is_own_from c.args.bank c.args.side c.args.from) c.args.side (option_map (λ (head : Head). head.place) found)) c.in_ok-head.was c.head_from.ensures.best
