use Rattle.std.proofs.Common.{None, Some, subst, sym, ◌∙◌}
use Rattle.access_index.specs.Ranked.{IsHeadOf, bank_level}
use Rattle.global_book.specs.Room.{ladders_of}
use Rattle.global_book.specs.inside.Bests.{IsBestOf, is_own_from}
use Rattle.global_book.proofs.Heading.{head-best}
use Rattle.global_book.proofs.linked.LinkedOrders.first_of.Goals as goal

pub returns-in_err-head : goal.returns-in_err-head
returns-in_err-head c =
    subst (IsBestOf c.args.self.now.orders.slots (is_own_from c.args.bank c.args.side 0) c.args.side) (sym c.from_residual.ensures)
    (head-best c.args.self.now c.args.side c.heads.ensures.linked c.heads.ensures.valid c.args.bank None
    (subst (IsHeadOf (bank_level (ladders_of c.args.self.now.ladders c.args.side) c.args.bank)) (sym c.of.ensures.head ∙ c.in_err-head.was) (c.heads.ensures.heads c.args.bank c.requires.bank).0))

pub returns : goal.returns
returns c =
    head-best c.args.self.now c.args.side c.heads.ensures.linked c.heads.ensures.valid c.args.bank (Some c.in_ok-head.head)
    (subst (IsHeadOf (bank_level (ladders_of c.args.self.now.ladders c.args.side) c.args.bank)) (sym c.of.ensures.head ∙ c.in_ok-head.was) (c.heads.ensures.heads c.args.bank c.requires.bank).0)
