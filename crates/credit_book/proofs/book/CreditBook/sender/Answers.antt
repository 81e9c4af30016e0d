use Rattle.std.proofs.Common.{arith}
use Rattle.credit_book.proofs.Entering.{count_is}
use Rattle.credit_book.proofs.book.CreditBook.sender.Goals as goal

pub unreachable-requires : goal.unreachable-requires
unreachable-requires g c =
    omega (arith, c.requires.few, c.if-count.true, count_is _ _ _ _ _ _ c.self.invariant c.bank-bank.ensures.value c.count.ensures.value c.catch_up.ensures.own)
