use Rattle.std.proofs.Common.{ap}
use Rattle.global_book.proofs.Booking.{kept-none}
use Rattle.global_book.specs.inside.Ends.{orders_of}
use Rattle.global_book.proofs.book.PairBook.new.Goals as goal

pub invariant_of-result : goal.invariant_of-result
invariant_of-result c = kept-none c.args.banks c.min.result _ c.min.ensures c.in_ok-new.ensures.empty c.in_ok-new.ensures.banks

pub returns-clause-empty : goal.returns-clause-empty
returns-clause-empty c = ap orders_of c.in_ok-new.ensures.empty
