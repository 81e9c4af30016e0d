use Rattle.credit_book.proofs.Entering.{next_of, kept_on}
use Rattle.credit_book.proofs.book.CreditBook.record.Goals as goal

pub follow-requires : goal.follow-requires
follow-requires g c = record { next = next_of _ _ _ _ c.self.view_is c.self.invariant c.requires.legal }

pub invariant_of-self : goal.invariant_of-self
invariant_of-self g c = kept_on _ _ _ _ _ _ c.self.view_is c.self.invariant c.requires.legal c.follow.ensures.follows c.commit.ensures.value
