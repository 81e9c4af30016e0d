use Rattle.std.proofs.Common.{ap, subst, sym, refl, ◌∙◌}
use Rattle.global_book.specs.Book.{Book}
use Rattle.global_book.specs.inside.Ends.{orders_of}
use Rattle.global_book.specs.inside.Linked.{AreKept}
use Rattle.global_book.proofs.Booking.{kept-book, kept-packed}
use Rattle.global_book.proofs.Packing.{orders-packed}
use Rattle.global_book.proofs.book.PairBook.pack.Goals as goal

kept : (c : goal.In_ok-pack) → AreKept c.self.inside.banks c.pack.new.self
kept c = kept-packed c.self.inside.banks c.self.inside.linked c.pack.new.self c.self.invariant c.in_ok-pack.ensures.valid c.in_ok-pack.ensures.slots c.in_ok-pack.ensures.banks

pub invariant_of-self : goal.invariant_of-self
invariant_of-self c = kept c

pub returns-in_err-pack-clause-valid : goal.returns-in_err-pack-clause-valid
returns-in_err-pack-clause-valid c =
    kept-book c.self.inside.banks c.pack.new.self _ (subst (AreKept c.self.inside.banks) (sym c.in_err-pack.ensures.memory) c.self.invariant) refl refl

pub returns-in_ok-pack-clause-orders : goal.returns-in_ok-pack-clause-orders
returns-in_ok-pack-clause-orders c =
    ap orders_of c.in_ok-pack.ensures.slots ∙ orders-packed c.self.inside.linked.orders.slots ∙ ap (λ (b : Book). b.orders) c.self.view_is

pub returns-in_ok-pack-clause-valid : goal.returns-in_ok-pack-clause-valid
returns-in_ok-pack-clause-valid c = kept-book _ _ _ (kept c) refl refl

pub returns-else-is_sparse-clause-valid : goal.returns-else-is_sparse-clause-valid
returns-else-is_sparse-clause-valid c =
    kept-book c.self.inside.banks c.self.inside.linked c.args.self.now c.self.invariant (ap (λ (b : Book). b.orders) c.self.view_is) (ap (λ (b : Book). b.banks) c.self.view_is)
