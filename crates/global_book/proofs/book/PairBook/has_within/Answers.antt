use Rattle.std.proofs.Common.{ℕ, ◌≡◌, ◌<◌, Option, Some, None, false, true, get_or, ap, refl, subst, sym, ◌∙◌}
use Rattle.std.proofs.lemmas.Bool.{false≢true}
use Rattle.std.specs.Option.{IfSome, is_some}
use Rattle.fx_amounts.specs.Price.{crosses}
use Rattle.fx_amounts.specs.Side.{opposite}
use Rattle.fx_rules.specs.declared.orders.Resting.{Resting}
use Rattle.fx_rules.specs.Lists.{Each}
use Rattle.access_index.specs.declared.words.Head.{Head}
use Rattle.access_index.specs.Heads.{IsBestWithin}
use Rattle.global_book.specs.Book.{Book, RestsWithin}
use Rattle.global_book.specs.Room.{rank_of}
use Rattle.global_book.specs.inside.Linked.{orders_in}
use Rattle.global_book.proofs.Booking.{kept-book}
use Rattle.global_book.proofs.Heading.{all-dear, heads-tell, least-dear, least-rests}
use Rattle.global_book.proofs.book.PairBook.has_within.Goals as goal

none-of : (found : Option ℕ) → is_some found ≡ false → found ≡ None
none-of None is = refl
none-of (Some bank) is = absurd (false≢true (sym is))

pub returns-clause-none : goal.returns-clause-none
returns-clause-none g c = λ no.
    subst (λ (b : Book). Each (λ (o : Resting). o.side ≡ c.args.side → crosses (opposite c.args.side) c.args.limit o.price ≡ false) b.orders) c.self.view_is
    (all-dear c.self.inside.banks c.self.inside.linked c.args.side c.self.invariant c.heads-heads.ensures.linked c.heads-heads.result.now c.args.limit c.heads-heads.ensures.heads
    (least-dear 64 c.self.inside.linked c.args.side c.args.limit c.heads-heads.result.now
    (heads-tell c.self.inside.banks c.self.inside.linked c.args.side c.self.invariant c.heads-heads.ensures.linked c.heads-heads.result.now c.best_within.ensures.count c.heads-heads.ensures.heads)
    c.rank_of.ensures.price
    (subst (λ (r : ℕ). (bank : ℕ) → IfSome (get_or c.heads-heads.result.now bank None) (λ (head : Head). r < head.rank)) c.rank_of.ensures.rank (c.best_within.ensures.none (none-of c.best_within.result (sym c.is_some.ensures ∙ no))))))

some-of : (found : Option ℕ) (P : ℕ → Type 0) (Q : Type 0) → ((bank : ℕ) → P bank → Q) → IfSome found P → is_some found ≡ true → Q
some-of None P Q step found is = absurd (false≢true is)
some-of (Some bank) P Q step found is = step bank found

pub returns-clause-some : goal.returns-clause-some
returns-clause-some g c = λ yes.
    subst (λ (b : Book). RestsWithin c.args.side c.args.limit b.orders) c.self.view_is
    (some-of c.best_within.result (IsBestWithin c.heads-heads.result.now (rank_of c.args.side c.args.limit)) (RestsWithin c.args.side c.args.limit (orders_in c.self.inside.linked))
    (λ bank. least-rests 64 c.self.inside.linked c.args.side c.args.limit c.heads-heads.result.now
    (heads-tell c.self.inside.banks c.self.inside.linked c.args.side c.self.invariant c.heads-heads.ensures.linked c.heads-heads.result.now c.best_within.ensures.count c.heads-heads.ensures.heads)
    bank c.rank_of.ensures.price)
    (subst (λ (r : ℕ). IfSome c.best_within.result (IsBestWithin c.heads-heads.result.now r)) c.rank_of.ensures.rank c.best_within.ensures.best)
    (sym c.is_some.ensures ∙ yes))

pub returns-clause-valid : goal.returns-clause-valid
returns-clause-valid g c =
    kept-book c.self.inside.banks c.self.inside.linked c.args.self.now c.self.invariant (ap (λ (b : Book). b.orders) c.self.view_is) (ap (λ (b : Book). b.banks) c.self.view_is)
