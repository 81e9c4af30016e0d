use Rattle.std.proofs.Common.{◌≡◌, List, ◌++◌, [], ◌∷◌, length, ap, sym, subst, ◌∙◌, arith, length-append}
use Rattle.global_book.specs.Book.{Book}
use Rattle.pair_host.specs.inside.Books.{AreBooks, AreEmpty}
use Rattle.pair_host.proofs.Holding.{are-books-push, are-empty-push}
use Rattle.pair_host.proofs.every_pair.empty_books.Goals as goal

pub loop-place-preserved : goal.loop-place-preserved
loop-place-preserved c =
    let books : List Book = c.loop-place.books.items in
    let book : Book = c.in_ok-new.field-0 in
    let more : c.push.new.self.items ≡ books ++ book ∷ [] = c.in_ok-push.ensures.items in
    record {
      count = ap (λ (bs : List Book). length bs) more ∙ omega (arith, length-append books (book ∷ []), c.loop-place.invariant.count);
      books = subst (AreBooks _) (sym more)
          (are-books-push _ books book c.loop-place.invariant.books (c.in_ok-new.ensures.pair ∙ c.at.ensures.value ∙ sym c.loop-place.invariant.count) c.in_ok-new.ensures.banks);
      empty = subst AreEmpty (sym more) (are-empty-push books book c.loop-place.invariant.empty c.in_ok-new.ensures.empty);
    }
