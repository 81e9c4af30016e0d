-- What was recorded of all pairs is made in each.
use Rattle.std.proofs.Common.{◌≡◌, List, ◌++◌, length, take, drop, sym, subst, ◌∙◌}
use Rattle.fx_rules.specs.declared.orders.Fill.{Fill}
use Rattle.fx_rules.specs.Session.{bank_count}
use Rattle.fx_rules.specs.Step.{fills_of}
use Rattle.global_book.specs.Book.{Book}
use Rattle.credit_lines.specs.Table.{Table}
use Rattle.pair_host.specs.Standing.{HostState, FollowsOn}
use Rattle.pair_host.specs.inside.Books.{EachBook, IsRecorded, host_of}
use Rattle.pair_host.proofs.Holding.{written}
use Rattle.pair_host.proofs.Serving.{all-follow_on}
use Rattle.pair_host.proofs.host.PairHost.follow_all.Goals as goal

pub returns : goal.returns
returns c =
    let books : List Book = c.self.inside.books.items in
    let table : Table = c.self.inside.table in
    let new : List Book = c.carry_all_recorded.new.books in
    let after : Table = c.follow.new.self in
    let recorded : EachBook (IsRecorded (fills_of c.args.entry.now.outcome)) books new =
    subst (λ (fills : List Fill). EachBook (IsRecorded fills) books new) c.fills.ensures.fills
    (subst (λ (was : List Book). EachBook (IsRecorded c.fills.result.now) was new) c.deref_mut.ensures.value c.carry_all_recorded.ensures.recorded) in
    let cut : take c.self.inside.books.len (new ++ drop (length new) books) ≡ new =
    written c.self.inside.books.len new books (c.carry_all_recorded.ensures.recorded.count ∙ c.deref_mut.ensures.len) in
    record {
      follows = subst (λ (host : HostState). FollowsOn host (host_of (take c.self.inside.books.len (new ++ drop (length new) books)) after) c.args.entry.now) c.self.view_is
          (subst (λ (written_books : List Book). FollowsOn (host_of books table) (host_of written_books after) c.args.entry.now) (sym cut)
          (all-follow_on (bank_count table.session) books new table after c.args.entry.now c.self.invariant.are c.requires.all recorded c.follow.ensures.follows));
    }
