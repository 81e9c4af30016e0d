-- What is made in one pair goes on each legal history.
use Rattle.std.proofs.Common.{◌≡◌, List, Result, Ok, Err, IfOk, OnErr, Some, set, ap, sym, subst, ◌∙◌}
use Rattle.fx_amounts.specs.declared.memory.Memory.{Memory}
use Rattle.fx_rules.specs.declared.outcome.Outcome.{Outcome}
use Rattle.fx_rules.specs.Session.{bank_count}
use Rattle.fx_rules.specs.Market.{GoesOn, InSome, MaySend}
use Rattle.global_book.specs.Book.{Book}
use Rattle.credit_lines.specs.Table.{Table}
use Rattle.fx_rules.specs.Sending.{pair_of}
use Rattle.pair_host.specs.Standing.{HostState, stands}
use Rattle.pair_host.specs.inside.Books.{host_of}
use Rattle.pair_host.specs.inside.OnePair.{ServesEach}
use Rattle.pair_host.proofs.Sending.{may-send}
use Rattle.pair_host.proofs.Holding.{same-host}
use Rattle.pair_host.proofs.Serving.{may-serve, within-books, one-goes_on}
use Rattle.pair_host.proofs.host.PairHost.serve_in.Goals as goal

if_ok : (r : Result Outcome Memory) (P Q : Outcome → Type 0) → ((outcome : Outcome) → P outcome → Q outcome) → IfOk r P → IfOk r Q
if_ok (Ok outcome) P Q step h = step outcome h
if_ok (Err e) P Q step h = tt

on_err : (r : Result Outcome Memory) (P Q R : Type 0) → (P → Q → R) → OnErr r P → OnErr r Q → OnErr r R
on_err (Ok outcome) P Q R step p q = tt
on_err (Err e) P Q R step p q = step p q

pub serve_in_pair-requires-clause-may_serve : goal.serve_in_pair-requires-clause-may_serve
serve_in_pair-requires-clause-may_serve c =
    may-serve (bank_count c.self.inside.table.session) c.self.inside.books.items c.index.result c.index_mut-book.result.now c.self.inside.table c.args.bank c.args.command.now c.self.invariant.are
    (subst (λ (host : HostState). InSome (stands host) (MaySend c.args.bank c.args.command.now)) (sym c.self.view_is) c.requires.may_send)
    (c.requires.pair ∙ ap Some (sym c.index.ensures.value)) c.index_mut-book.ensures.value

pub returns-clause-goes_on : goal.returns-clause-goes_on
returns-clause-goes_on c =
    let books : List Book = c.self.inside.books.items in
    let table : Table = c.self.inside.table in
    let book : Book = c.index_mut-book.result.now in
    let new : Book = c.serve_in_pair.new.book in
    let after : HostState = host_of (set books c.index.result new) c.serve_in_pair.new.table in
    let some : InSome (stands (host_of books table)) (MaySend c.args.bank c.args.command.now) =
    subst (λ (host : HostState). InSome (stands host) (MaySend c.args.bank c.args.command.now)) (sym c.self.view_is) c.requires.may_send in
    let about : pair_of c.args.command.now ≡ Some c.index.result = c.requires.pair ∙ ap Some (sym c.index.ensures.value) in
    if_ok c.serve_in_pair.result (ServesEach book new table c.serve_in_pair.new.table c.args.bank c.args.command.now)
    (GoesOn (stands c.args.self.now) (stands after) c.args.bank c.args.command.now)
    (λ outcome serves.
    subst (λ (host : HostState). GoesOn (stands host) (stands after) c.args.bank c.args.command.now outcome) c.self.view_is
    (one-goes_on (bank_count table.session) books c.index.result book new table c.serve_in_pair.new.table c.args.bank c.args.command.now outcome c.self.invariant.are
    (within-books books c.index.result table c.args.bank c.args.command.now some about) c.index_mut-book.ensures.value about c.serve_in_pair.ensures.pair
    (may-send (host_of books table) c.args.bank c.args.command.now some) serves))
    c.serve_in_pair.ensures.serves

pub returns-clause-memory : goal.returns-clause-memory
returns-clause-memory c =
    let books : List Book = c.self.inside.books.items in
    let new : Book = c.serve_in_pair.new.book in
    on_err c.serve_in_pair.result (new.orders ≡ c.index_mut-book.result.now.orders) (c.serve_in_pair.new.table ≡ c.self.inside.table)
    (host_of (set books c.index.result new) c.serve_in_pair.new.table ≡ c.args.self.now)
    (λ orders same. same-host books c.index.result c.index_mut-book.result.now new c.self.inside.table c.serve_in_pair.new.table c.index_mut-book.ensures.value orders same ∙ c.self.view_is)
    c.serve_in_pair.ensures.orders c.serve_in_pair.ensures.table
