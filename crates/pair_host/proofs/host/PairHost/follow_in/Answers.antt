-- What was recorded of one pair is made there.
use Rattle.std.proofs.Common.{◌≡◌, List, Result, Ok, Err, OnOk, OnErr, Some, set, ap, sym, subst, ◌∙◌}
use Rattle.fx_amounts.specs.declared.memory.Memory.{Memory}
use Rattle.fx_rules.specs.Session.{bank_count}
use Rattle.global_book.specs.Book.{Book}
use Rattle.credit_lines.specs.Table.{Table}
use Rattle.fx_rules.specs.Sending.{pair_of}
use Rattle.pair_host.specs.Standing.{HostState, IsNextOf, FollowsOn}
use Rattle.pair_host.specs.inside.Books.{host_of}
use Rattle.pair_host.specs.inside.OnePair.{FollowsEach}
use Rattle.pair_host.proofs.Holding.{same-host}
use Rattle.pair_host.proofs.Serving.{next-within, one-follows_on}
use Rattle.pair_host.proofs.host.PairHost.follow_in.Goals as goal

on_ok : (r : Result (Unit {0}) Memory) (P Q : Type 0) → (P → Q) → OnOk r P → OnOk r Q
on_ok (Ok u) P Q step h = step h
on_ok (Err e) P Q step h = tt

on_err : (r : Result (Unit {0}) Memory) (P Q R : Type 0) → (P → Q → R) → OnErr r P → OnErr r Q → OnErr r R
on_err (Ok u) P Q R step p q = tt
on_err (Err e) P Q R step p q = step p q

pub returns-clause-follows : goal.returns-clause-follows
returns-clause-follows c =
    let books : List Book = c.self.inside.books.items in
    let table : Table = c.self.inside.table in
    let book : Book = c.index_mut-own.result.now in
    let new : Book = c.follow_in_pair.new.book in
    let after : HostState = host_of (set books c.index.result new) c.follow_in_pair.new.table in
    let next : IsNextOf (host_of books table) c.args.entry.now = subst (λ (host : HostState). IsNextOf host c.args.entry.now) (sym c.self.view_is) c.requires.is_next in
    let about : pair_of c.args.entry.now.command ≡ Some c.index.result = c.requires.pair ∙ ap Some (sym c.index.ensures.value) in
    on_ok c.follow_in_pair.result (FollowsEach book new table c.follow_in_pair.new.table c.args.entry.now)
    (FollowsOn c.args.self.now after c.args.entry.now)
    (λ follows.
    subst (λ (host : HostState). FollowsOn host after c.args.entry.now) c.self.view_is
    (one-follows_on (bank_count table.session) books c.index.result book new table c.follow_in_pair.new.table c.args.entry.now c.self.invariant.are
    (next-within books c.index.result table c.args.entry.now next about) c.index_mut-own.ensures.value about c.follow_in_pair.ensures.pair follows))
    c.follow_in_pair.ensures.follows

pub returns-clause-memory : goal.returns-clause-memory
returns-clause-memory c =
    let books : List Book = c.self.inside.books.items in
    let new : Book = c.follow_in_pair.new.book in
    on_err c.follow_in_pair.result (new.orders ≡ c.index_mut-own.result.now.orders) (c.follow_in_pair.new.table ≡ c.self.inside.table)
    (host_of (set books c.index.result new) c.follow_in_pair.new.table ≡ c.args.self.now)
    (λ orders same. same-host books c.index.result c.index_mut-own.result.now new c.self.inside.table c.follow_in_pair.new.table c.index_mut-own.ensures.value orders same ∙ c.self.view_is)
    c.follow_in_pair.ensures.orders c.follow_in_pair.ensures.table
