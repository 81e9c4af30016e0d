-- A credit change is planned in each pair, followed, and then made in each.
use Rattle.std.proofs.Common.{◌≡◌, List, ◌++◌, length, take, drop, ap, sym, subst, ◌∙◌}
use Rattle.fx_rules.specs.Session.{bank_count}
use Rattle.fx_rules.specs.Market.{GoesOn, InSome, MaySend}
use Rattle.global_book.specs.Book.{Book}
use Rattle.credit_lines.specs.Credit.{Credit}
use Rattle.credit_raise.specs.UnderWay.{IsChange}
use Rattle.credit_lines.specs.Table.{Table}
use Rattle.fx_rules.specs.declared.sender.Sender.{Sender}
use Rattle.pair_host.specs.Standing.{HostState, stands}
use Rattle.pair_host.specs.inside.Books.{AreHosted, EachBook, IsCarried, host_of}
use Rattle.pair_host.proofs.Sending.{may-send}
use Rattle.pair_host.proofs.Holding.{written, hosted-by}
use Rattle.pair_host.proofs.Serving.{IsPlanned, opens-banks, opens-change, sends-from, planned-by, planned-answers, change-goes_on, table-next, table-follows}
use Rattle.pair_host.proofs.host.PairHost.change.Goals as goal

pub open-requires : goal.open-requires
open-requires c =
    let books : List Book = c.self.inside.books.items in
    let table : Table = c.self.inside.table in
    let some : InSome (stands (host_of books table)) (MaySend c.args.bank c.args.command.now) =
    subst (λ (host : HostState). InSome (stands host) (MaySend c.args.bank c.args.command.now)) (sym c.self.view_is) c.requires.may_send in
    record { change = subst (λ (credit : Credit). IsChange credit.banks c.args.bank c.args.command.now) (sym c.lines.ensures.value) (opens-change books table c.args.bank c.args.command.now some c.requires.change) }

pub plan_turns-requires-clause-banks : goal.plan_turns-requires-clause-banks
plan_turns-requires-clause-banks c =
    let books : List Book = c.self.inside.books.items in
    let table : Table = c.self.inside.table in
    let some : InSome (stands (host_of books table)) (MaySend c.args.bank c.args.command.now) =
    subst (λ (host : HostState). InSome (stands host) (MaySend c.args.bank c.args.command.now)) (sym c.self.view_is) c.requires.may_send in
    opens-banks books table c.args.bank c.args.command.now c.lines.result.now c.in_ok-change.change some c.lines.ensures.value c.in_ok-change.ensures.opens

pub sender-requires-clause-sender : goal.sender-requires-clause-sender
sender-requires-clause-sender c =
    sends-from c.self.inside.books.items c.self.inside.table c.args.bank c.args.command.now
    (subst (λ (host : HostState). InSome (stands host) (MaySend c.args.bank c.args.command.now)) (sym c.self.view_is) c.requires.may_send)

pub follow-requires : goal.follow-requires
follow-requires c =
    let books : List Book = c.self.inside.books.items in
    let table : Table = c.self.inside.table in
    let some : InSome (stands (host_of books table)) (MaySend c.args.bank c.args.command.now) =
    subst (λ (host : HostState). InSome (stands host) (MaySend c.args.bank c.args.command.now)) (sym c.self.view_is) c.requires.may_send in
    let planned : IsPlanned books table c.plan_turns.new.change c.args.bank c.args.command.now c.in_ok-outcome.outcome =
    planned-by books c.deref.result.now table c.lines.result.now c.in_ok-change.change c.plan_turns.new.change c.args.bank c.args.command.now c.in_ok-outcome.outcome
    c.deref.ensures.value c.lines.ensures.value (may-send (host_of books table) c.args.bank c.args.command.now some) c.in_ok-change.ensures.opens c.in_ok-change.ensures.begins c.in_ok-plan_turns.ensures.under_way c.in_ok-plan_turns.ensures.turns
    c.in_ok-plan_turns.ensures.command c.in_ok-plan_turns.ensures.sender c.in_ok-outcome.ensures.value c.in_ok-outcome.ensures.answers in
    record {
      next = table-next books table c.args.bank c.sender.result.number c.args.command.now c.in_ok-outcome.outcome some
          (ap (λ (s : Sender). s.number) c.sender.ensures.value)
          (planned-answers books table c.plan_turns.new.change c.args.bank c.args.command.now c.in_ok-outcome.outcome planned);
    }

pub invariant_of-self : goal.invariant_of-self
invariant_of-self c =
    let books : List Book = c.self.inside.books.items in
    let new : List Book = c.carry_turns.new.books in
    let carried : EachBook (IsCarried c.plan_turns.new.change) books new =
    subst (λ (was : List Book). EachBook (IsCarried c.plan_turns.new.change) was new) c.deref_mut.ensures.value c.carry_turns.ensures.carried in
    subst (λ (written_books : List Book). AreHosted written_books c.follow.new.self)
    (sym (written c.self.inside.books.len new books (c.carry_turns.ensures.carried.count ∙ c.deref_mut.ensures.len)))
    (hosted-by books new c.self.inside.table c.follow.new.self c.self.invariant (ap (λ (t : Table). t.session) c.follow.ensures.value) carried.count
    (λ place none within. (carried.each place none within).pair) (λ place none within. (carried.each place none within).banks))

pub returns-clause-goes_on : goal.returns-clause-goes_on
returns-clause-goes_on c =
    let books : List Book = c.self.inside.books.items in
    let table : Table = c.self.inside.table in
    let new : List Book = c.carry_turns.new.books in
    let after : Table = c.follow.new.self in
    let some : InSome (stands (host_of books table)) (MaySend c.args.bank c.args.command.now) =
    subst (λ (host : HostState). InSome (stands host) (MaySend c.args.bank c.args.command.now)) (sym c.self.view_is) c.requires.may_send in
    let planned : IsPlanned books table c.plan_turns.new.change c.args.bank c.args.command.now c.in_ok-outcome.outcome =
    planned-by books c.deref.result.now table c.lines.result.now c.in_ok-change.change c.plan_turns.new.change c.args.bank c.args.command.now c.in_ok-outcome.outcome
    c.deref.ensures.value c.lines.ensures.value (may-send (host_of books table) c.args.bank c.args.command.now some) c.in_ok-change.ensures.opens c.in_ok-change.ensures.begins c.in_ok-plan_turns.ensures.under_way c.in_ok-plan_turns.ensures.turns
    c.in_ok-plan_turns.ensures.command c.in_ok-plan_turns.ensures.sender c.in_ok-outcome.ensures.value c.in_ok-outcome.ensures.answers in
    let carried : EachBook (IsCarried c.plan_turns.new.change) books new =
    subst (λ (was : List Book). EachBook (IsCarried c.plan_turns.new.change) was new) c.deref_mut.ensures.value c.carry_turns.ensures.carried in
    let cut : take c.self.inside.books.len (new ++ drop (length new) books) ≡ new =
    written c.self.inside.books.len new books (c.carry_turns.ensures.carried.count ∙ c.deref_mut.ensures.len) in
    subst (λ (host : HostState). GoesOn (stands host) (stands (host_of (take c.self.inside.books.len (new ++ drop (length new) books)) after)) c.args.bank c.args.command.now c.in_ok-outcome.outcome)
    c.self.view_is
    (subst (λ (written_books : List Book). GoesOn (stands (host_of books table)) (stands (host_of written_books after)) c.args.bank c.args.command.now c.in_ok-outcome.outcome) (sym cut)
    (change-goes_on (bank_count table.session) books new table after c.plan_turns.new.change c.args.bank c.args.command.now c.in_ok-outcome.outcome c.self.invariant.are
    (may-send (host_of books table) c.args.bank c.args.command.now some) planned
    (table-follows books table after c.args.bank c.sender.result.number c.args.command.now c.in_ok-outcome.outcome
    (ap (λ (s : Sender). s.number) c.sender.ensures.value) c.follow.ensures.follows)
    carried))
