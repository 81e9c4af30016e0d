-- The books are empty, and the table is that of the opening state.
use Rattle.fx_rules.specs.State.{opening}
use Rattle.pair_host.proofs.Holding.{stands-by}
use Rattle.pair_host.proofs.host.PairHost.open.Goals as goal

pub returns : goal.returns
returns c = record {
  opens = stands-by c.args.session.now (opening c.args.session.now) c.in_ok-empty_books.field-0.items c.in_ok-open.field-0 (record {
    count = c.in_ok-empty_books.ensures.count;
    orders = λ place none within. c.in_ok-empty_books.ensures.empty place none within;
    credit = c.in_ok-open.ensures.stands;
  });
}
