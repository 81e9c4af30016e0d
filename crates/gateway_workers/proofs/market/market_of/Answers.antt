use Rattle.fx_rules.specs.History.{state}
use Rattle.gateway_workers.proofs.TakingOut.{some_is}
use Rattle.gateway_workers.proofs.market.market_of.Goals as goal

pub from_parts-requires : goal.from_parts-requires
from_parts-requires g c = record {
  of_one_state = record {
    session = g.N.Naming.session;
    at = state g.N.Naming.session c.args.history.now;
    books_are = some_is _ _ _ c.in-Some.is c.in_ok-books.ensures.books c.args.history.now c.requires.shards;
    stands = c.requires.table;
  };
}

pub returns-in-Some : goal.returns-in-Some
returns-in-Some g c = record {
  market = c.from_parts.ensures.stands g.N.Naming.session (state g.N.Naming.session c.args.history.now)
      (some_is _ _ _ c.in-Some.is c.in_ok-books.ensures.books c.args.history.now c.requires.shards) c.requires.table;
}
