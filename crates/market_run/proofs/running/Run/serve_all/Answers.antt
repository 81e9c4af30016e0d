-- Each can be served once those before it were.
use Rattle.market_run.proofs.Serving.{may-serve-next, serves-next, served-some}
use Rattle.market_run.proofs.running.Run.serve_all.Goals as goal

pub serve_one-requires : goal.serve_one-requires
serve_one-requires g c = record {
  may_serve = may-serve-next g.M.Market.stands g.O.Observer.told c.args.session.now _ _ c.args.sent.now c.loop-next.next-index c.next-item.result c.requires.may_serve c.loop-next.invariant.served c.loop-next-test.true c.next-item.is;
}

pub loop-next-preserved : goal.loop-next-preserved
loop-next-preserved g c = record {
  served = serves-next g.M.Market.stands g.O.Observer.told c.args.session.now _ _ _ c.args.sent.now c.loop-next.next-index c.next-item.result c.loop-next.invariant.served c.in_ok-serve_one.ensures.served c.loop-next-test.true c.next-item.is;
}

pub returns-in_err-serve_one-clause-begun : goal.returns-in_err-serve_one-clause-begun
returns-in_err-serve_one-clause-begun g c =
    served-some g.M.Market.stands g.O.Observer.told c.args.session.now c.from_residual.result g.O.Observer.may_break _ _ _ c.args.sent.now c.loop-next.next-index c.loop-next.invariant.served c.loop-next-test.true c.in_err-serve_one.ensures.memory
