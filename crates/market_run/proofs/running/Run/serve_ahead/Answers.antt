-- Each part can be served once those in front of it were: the market that has read ahead is as it was.
use Rattle.std.proofs.Common.{◌∙◌, ap}
use Rattle.std.specs.Slice.Iter.{chunks_rest}
use Rattle.market_run.proofs.Parts.{front-none, may-serve-part-next, serves-part-next, served-some-next}
use Rattle.market_run.proofs.running.Run.serve_ahead.Goals as goal

pub loop-next-init : goal.loop-next-init
loop-next-init g c = record {
  served = front-none g.M.Market.stands g.O.Observer.told c.args.session.now c.args.self.now c.args.sent.now _ (ap chunks_rest c.into_iter-next-iterator.ensures.into_iter_gives ∙ c.chunks-next-items.ensures.rest);
}

pub serve_all-requires : goal.serve_all-requires
serve_all-requires g c = record {
  may_serve = may-serve-part-next g.M.Market.stands g.O.Observer.told c.args.session.now _ _ _ _ _ _ _ c.loop-next.invariant.served c.in-Some.ensures.steps.1.0 c.read_ahead.ensures.same c.requires.may_serve;
}

pub loop-next-preserved : goal.loop-next-preserved
loop-next-preserved g c = record {
  served = serves-part-next g.M.Market.stands g.O.Observer.told c.args.session.now _ _ _ _ _ _ _ c.loop-next.invariant.served c.in-Some.ensures.steps.1.0 c.read_ahead.ensures.same _ c.in_ok-serve_all.ensures.served;
}

pub returns-in_err-serve_all-clause-begun : goal.returns-in_err-serve_all-clause-begun
returns-in_err-serve_all-clause-begun g c =
    served-some-next g.M.Market.stands g.O.Observer.told c.args.session.now _ _ _ _ _ _ _ c.loop-next.invariant.served c.in-Some.ensures.steps.1.0 c.read_ahead.ensures.same c.from_residual.result g.O.Observer.may_break _
    c.in_err-serve_all.ensures.begun
