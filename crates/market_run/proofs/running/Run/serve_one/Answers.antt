-- What is asked of the market and of the observer is known of the run, and what they answer leads to its next history.
use Rattle.std.proofs.Common.{[], ◌∷◌, arith, inl, sym, subst}
use Rattle.std.specs.Prelude.{OnOk}
use Rattle.market_run.specs.Ran.{Ran}
use Rattle.market_run.specs.Running.{IsAsBefore, MayServe, ServesOn}
use Rattle.market_run.proofs.Serving.{may-send, number-fits, can-tell, served-one, on-err, on-err-or}
use Rattle.market_run.proofs.running.Run.serve_one.Goals as goal

pub overflow_add-number : goal.overflow_add-number
overflow_add-number g c =
    let may = subst (λ (r : Ran _ _). MayServe g.M.Market.stands g.O.Observer.told c.args.session.now r (c.args.sent.now ∷ [])) (sym c.self.view_is) c.requires.may_serve in
    omega (arith, number-fits g.M.Market.stands g.O.Observer.told c.args.session.now _ c.args.sent.now c.count-number.result may c.count-number.ensures.count)

pub apply-requires : goal.apply-requires
apply-requires g c =
    let may = subst (λ (r : Ran _ _). MayServe g.M.Market.stands g.O.Observer.told c.args.session.now r (c.args.sent.now ∷ [])) (sym c.self.view_is) c.requires.may_serve in
    record { may_send = may-send g.M.Market.stands g.O.Observer.told c.args.session.now _ c.args.sent.now may }

pub hear-requires : goal.hear-requires
hear-requires g c =
    let may = subst (λ (r : Ran _ _). MayServe g.M.Market.stands g.O.Observer.told c.args.session.now r (c.args.sent.now ∷ [])) (sym c.self.view_is) c.requires.may_serve in
    record {
      ready = c.in_ok-make_ready.ensures.ready;
      next = can-tell g.M.Market.stands g.O.Observer.told c.args.session.now (record { market = c.self.inside.market; observer = c.self.inside.observer }) c.make_ready.new.self c.apply.new.self c.args.sent.now c.count-number.result
          c.in_ok-outcome.outcome may c.count-number.ensures.count c.in_ok-outcome.ensures.goes_on c.make_ready.ensures.same;
    }

pub returns-in_err-outcome-clause-memory : goal.returns-in_err-outcome-clause-memory
returns-in_err-outcome-clause-memory g c =
    on-err _ c.from_residual-in_err-outcome.result
    (inl (subst (λ (r : Ran _ _). IsAsBefore g.O.Observer.told r (record { market = c.apply.new.self; observer = c.make_ready.new.self })) c.self.view_is (record { market = c.in_err-outcome.ensures.memory; observer = c.make_ready.ensures.same })))

pub returns : goal.returns
returns g c = record {
  served = subst (λ (r : Ran _ _). OnOk c.hear.result (ServesOn g.M.Market.stands g.O.Observer.told c.args.session.now r (record { market = c.apply.new.self; observer = c.hear.new.self }) (c.args.sent.now ∷ []))) c.self.view_is
      (served-one g.M.Market.stands g.O.Observer.told c.args.session.now (record { market = c.self.inside.market; observer = c.self.inside.observer })
      (record { market = c.apply.new.self; observer = c.hear.new.self }) c.make_ready.new.self c.args.sent.now c.count-number.result c.in_ok-outcome.outcome c.hear.result c.count-number.ensures.count
      c.in_ok-outcome.ensures.goes_on c.make_ready.ensures.same c.hear.ensures.told);
  memory = on-err-or _ _ c.hear.result c.hear.ensures.memory;
}
