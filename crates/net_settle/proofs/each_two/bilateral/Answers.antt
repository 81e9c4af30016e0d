use Rattle.std.proofs.Common.{List, ◌≡◌, ◌≤◌, length, ap, sym, subst, ◌∙◌, arith}
use Rattle.std.specs.List.{flat_map}
use Rattle.fx_rules.specs.Lists.{Each, below}
use Rattle.fx_rules.specs.History.{state}
use Rattle.fx_rules.proofs.Trading.{legal-trades}
use Rattle.net_settle.specs.declared.payment.Payment.{Payment}
use Rattle.net_settle.specs.Payments.{Settles, SettlesEachTwo, IsOfBanks, between, sum_in, bilateral_of}
use Rattle.net_settle.specs.inside.Dues.{column_in}
use Rattle.net_settle.proofs.Flows.{codes-stand}
use Rattle.net_settle.proofs.Listing.{all-are}
use Rattle.net_settle.proofs.TwoByTwo.{bilateral-each-two, bilateral-day, bilateral-one, bilateral-banks, bilateral-some, least_each_two}
use Rattle.net_settle.proofs.each_two.bilateral.Goals as goal

pub returns : goal.returns
returns c =
    let h = c.args.session.now in
    let S = state h c.args.entries.now in
    let dues = c.in_ok-dues.dues in
    let ps = c.loop-column.payments.items in
    let end : c.loop-column.column ≡ length dues.currencies.codes.items = omega (arith, c.loop-column.auto.column-end, c.loop-column-test.false, c.len-column-end.ensures) in
    let exactly : ps ≡ bilateral_of h S = c.loop-column.invariant ∙ ap (λ k. flat_map (column_in dues) (below k)) end ∙ all-are h S dues c.in_ok-dues.ensures.value in
    let trades = legal-trades h c.args.entries.now c.requires.legal in
    let stand = codes-stand h dues.currencies c.in_ok-dues.ensures.value.currencies_are in
    record {
      exactly = exactly;
      each_two = subst (SettlesEachTwo h S) (sym exactly) (bilateral-each-two h S stand trades);
      day = subst (Settles h S) (sym exactly) (bilateral-day h S stand trades);
      one = λ a b currency. subst (λ (qs : List Payment). length (between a b currency qs) ≤ 1) (sym exactly) (bilateral-one h S a b currency);
      banks = subst (Each (IsOfBanks h)) (sym exactly) (bilateral-banks h S);
      some = subst (Each (λ (p : Payment). 1 ≤ p.amount)) (sym exactly) (bilateral-some h S);
      least = λ others currency settles.
          subst (λ (qs : List Payment). sum_in currency qs ≤ sum_in currency others) (sym exactly) (least_each_two h S others currency settles);
    }
