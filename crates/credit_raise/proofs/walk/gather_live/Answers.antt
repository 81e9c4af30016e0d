-- An order that crosses is not better than the bank's best of its side, so that the best one crosses too.
use Rattle.std.proofs.Common.{arith, sym, ◌∙◌}
use Rattle.std.proofs.lemmas.Bool.{both_ways}
use Rattle.std.proofs.lemmas.Result.{on_ok_weaker}
use Rattle.credit_raise.specs.inside.Prices.{is_crossed}
use Rattle.credit_raise.proofs.Gathering.{buy_meets, gathers-sides, sell_meets}
use Rattle.credit_raise.proofs.walk.gather_live.Goals as goal

pub gather_any-requires : goal.gather_any-requires
gather_any-requires g c = record {
  none = λ none order is cross.
      both_ways (is_crossed c.args.own.now.buy c.args.tops.now.sell) (sym c.is_crossed-buys.ensures ∙ none)
      (buy_meets c.args.bank c.args.book.now.orders c.args.own.now.buy order c.args.tops.now.sell c.requires.own.buy is cross);
}

pub gather_any-requires-2 : goal.gather_any-requires-2
gather_any-requires-2 g c = record {
  none = λ none order is cross.
      both_ways (is_crossed c.args.tops.now.buy c.args.own.now.sell) (sym c.is_crossed-sells.ensures ∙ none)
      (sell_meets c.args.bank c.args.book.now.orders c.args.own.now.sell order c.args.tops.now.buy c.requires.own.sell is cross);
}

pub returns : goal.returns
returns g c = record {
  gathered = on_ok_weaker c.gather_any-2.result
      (gathers-sides c.args.bank c.args.tops.now c.args.book.now.orders c.args.turns.now.items c.gather_any.new.turns.items c.gather_any-2.new.turns.items c.in_ok-gather_any.ensures.gathered)
      c.gather_any-2.ensures.gathered;
  steps = on_ok_weaker c.gather_any-2.result (λ second. omega (arith, second, c.in_ok-gather_any.ensures.steps)) c.gather_any-2.ensures.steps;
}
