-- Each command's answer is the market's.
use Rattle.std.proofs.Common.{◌<◌, ◌-◌, ◌^◌, min, eqb, List, Result, Ok, Err, IfOk, sym, ap, subst, ◌∙◌, find, length}
use Rattle.std.specs.List.{filter}
use Rattle.fx_amounts.specs.declared.memory.Memory.{Memory}
use Rattle.fx_rules.specs.declared.orders.ActiveOrder.{ActiveOrder}
use Rattle.fx_rules.specs.declared.outcome.Outcome.{Outcome}
use Rattle.fx_rules.specs.State.{orders_in}
use Rattle.fx_rules.specs.Sweep.{Taker, is_order}
use Rattle.fx_rules.specs.Step.{cancel_answer, reduce_answer}
use Rattle.flat_host.specs.FlatState.{FlatState}
use Rattle.flat_host.specs.inside.Parts.{OrderedIn}
use Rattle.flat_host.specs.inside.Turns.{LineSetIn, TotalSetIn, SettledIn}
use Rattle.flat_host.specs.Steps.{AnswersEach, ShowsEach}
use Rattle.flat_host.proofs.Stepping.{order-answers, cancel-answers, reduce-answers, pull-answers, line-answers, total-answers, settle-answers, show-answers, book-answers, bad-answers}
use Rattle.flat_host.proofs.Sendable.{sender-place, order-pair, book-bank, book-pair}
use Rattle.flat_host.proofs.host.FlatHost.find_answer.Goals as goal

if_ok : (r : Result Outcome Memory) (P Q : Outcome → Type 0) → ((outcome : Outcome) → P outcome → Q outcome) → IfOk r P → IfOk r Q
if_ok (Ok outcome) P Q step h = step outcome h
if_ok (Err e) P Q step h = tt

pub ordered-requires-clause-pair : goal.ordered-requires-clause-pair
ordered-requires-clause-pair c =
    subst (λ n. n < length c.args.self.now.weights) (sym (ap (λ (t : Taker). t.pair) c.incoming-incoming.ensures.taker))
    (order-pair c.args.self.now c.args.bank c.args.command.now c.in-Order.side c.in-Order.pair c.in-Order.price c.in-Order.lots c.in-Order.life c.requires.command c.in-Order.is)

pub incoming-incoming-requires-clause-sender : goal.incoming-incoming-requires-clause-sender
incoming-incoming-requires-clause-sender c = sender-place c.args.self.now c.args.bank c.args.command.now c.requires.command

pub depth-requires-clause-bank : goal.depth-requires-clause-bank
depth-requires-clause-bank c = book-bank c.args.self.now c.args.bank c.args.command.now c.in-Book.pair c.requires.command c.in-Book.is

pub depth-requires-clause-pair : goal.depth-requires-clause-pair
depth-requires-clause-pair c = book-pair c.args.self.now c.args.bank c.args.command.now c.in-Book.pair c.requires.command c.in-Book.is

pub returns-in-Order : goal.returns-in-Order
returns-in-Order c = record {
  answers = if_ok c.ordered.result (OrderedIn c.args.self.now c.incoming-incoming.result c.in-Order.life) (AnswersEach c.args.self.now c.args.bank c.args.command.now)
      (λ outcome is. order-answers c.args.self.now c.args.bank c.in-Order.side c.in-Order.pair c.in-Order.price c.in-Order.lots c.in-Order.life c.args.command.now
      c.incoming-incoming.result outcome c.in-Order.is c.incoming-incoming.ensures.taker c.requires.command is)
      c.ordered.ensures.ordered;
}

pub returns-in-Cancel : goal.returns-in-Cancel
returns-in-Cancel c = record {
  answers = cancel-answers c.args.self.now c.args.bank c.in-Cancel.pair c.in-Cancel.number c.args.command.now c.cancel_answer.result c.in-Cancel.is
      (c.cancel_answer.ensures.value ∙ ap cancel_answer c.order_of.ensures.found
      ∙ ap (λ (os : List ActiveOrder). cancel_answer (find (λ o. is_order c.args.bank c.in-Cancel.number o) (orders_in c.in-Cancel.pair os)))
      (c.deref.ensures.value ∙ ap (λ (l : FlatState). l.orders) c.self.view_is));
}

pub returns-in-Reduce : goal.returns-in-Reduce
returns-in-Reduce c = record {
  answers = reduce-answers c.args.self.now c.args.bank c.in-Reduce.pair c.in-Reduce.number c.in-Reduce.lots c.args.command.now c.reduce_answer.result c.in-Reduce.is
      (c.reduce_answer.ensures.value ∙ ap (reduce_answer c.in-Reduce.lots) c.order_of-in-Reduce.ensures.found
      ∙ ap (λ (os : List ActiveOrder). reduce_answer c.in-Reduce.lots (find (λ o. is_order c.args.bank c.in-Reduce.number o) (orders_in c.in-Reduce.pair os)))
      (c.deref-in-Reduce.ensures.value ∙ ap (λ (l : FlatState). l.orders) c.self.view_is));
}

pub returns-in-Pull : goal.returns-in-Pull
returns-in-Pull c = record {
  answers = pull-answers c.args.self.now c.args.bank c.in-Pull.pair c.count_of.result c.args.command.now c.in-Pull.is c.requires.count
      (c.count_of.ensures.value
      ∙ ap (λ (os : List ActiveOrder). min (length (filter (λ order. eqb order.bank c.args.bank) (orders_in c.in-Pull.pair os))) (2 ^ 32 - 1))
      (c.deref-in-Pull.ensures.value ∙ ap (λ (l : FlatState). l.orders) c.self.view_is));
}

pub returns-in-Line : goal.returns-in-Line
returns-in-Line c = record {
  answers = if_ok c.line_set.result (LineSetIn c.args.self.now c.args.bank c.in-Line.other c.in-Line.limit) (AnswersEach c.args.self.now c.args.bank c.args.command.now)
      (λ outcome is. line-answers c.args.self.now c.args.bank c.in-Line.other c.in-Line.limit c.args.command.now outcome
      c.line_set.ensures.valid c.in-Line.is c.requires.command is)
      c.line_set.ensures.set;
}

pub returns-in-Total : goal.returns-in-Total
returns-in-Total c = record {
  answers = if_ok c.total_set.result (TotalSetIn c.args.self.now c.args.bank c.in-Total.limit) (AnswersEach c.args.self.now c.args.bank c.args.command.now)
      (λ outcome is. total-answers c.args.self.now c.args.bank c.in-Total.limit c.args.command.now outcome
      c.total_set.ensures.valid c.in-Total.is c.requires.command is)
      c.total_set.ensures.set;
}

pub returns-in-Settle : goal.returns-in-Settle
returns-in-Settle c = record {
  answers = if_ok c.settled.result (SettledIn c.args.self.now c.in-Settle.a c.in-Settle.b c.in-Settle.units) (AnswersEach c.args.self.now c.args.bank c.args.command.now)
      (λ outcome is. settle-answers c.args.self.now c.args.bank c.in-Settle.a c.in-Settle.b c.in-Settle.units c.args.command.now outcome
      c.settled.ensures.valid c.in-Settle.is c.requires.command is)
      c.settled.ensures.settled;
}

pub returns-in-Show : goal.returns-in-Show
returns-in-Show c = record {
  answers = show-answers c.args.self.now c.args.bank c.in-Show.other c.args.command.now c.shown.result c.in-Show.is c.requires.command c.shown.ensures.shown;
}

pub returns-in-Book : goal.returns-in-Book
returns-in-Book c = record {
  answers = if_ok c.depth.result (ShowsEach c.args.self.now c.args.bank c.in-Book.pair) (AnswersEach c.args.self.now c.args.bank c.args.command.now)
      (λ outcome is. book-answers c.args.self.now c.args.bank c.in-Book.pair c.args.command.now outcome c.in-Book.is is)
      c.depth.ensures.shows;
}

pub returns-in-Bad : goal.returns-in-Bad
returns-in-Bad c = record { answers = bad-answers c.args.self.now c.args.bank c.in-Bad.reason c.args.command.now c.in-Bad.is }
