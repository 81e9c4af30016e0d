-- Every entry of a legal history can be printed.
use Rattle.std.proofs.Common.{ℕ, ◌<◌, ◌≡◌, ltb, List, [], ◌∷◌, ◌++◌, sym, subst, Option, Some, None}
use Rattle.std.proofs.lemmas.Bool.{cond_both}
use Rattle.fx_rules.specs.declared.command.Command.{Command}
use Rattle.fx_rules.specs.declared.command.Command.TheVariants.{Order, Cancel, Reduce, Pull, Line, Total, Settle, Show, Book, Bad}
use Rattle.fx_rules.specs.declared.command.Life.{Life}
use Rattle.fx_rules.specs.declared.command.Life.TheVariants.{Day, Ioc, Fok}
use Rattle.fx_rules.specs.declared.outcome.Outcome.{Outcome}
use Rattle.fx_rules.specs.declared.outcome.Outcome.TheVariants.{Ordered, Killed, Reduced, NotLess, LineSet, TotalSet, Settled, Depth}
use Rattle.fx_rules.specs.declared.outcome.Entry.{Entry}
use Rattle.fx_rules.specs.declared.orders.Fill.{Fill}
use Rattle.fx_rules.specs.declared.orders.Resting.{Resting}
use Rattle.fx_rules.specs.Session.{Header, IsSession, pair_count}
use Rattle.fx_rules.specs.State.{State}
use Rattle.fx_rules.specs.Sweep.{Taker, taker_of}
use Rattle.fx_rules.specs.Raise.{order_of}
use Rattle.fx_rules.specs.Step.{AreValues, IsOrdered, IsOutcome, fills_of, cancel_answer, reduce_answer}
use Rattle.fx_rules.specs.History.{IsLegal, IsStep, state}
use Rattle.fx_rules.specs.Sound.{IsSound}
use Rattle.fx_rules.specs.inside.Trade.{IsTrade}
use Rattle.fx_rules.proofs.ListLemmas.{Each-weaker}
use Rattle.fx_rules.proofs.Continuing.{legal-last}
use Rattle.fx_rules.proofs.Soundness.{legal-sound}
use Rattle.fx_rules.proofs.Trading.{step-trades}
use Rattle.reply_lines.specs.Prints.{IsAnswerOf, IsFillOf}
use Rattle.reply_lines.specs.inside.Prints.{IsEntryOf}

-- an outcome that is no local book
answer_plain : (h : Header) (command : Command) (outcome told : Outcome) → outcome ≡ told → IsAnswerOf h command told → IsAnswerOf h command outcome
answer_plain h command outcome told is answer = subst (IsAnswerOf h command) (sym is) answer

cancel-answer : (h : Header) (command : Command) (order : Option Resting) → IsAnswerOf h command (cancel_answer order)
cancel-answer h command None = tt
cancel-answer h command (Some order) = tt

reduce-answer : (h : Header) (command : Command) (lots : ℕ) (order : Option Resting) → IsAnswerOf h command (reduce_answer lots order)
reduce-answer h command lots None = tt
reduce-answer h command lots (Some order) = cond_both (ltb lots order.left) (Reduced lots) (NotLess order.left) (IsAnswerOf h command) (λ _. tt) (λ _. tt)

ordered-answer : (h : Header) (S : State) (t : Taker) (life : Life) (command : Command) (outcome : Outcome) → IsOrdered h S t life outcome → IsAnswerOf h command outcome
ordered-answer h S t Day command (Ordered done rests fills) is = tt
ordered-answer h S t Ioc command (Ordered done rests fills) is = tt
ordered-answer h S t Fok command (Ordered done rests fills) is = tt
ordered-answer h S t Fok command Killed is = tt
ordered-answer h S t life command outcome is = absurd is

raised-answer : (h : Header) (S : State) (bank other asked : ℕ) (outcome : Outcome) → IsOutcome h S bank (Line other asked) outcome → IsAnswerOf h (Line other asked) outcome
raised-answer h S bank other asked (LineSet limit fills) is = tt
raised-answer h S bank other asked outcome is = absurd is

total-answer : (h : Header) (S : State) (bank asked : ℕ) (outcome : Outcome) → IsOutcome h S bank (Total asked) outcome → IsAnswerOf h (Total asked) outcome
total-answer h S bank asked (TotalSet most fills) is = tt
total-answer h S bank asked outcome is = absurd is

settle-answer : (h : Header) (S : State) (sender a b asked : ℕ) (outcome : Outcome) → IsOutcome h S sender (Settle a b asked) outcome → IsAnswerOf h (Settle a b asked) outcome
settle-answer h S sender a b asked (Settled given fills) is = tt
settle-answer h S sender a b asked outcome is = absurd is

book-answer : (h : Header) (S : State) (bank pair : ℕ) (outcome : Outcome) → pair < pair_count h → IsOutcome h S bank (Book pair) outcome → IsAnswerOf h (Book pair) outcome
book-answer h S bank pair (Depth bids asks) within is = within
book-answer h S bank pair outcome within is = absurd is

outcome-answer : (h : Header) (S : State) (bank : ℕ) (command : Command) (outcome : Outcome) → AreValues h bank command → IsOutcome h S bank command outcome → IsAnswerOf h command outcome
outcome-answer h S bank (Order side pair price lots life) outcome valid is = ordered-answer h S (taker_of S bank side pair price lots) life (Order side pair price lots life) outcome is
outcome-answer h S bank (Cancel pair number) outcome valid is =
    answer_plain h (Cancel pair number) outcome (cancel_answer (order_of S pair bank number)) is (cancel-answer h (Cancel pair number) (order_of S pair bank number))
outcome-answer h S bank (Reduce pair number lots) outcome valid is =
    answer_plain h (Reduce pair number lots) outcome (reduce_answer lots (order_of S pair bank number)) is (reduce-answer h (Reduce pair number lots) lots (order_of S pair bank number))
outcome-answer h S bank (Pull pair) outcome valid is = answer_plain h (Pull pair) outcome _ is tt
outcome-answer h S bank (Line other asked) outcome valid is = raised-answer h S bank other asked outcome is
outcome-answer h S bank (Total asked) outcome valid is = total-answer h S bank asked outcome is
outcome-answer h S bank (Settle a b asked) outcome valid is = settle-answer h S bank a b asked outcome is
outcome-answer h S bank (Show other) outcome valid is = answer_plain h (Show other) outcome _ is tt
outcome-answer h S bank (Book pair) outcome valid is = book-answer h S bank pair outcome valid is
outcome-answer h S bank (Bad reason) outcome valid is = answer_plain h (Bad reason) outcome _ is tt

fill-of : (h : Header) (fill : Fill) → IsTrade h fill → IsFillOf h fill
fill-of h fill is = record { pair = is.pair; taker = is.taker; maker = is.maker }

-- an entry that is a step of a sound state
pub step-prints : (h : Header) (S : State) (e : Entry) → IsSession h → IsSound h S → IsStep h S e → IsEntryOf h e
step-prints h S e session sound step = record {
  command = step.command;
  answer = outcome-answer h S e.bank e.command e.outcome step.command.values step.outcome;
  fills = Each-weaker (IsTrade h) (IsFillOf h) (fill-of h) (fills_of e.outcome) (step-trades h S e session sound step);
}

-- the last entry of a legal history
pub last-prints : (h : Header) (entries : List Entry) (e : Entry) → IsLegal h (entries ++ e ∷ []) → IsEntryOf h e
last-prints h entries e legal =
    let last = legal-last h entries e legal in
    step-prints h (state h entries) e legal.session (legal-sound h entries last.0) last.1
