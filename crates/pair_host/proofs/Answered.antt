-- What is found in the book is the market's answer.
use Rattle.std.proofs.Common.{ℕ, ◌≡◌, ◌<◌, ◌^◌, find, Some, ap, sym, subst, ◌∙◌, arith}
use Rattle.std.specs.List.{filter}
use Rattle.fx_rules.specs.declared.command.Command.{Command}
use Rattle.fx_rules.specs.declared.command.Command.TheVariants.{Cancel, Reduce, Book as BookCommand}
use Rattle.fx_rules.specs.declared.outcome.Outcome.{Outcome}
use Rattle.fx_rules.specs.declared.outcome.Outcome.TheVariants.{Depth}
use Rattle.fx_rules.specs.Session.{Header}
use Rattle.fx_rules.specs.State.{State, orders_in}
use Rattle.fx_rules.specs.Sweep.{is_order}
use Rattle.fx_rules.specs.Step.{IsOutcome, cancel_answer, reduce_answer}
use Rattle.global_book.specs.Book.{Book, first}
use Rattle.credit_lines.specs.Credit.{Credit}
use Rattle.match_sweep.specs.Sweeps.{Fits}
use Rattle.local_view.specs.LocalBook.{IsLocalBook}
use Rattle.credit_raise.proofs.Turning.{find-first}
use Rattle.fx_rules.specs.declared.sender.Sender.{Sender}
use Rattle.fx_rules.specs.Sending.{pair_of}
use Rattle.fx_rules.proofs.Senders.{one_pair}
use Rattle.pair_host.specs.Answers.{AnswersEach}

-- a command's pair is the book's

-- the orders of a book that fits are those of the command's pair
its_orders : (h : Header) (S : State) (book : Book) (credit : Credit) (weight pair : ℕ) → Fits h S book credit weight → pair ≡ book.pair → book.orders ≡ orders_in pair S.orders
its_orders h S book credit weight pair fits same = fits.orders ∙ ap (λ p. orders_in p S.orders) (sym same)

pub cancel-answers : (book : Book) (credit : Credit) (weight : ℕ) (sender : Sender) (pair number : ℕ) (command : Command) (outcome : Outcome) → command ≡ Cancel pair number → pair_of command ≡ Some book.pair → outcome ≡ cancel_answer (first (filter (is_order sender.bank number) book.orders)) → AnswersEach book credit weight sender command outcome
cancel-answers book credit weight sender pair number command outcome command_is pair_is is h S sound fits next =
    let same : pair ≡ book.pair = one_pair pair book.pair (sym (ap pair_of command_is) ∙ pair_is) in
    subst (λ (c : Command). IsOutcome h S sender.bank c outcome) (sym command_is)
    (is ∙ ap cancel_answer (find-first (is_order sender.bank number) book.orders
    ∙ ap (find (is_order sender.bank number)) (its_orders h S book credit weight pair fits same)))

pub reduce-answers : (book : Book) (credit : Credit) (weight : ℕ) (sender : Sender) (pair number lots : ℕ) (command : Command) (outcome : Outcome) → command ≡ Reduce pair number lots → pair_of command ≡ Some book.pair → outcome ≡ reduce_answer lots (first (filter (is_order sender.bank number) book.orders)) → AnswersEach book credit weight sender command outcome
reduce-answers book credit weight sender pair number lots command outcome command_is pair_is is h S sound fits next =
    let same : pair ≡ book.pair = one_pair pair book.pair (sym (ap pair_of command_is) ∙ pair_is) in
    subst (λ (c : Command). IsOutcome h S sender.bank c outcome) (sym command_is)
    (is ∙ ap (reduce_answer lots) (find-first (is_order sender.bank number) book.orders
    ∙ ap (find (is_order sender.bank number)) (its_orders h S book credit weight pair fits same)))

book-answered : (book : Book) (credit : Credit) (weight : ℕ) (sender : Sender) (outcome : Outcome) → sender.arrival < 2 ^ 64 → IsLocalBook book credit weight sender.bank outcome → AnswersEach book credit weight sender (BookCommand book.pair) outcome
book-answered book credit weight sender (Depth bids asks) most is h S sound fits next = is h S sound fits (omega (arith, most, next.arrival))
book-answered book credit weight sender outcome most is h S sound fits next = absurd is

pub book-answers : (book : Book) (credit : Credit) (weight : ℕ) (sender : Sender) (pair : ℕ) (command : Command) (outcome : Outcome) → sender.arrival < 2 ^ 64 → command ≡ BookCommand pair → pair_of command ≡ Some book.pair → IsLocalBook book credit weight sender.bank outcome → AnswersEach book credit weight sender command outcome
book-answers book credit weight sender pair command outcome most command_is pair_is is =
    let same : pair ≡ book.pair = one_pair pair book.pair (sym (ap pair_of command_is) ∙ pair_is) in
    subst (λ (c : Command). AnswersEach book credit weight sender c outcome) (sym (command_is ∙ ap BookCommand same))
    (book-answered book credit weight sender outcome most is)
