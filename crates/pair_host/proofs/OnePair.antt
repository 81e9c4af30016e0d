-- What is made in one book and the table is the step of each state that they are of.
use Rattle.std.proofs.Common.{ℕ, ◌≡◌, ◌+◌, ap, sym, subst, ◌∙◌, arith}
use Rattle.fx_rules.specs.declared.command.Command.{Command}
use Rattle.fx_rules.specs.declared.outcome.Entry.{Entry}
use Rattle.fx_rules.specs.declared.outcome.Outcome.{Outcome}
use Rattle.fx_rules.specs.Session.{Header, weight_of}
use Rattle.fx_rules.specs.State.{State, orders_in, count_of}
use Rattle.fx_rules.specs.Market.{MaySend, next_entry}
use Rattle.global_book.specs.Book.{Book}
use Rattle.credit_lines.specs.Table.{Table, next_sender}
use Rattle.match_sweep.specs.Sweeps.{Fits}
use Rattle.fx_rules.specs.declared.sender.Sender.{Sender}
use Rattle.fx_rules.specs.Sending.{IsNextIn, entry_of}
use Rattle.pair_host.specs.Answers.{AnswersEach}
use Rattle.pair_host.specs.Carries.{IsStepOf}
use Rattle.pair_host.specs.inside.OnePair.{AreOf}

-- the sender of a bank's next command
pub sent : Table → Sender → ℕ → Type 0
sent table sender bank = sender ≡ next_sender table bank

-- in a state that the book and the table are of, what is answered is a step
pub step-of : (h : Header) (S : State) (book now : Book) (table : Table) (weight : ℕ) (sender : Sender) (bank : ℕ) (command : Command) (outcome : Outcome) → AreOf h S book table → MaySend bank command h S
    → now.orders ≡ book.orders → now.pair ≡ book.pair → weight ≡ weight_of table.session book.pair → sender ≡ next_sender table bank → IsNextIn S sender
    → AnswersEach now table.lines weight sender command outcome → IsStepOf h S now sender command outcome
step-of h S book now table weight sender bank command outcome of may orders pair weighs sender_is next answers =
    let owner : sender.bank ≡ bank = ap (λ (s : Sender). s.bank) sender_is in
    let now_orders : now.orders ≡ orders_in now.pair S.orders = orders ∙ of.orders ∙ ap (λ p. orders_in p S.orders) (sym pair) in
    let weight_is : weight ≡ weight_of h now.pair = weighs ∙ ap (λ (g : Header). weight_of g book.pair) of.credit.session ∙ ap (weight_of h) (sym pair) in
    let fits : Fits h S now table.lines weight = record { orders = now_orders; lines = of.credit.lines; weighs = weight_is } in
    let its : MaySend sender.bank command h S = subst (λ b. MaySend b command h S) (sym owner) may in
    let count : sender.number ≡ count_of S sender.bank + 1 = next.number in
    record {
      sound = of.sound;
      orders = now_orders;
      next = next;
      step = record {
        command = its.allowed;
        number = count;
        number_most = omega (arith, count, its.number);
        outcome = answers h S of.sound fits next;
      };
    }

-- the entry that is made of it
pub made-entry : (sender : Sender) (bank : ℕ) (command : Command) (outcome : Outcome) → sender.bank ≡ bank → entry_of sender command outcome ≡ record { bank = bank; number = sender.number; command = command; outcome = outcome }
made-entry sender bank command outcome is =
    ap (λ b. let e : Entry = record { bank = b; number = sender.number; command = command; outcome = outcome } in e) is

-- it is the next one of the bank
pub next-made : (S : State) (sender : Sender) (bank : ℕ) (command : Command) (outcome : Outcome) → sender.bank ≡ bank → IsNextIn S sender → entry_of sender command outcome ≡ next_entry S bank command outcome
next-made S sender bank command outcome is next =
    made-entry sender bank command outcome is
    ∙ ap (λ n. let e : Entry = record { bank = bank; number = n; command = command; outcome = outcome } in e) (next.number ∙ ap (λ b. count_of S b + 1) is)
