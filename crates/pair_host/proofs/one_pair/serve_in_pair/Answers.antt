-- The command with its answer is the step of each state that the book and the table are of; then both are of the state after it.
use Rattle.std.proofs.Common.{◌≡◌, ap, subst, ◌∙◌}
use Rattle.fx_rules.specs.Session.{weight_of}
use Rattle.fx_rules.specs.State.{orders_in}
use Rattle.fx_rules.specs.Step.{changed}
use Rattle.fx_rules.specs.History.{IsStep}
use Rattle.global_book.specs.Book.{Book}
use Rattle.credit_lines.specs.Credit.{Credit}
use Rattle.fx_rules.specs.declared.sender.Sender.{Sender}
use Rattle.pair_host.specs.Answers.{AnswersEach}
use Rattle.pair_host.specs.Carries.{IsStepOf}
use Rattle.pair_host.proofs.OnePair.{step-of, made-entry, next-made}
use Rattle.pair_host.proofs.one_pair.serve_in_pair.Goals as goal

pub returns-clause-serves : goal.returns-clause-serves
returns-clause-serves c h S of may =
    let sender : Sender = c.sender-sender.result in
    let now : Book = c.reserve.new.book in
    let owner : sender.bank ≡ c.args.bank = ap (λ (s : Sender). s.bank) c.sender-sender.ensures.value in
    let answers : AnswersEach now c.args.table.now.lines c.weight-weight.result sender c.args.command.now c.in_ok-outcome.outcome =
    subst (λ (credit : Credit). AnswersEach now credit c.weight-weight.result sender c.args.command.now c.in_ok-outcome.outcome) c.lines.ensures.value c.in_ok-outcome.ensures.answers in
    let next = c.sender-sender.ensures.next h S of.credit in
    let its : IsStepOf h S now sender c.args.command.now c.in_ok-outcome.outcome =
    step-of h S c.args.book.now now c.args.table.now c.weight-weight.result sender c.args.bank c.args.command.now c.in_ok-outcome.outcome of may c.reserve.ensures.orders c.reserve.ensures.pair
    (c.weight-weight.ensures.value ∙ ap (weight_of c.args.table.now.session) c.pair.ensures.value) c.sender-sender.ensures.value next answers in (
      subst (IsStep h S) (next-made S sender c.args.bank c.args.command.now c.in_ok-outcome.outcome owner next) its.step,
      c.carry_out.ensures.follows h S its ∙ ap (λ b. orders_in c.carry_out.new.book.pair (changed S b c.args.command.now c.in_ok-outcome.outcome).orders) owner,
      c.follow.ensures.follows h S of.sound of.credit (subst (IsStep h S) (made-entry sender c.args.bank c.args.command.now c.in_ok-outcome.outcome owner) its.step),
    )
