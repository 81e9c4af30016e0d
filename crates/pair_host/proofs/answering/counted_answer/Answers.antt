-- Each answer is the market's.
use Rattle.std.proofs.Common.{Result, Ok, Err, IfOk, ap, ◌∙◌}
use Rattle.fx_amounts.specs.declared.memory.Memory.{Memory}
use Rattle.fx_rules.specs.declared.outcome.Outcome.{Outcome}
use Rattle.fx_rules.specs.Step.{cancel_answer, reduce_answer}
use Rattle.local_view.specs.LocalBook.{IsLocalBook}
use Rattle.pair_host.specs.Answers.{AnswersEach}
use Rattle.pair_host.proofs.Answered.{cancel-answers, reduce-answers, book-answers}
use Rattle.pair_host.proofs.answering.counted_answer.Goals as goal

if_ok : (r : Result Outcome Memory) (P Q : Outcome → Type 0) → ((outcome : Outcome) → P outcome → Q outcome) → IfOk r P → IfOk r Q
if_ok (Ok outcome) P Q step h = step outcome h
if_ok (Err e) P Q step h = tt

pub returns-in-Cancel : goal.returns-in-Cancel
returns-in-Cancel g c = record {
  answers = cancel-answers c.args.book.now c.args.lines.now c.args.weight c.args.sender.now c.in-Cancel.pair c.in-Cancel.number c.args.command.now c.cancel_answer.result
      c.in-Cancel.is c.requires.pair (c.cancel_answer.ensures.value ∙ ap cancel_answer c.find.ensures.order);
}

pub returns-in-Reduce : goal.returns-in-Reduce
returns-in-Reduce g c = record {
  answers = reduce-answers c.args.book.now c.args.lines.now c.args.weight c.args.sender.now c.in-Reduce.pair c.in-Reduce.number c.in-Reduce.lots c.args.command.now c.reduce_answer.result
      c.in-Reduce.is c.requires.pair (c.reduce_answer.ensures.value ∙ ap (reduce_answer c.in-Reduce.lots) c.find-in-Reduce.ensures.order);
}

pub returns-in-Book : goal.returns-in-Book
returns-in-Book g c = record {
  answers = if_ok c.depth.result (IsLocalBook c.args.book.now c.args.lines.now c.args.weight c.args.sender.now.bank) (AnswersEach c.args.book.now c.args.lines.now c.args.weight c.args.sender.now c.args.command.now)
      (λ outcome is. book-answers c.args.book.now c.args.lines.now c.args.weight c.args.sender.now c.in-Book.pair c.args.command.now outcome
      c.requires.arrival c.in-Book.is c.requires.pair is)
      c.depth.ensures.sound;
}
