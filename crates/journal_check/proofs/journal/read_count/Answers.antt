use Rattle.journal_check.proofs.JournalLemmas.{count_stopped, count_wrong, count_right}
use Rattle.journal_check.proofs.journal.read_count.Goals as goal

pub returns-in-Err-clause-answers : goal.returns-in-Err-clause-answers
returns-in-Err-clause-answers c = count_stopped c.args.text.now c.args.at c.in-Err.stop c.in-Err.ensures

pub returns-in_default-clause-answers : goal.returns-in_default-clause-answers
returns-in_default-clause-answers c = count_wrong c.args.text.now c.args.at c.in-Ok.read c.in-Ok.ensures c.in_default.ensures.value

pub returns-clause-answers : goal.returns-clause-answers
returns-clause-answers c = count_right c.args.text.now c.args.at c.in-Ok.read c.in-Some.entries c.in-Ok.ensures c.in-Some.ensures.value
