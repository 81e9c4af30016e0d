use Rattle.journal_check.proofs.Exactly.{other_of}
use Rattle.journal_check.proofs.read.read_of.Goals as goal

pub returns-in-No : goal.returns-in-No
returns-in-No c = record { read = λ text is. other_of text c.in-No.offset c.args.judged.verdict c.in-No.is is.is_verdict }
