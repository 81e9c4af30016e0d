use Rattle.journal_check.specs.declared.check.Verdict.TheVariants.{No}
use Rattle.journal_check.proofs.Exactly.{sound, complete}
use Rattle.journal_check.proofs.check.check_output.Goals as goal

pub returns-in-Ok-clause-sound : goal.returns-in-Ok-clause-sound
returns-in-Ok-clause-sound c = sound c.args.bytes.now c.in-Ok.judged.verdict c.in-Ok.ensures.is_verdict

pub returns-in-Ok-clause-complete : goal.returns-in-Ok-clause-complete
returns-in-Ok-clause-complete c = complete c.args.bytes.now c.in-Ok.judged.verdict c.in-Ok.ensures.is_verdict

pub returns-in-Err-Wrong-clause-complete : goal.returns-in-Err-Wrong-clause-complete
returns-in-Err-Wrong-clause-complete c = complete c.args.bytes.now (No c.in-Err-Wrong.offset) (rw c.in-Err-Wrong.field-0-is at c.in-Err-Wrong.ensures)
