use Rattle.journal_check.proofs.Exactly.{other}
use Rattle.journal_check.proofs.read.check_read.Goals as goal

pub returns-in-Ok : goal.returns-in-Ok
returns-in-Ok c = record { read = c.read_of.ensures.read c.args.bytes.now c.in-Ok.ensures }

pub returns-in-Err-Wrong : goal.returns-in-Err-Wrong
returns-in-Err-Wrong c = record { read = let wrong = rw c.in-Err-Wrong.field-0-is at c.in-Err-Wrong.ensures in (wrong, other c.args.bytes.now c.in-Err-Wrong.offset wrong) }
