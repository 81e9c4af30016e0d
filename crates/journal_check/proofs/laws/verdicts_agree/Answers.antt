use Rattle.journal_check.proofs.Agreeing as laws
use Rattle.journal_check.proofs.laws.verdicts_agree.Goals as goal

pub returns : goal.returns
returns c = record { agree = laws.verdicts_agree }
