use Rattle.journal_check.proofs.Exactly as laws
use Rattle.journal_check.proofs.laws.outputs_list.Goals as goal

pub returns : goal.returns
returns c = record { lists = laws.outputs_list }
