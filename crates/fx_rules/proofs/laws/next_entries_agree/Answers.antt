use Rattle.fx_rules.proofs.Continuing.{next-same}
use Rattle.fx_rules.proofs.laws.next_entries_agree.Goals as goal

pub returns : goal.returns
returns c = record { agree = next-same }
