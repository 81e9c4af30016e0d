use Rattle.reply_lines.proofs.ToldTexts as laws
use Rattle.reply_lines.proofs.laws.desks_are_told.Goals as goal

pub returns : goal.returns
returns c = record { agree = laws.desks_are_told }
