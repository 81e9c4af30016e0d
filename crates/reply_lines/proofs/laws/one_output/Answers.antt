use Rattle.reply_lines.proofs.Singly as laws
use Rattle.reply_lines.proofs.laws.one_output.Goals as goal

pub returns : goal.returns
returns c = record { agree = laws.one_output }
