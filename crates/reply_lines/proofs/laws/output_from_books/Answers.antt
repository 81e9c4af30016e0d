use Rattle.reply_lines.proofs.Singly as laws
use Rattle.reply_lines.proofs.laws.output_from_books.Goals as goal

pub returns : goal.returns
returns c = record { agree = laws.output_from_books }
