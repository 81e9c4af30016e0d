-- The line is made, or stands in the text behind those that do.
use Rattle.std.proofs.Common.{◌∙◌, ap, length}
use Rattle.journal_check.specs.declared.lines.ReadLines.{ReadLines}
use Rattle.journal_check.proofs.JournalLemmas.{line_made, line_read}
use Rattle.journal_check.proofs.lines.ReadLines.add.Goals.{then-self+in_ok-make, else-self+else-not-read}
use Rattle.journal_check.proofs.lines.ReadLines.add.Goals as goal

pub returns-clause-lines : goal.returns-clause-lines
returns-clause-lines c = elim c.if-self.branch [
  | then-self+in_ok-make w ↦ line_made c.if-self.self (length c.args.read.now.line.now) _ (ap (λ (l : ReadLines). l.is_made) w.self-is ∙ w.in_ok-make.ensures.made) (ap (λ (l : ReadLines). l.made.items) w.self-is ∙ w.in_ok-make.ensures.lines)
  | else-self+else-not-read w ↦ line_read c.args.session.now c.args.self.now c.if-self.self c.args.read.now w.if-self.false w.self-is c.requires.stands (c.requires.spelled w.if-not-read.false)
]
