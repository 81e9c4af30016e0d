use Rattle.std.proofs.Common.{◌∙◌}
use Rattle.fx_text.specs.Lines.{line_seen}
use Rattle.order_lines.proofs.SaidLines.{IfSome-journal_line, journal_line-spelled}
use Rattle.order_lines.proofs.spoken.journal_in.Goals as goal

pub returns-clause-sender : goal.returns-clause-sender
returns-clause-sender c = IfSome-journal_line c.args.session.now (line_seen c.args.line.now) c.recorded_by.result c.banks-banks.ensures.valid c.recorded_by.ensures _ (λ sender command recorded. recorded.sends)

pub returns-clause-range : goal.returns-clause-range
returns-clause-range c = IfSome-journal_line c.args.session.now (line_seen c.args.line.now) c.recorded_by.result c.banks-banks.ensures.valid c.recorded_by.ensures _ (λ sender command recorded. recorded.in_range)

pub returns-clause-spelling : goal.returns-clause-spelling
returns-clause-spelling c = IfSome-journal_line c.args.session.now (line_seen c.args.line.now) c.recorded_by.result c.banks-banks.ensures.valid c.recorded_by.ensures _ (λ sender command recorded. recorded.spelled)

pub returns-clause-spelled : goal.returns-clause-spelled
returns-clause-spelled c = λ sender command range spelled.
    c.recorded_by.ensures ∙ journal_line-spelled c.args.session.now (line_seen c.args.line.now) sender command c.banks-banks.ensures.valid range spelled
