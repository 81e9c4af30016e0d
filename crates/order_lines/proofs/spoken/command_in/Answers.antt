use Rattle.std.proofs.Common.{◌∙◌}
use Rattle.fx_text.specs.Lines.{line_seen}
use Rattle.order_lines.proofs.SaidLines.{IfSent-command_line, command_line-spelled}
use Rattle.order_lines.proofs.spoken.command_in.Goals as goal

pub returns-clause-sender : goal.returns-clause-sender
returns-clause-sender c = IfSent-command_line c.args.session.now (line_seen c.args.line.now) c.spoken_by.result c.banks-banks.ensures.valid c.spoken_by.ensures _ (λ sender command sent. sent.sends)

pub returns-clause-range : goal.returns-clause-range
returns-clause-range c = IfSent-command_line c.args.session.now (line_seen c.args.line.now) c.spoken_by.result c.banks-banks.ensures.valid c.spoken_by.ensures _ (λ sender command sent. sent.in_range)

pub returns-clause-spelling : goal.returns-clause-spelling
returns-clause-spelling c = IfSent-command_line c.args.session.now (line_seen c.args.line.now) c.spoken_by.result c.banks-banks.ensures.valid c.spoken_by.ensures _ (λ sender command sent. sent.spelled)

pub returns-clause-spelled : goal.returns-clause-spelled
returns-clause-spelled c = λ sender command range good spelled.
    c.spoken_by.ensures ∙ command_line-spelled c.args.session.now (line_seen c.args.line.now) sender command c.banks-banks.ensures.valid range good spelled
