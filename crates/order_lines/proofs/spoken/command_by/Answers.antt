-- What the fields of a sender say is in range.
use Rattle.std.proofs.Common.{subst, sym, ap, ◌∙◌}
use Rattle.fx_rules.specs.Step.{IsCommand}
use Rattle.order_lines.specs.Grammar.{or_bad}
use Rattle.order_lines.proofs.SaidLines.{said-in_range}
use Rattle.order_lines.proofs.spoken.command_by.Goals as goal

pub returns-clause-range : goal.returns-clause-range
returns-clause-range c = λ sends.
    subst (IsCommand c.args.session.now c.args.sender) (sym (c.command_or_bad.ensures ∙ ap or_bad c.read_command.ensures)) (said-in_range c.args.session.now c.args.sender c.args.fields.now sends)
