-- The sender who is not the operator is a bank.
use Rattle.std.proofs.Common.{◌∙◌, sym}
use Rattle.order_lines.proofs.SenderNames.{sender-bank}
use Rattle.order_lines.proofs.sender.sender_name.Goals as goal

pub name-requires : goal.name-requires
name-requires c = sender-bank c.args.session.now c.args.sender c.requires (sym c.is_operator.ensures ∙ c.if-is_operator.false)
