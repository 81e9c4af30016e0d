use Rattle.std.proofs.Common.{◌∙◌}
use Rattle.reply_lines.proofs.Outputs.{of_text}
use Rattle.reply_lines.proofs.lines.write_count.Goals as goal

pub returns : goal.returns
returns g c = record { wrote = of_text (c.as_slice.ensures.bytes ∙ c.make_count.ensures) c.put.ensures.gathered }
