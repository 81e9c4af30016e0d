-- The last line of the output of a text, by how that ended.
use Rattle.reply_lines.specs.declared.output.Ending.{Ending}
use Rattle.reply_lines.specs.declared.output.Ending.TheVariants as endings
use Rattle.session_script.specs.declared.ends.EarlyEnd.TheVariants as early
use Rattle.session_script.specs.declared.ends.TextEnd.{TextEnd}
use Rattle.session_script.specs.declared.ends.TextEnd.TheVariants.{EndLine, Early}

abbrev pub ending_of : TextEnd → Ending
ending_of EndLine = endings.End
ending_of (Early early.Cut) = endings.Cut
ending_of (Early early.ReadFault) = endings.Read
ending_of (Early early.TooMuch) = endings.Much
