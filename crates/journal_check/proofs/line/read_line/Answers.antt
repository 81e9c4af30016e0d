use Rattle.std.proofs.Common.{refl}
use Rattle.journal_check.specs.inside.Stops.{TooLong}
use Rattle.journal_check.proofs.line.read_line.Goals as goal

pub returns-then-part-gt-MOST_BYTES : goal.returns-then-part-gt-MOST_BYTES
returns-then-part-gt-MOST_BYTES c = TooLong c.in-Some.part.now c.in-Some.ensures c.if-part-gt-MOST_BYTES.true refl
