use Rattle.net_settle.proofs.Reading.{due-within}
use Rattle.net_settle.proofs.dues.Dues.due.Goals as goal

pub at-requires : goal.at-requires
at-requires c = due-within c.args.self.now c.args.a c.args.b c.args.column c.row_of.result c.requires.places c.requires.a c.requires.b c.requires.column c.row_of.ensures.value
