use Rattle.client_desk.proofs.Sides.{sides-have-one}
use Rattle.client_desk.proofs.laws.sides_have_one_entry.Goals as goal

pub returns : goal.returns
returns c = record { one = sides-have-one }
