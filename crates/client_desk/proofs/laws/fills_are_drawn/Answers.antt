use Rattle.client_desk.proofs.Draws.{fills-drawn}
use Rattle.client_desk.proofs.laws.fills_are_drawn.Goals as goal

pub returns : goal.returns
returns c = record { drawn = fills-drawn }
