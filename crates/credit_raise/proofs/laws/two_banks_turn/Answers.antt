use Rattle.credit_raise.proofs.Meeting.{turned-two}
use Rattle.credit_raise.proofs.laws.two_banks_turn.Goals as goal

pub returns : goal.returns
returns c = record { turn = turned-two }
