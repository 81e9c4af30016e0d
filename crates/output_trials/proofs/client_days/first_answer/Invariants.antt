use Rattle.output_trials.specs.inside.ClientDays.{IsClientDay}
use Rattle.output_trials.proofs.client_days.first_answer.Given as goal

-- one history led the market and the book to where they stand
abbrev pub invariant-loop-line : goal.invariant-loop-line
invariant-loop-line g l = IsClientDay g.M.Market.stands l.session l.market l.book
