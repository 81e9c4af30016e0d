-- The host and the book open behind the empty history.
use Rattle.std.proofs.Common.{[]}
use Rattle.output_trials.proofs.client_days.first_wrong.Goals as goal

pub first_answer-requires : goal.first_answer-requires
first_answer-requires c = record { day = record { tagged = []; stood = c.in_ok-host.ensures.opens; known = c.in_ok-book.ensures.opens } }
