-- The status is that of the answer.
use Rattle.std.proofs.Common.{inl}
use Rattle.program_calls.proofs.keeping.follow_kept.Goals as goal

pub returns-in-Keep-clause-keep : goal.returns-in-Keep-clause-keep
returns-in-Keep-clause-keep g c = λ task. record { answer = c.keep.result; did = c.keep.ensures.did; status_is = inl c.kept_status.ensures }

pub returns-in-Restart-clause-restart : goal.returns-in-Restart-clause-restart
returns-in-Restart-clause-restart g c = λ task. record { answer = c.restart.result; did = c.restart.ensures.did; status_is = inl c.kept_status-in-Restart.ensures }
