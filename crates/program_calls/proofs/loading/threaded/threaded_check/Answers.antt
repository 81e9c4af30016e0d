-- The history of the threads is as long as what was sent.
use Rattle.std.proofs.Common.{List, length, ap, arith}
use Rattle.fx_rules.specs.declared.outcome.Entry.{Entry}
use Rattle.fx_chronicle.proofs.Streams.{streams-length}
use Rattle.program_calls.proofs.loading.threaded.threaded_check.Goals as goal

pub check_history-requires-clause-few : goal.check_history-requires-clause-few
check_history-requires-clause-few g c =
    omega (arith, c.requires.few, streams-length c.args.sent.now c.in_ok-history.history.items c.in_ok-history.ensures.streams, ap (λ (es : List Entry). length es) c.deref.ensures.value)

pub returns-clause-entries : goal.returns-clause-entries
returns-clause-entries g c =
    omega (arith, streams-length c.args.sent.now c.in_ok-history.history.items c.in_ok-history.ensures.streams)
