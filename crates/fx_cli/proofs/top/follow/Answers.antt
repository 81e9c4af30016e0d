-- Where there is no memory for the words, nothing was begun.
use Rattle.std.proofs.Common.{refl}
use Rattle.program_calls.specs.Headline.{IsHeadline, IsSerial}
use Rattle.program_calls.specs.TopCall.{IsOutputOf}
use Rattle.program_calls.proofs.TopCallLaws.{not_begun}
use Rattle.program_calls.proofs.CheckLaws.{check_not_begun}
use Rattle.program_calls.specs.Check.{SaysYes}
use Rattle.program_calls.specs.Payments.{IsPaymentsOf}
use Rattle.program_calls.specs.Clients.{IsClientsTextOf}
use Rattle.program_calls.specs.Watch.{IsWatchedOf}
use Rattle.fx_cli.proofs.top.follow.Goals as goal

pub returns-in-Err-Memory-clause-run : goal.returns-in-Err-Memory-clause-run
returns-in-Err-Memory-clause-run g c = λ workers asked.
    not_begun (IsOutputOf IsHeadline) g.S.Source.left g.S.Source.faults g.K.Sink.written g.K.Sink.faults c.args.source.now c.args.source.now c.args.out.now c.args.out.now refl refl

pub returns-in-Err-Memory-clause-serial : goal.returns-in-Err-Memory-clause-serial
returns-in-Err-Memory-clause-serial g c = λ asked.
    not_begun (IsOutputOf IsSerial) g.S.Source.left g.S.Source.faults g.K.Sink.written g.K.Sink.faults c.args.source.now c.args.source.now c.args.out.now c.args.out.now refl refl

pub returns-in-Err-Memory-clause-check : goal.returns-in-Err-Memory-clause-check
returns-in-Err-Memory-clause-check g c = λ asked.
    check_not_begun SaysYes g.S.Source.left g.S.Source.faults g.K.Sink.written g.K.Sink.faults c.args.source.now c.args.source.now c.args.out.now c.args.out.now refl refl

pub returns-in-Err-Memory-clause-payments : goal.returns-in-Err-Memory-clause-payments
returns-in-Err-Memory-clause-payments g c = λ form asked.
    check_not_begun (IsPaymentsOf form) g.S.Source.left g.S.Source.faults g.K.Sink.written g.K.Sink.faults c.args.source.now c.args.source.now c.args.out.now c.args.out.now refl refl

pub returns-in-Err-Memory-clause-clients : goal.returns-in-Err-Memory-clause-clients
returns-in-Err-Memory-clause-clients g c = λ asked.
    not_begun IsClientsTextOf g.S.Source.left g.S.Source.faults g.K.Sink.written g.K.Sink.faults c.args.source.now c.args.source.now c.args.out.now c.args.out.now refl refl

pub returns-in-Err-Memory-clause-watch : goal.returns-in-Err-Memory-clause-watch
returns-in-Err-Memory-clause-watch g c = λ asked.
    not_begun IsWatchedOf g.S.Source.left g.S.Source.faults g.K.Sink.written g.K.Sink.faults c.args.source.now c.args.source.now c.args.out.now c.args.out.now refl refl
