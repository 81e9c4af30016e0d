-- What the words asked for was done, and the status told.
use Rattle.program_calls.specs.Headline.{IsHeadline, IsSerial}
use Rattle.program_calls.specs.TopCall.{IsOutputOf}
use Rattle.program_calls.proofs.TopCallLaws.{session_did, told_usage}
use Rattle.program_calls.proofs.CheckLaws.{check_did}
use Rattle.program_calls.proofs.LoadLaws.{load_did}
use Rattle.program_calls.specs.Check.{SaysYes}
use Rattle.program_calls.specs.Payments.{IsPaymentsOf}
use Rattle.program_calls.specs.Clients.{IsClientsTextOf}
use Rattle.program_calls.specs.Watch.{IsWatchedOf}
use Rattle.fx_cli.proofs.top.fx_main.Goals as goal

pub returns : goal.returns
returns g c = record {
  answered = record {
    usage = told_usage c.follow-status.result c.tell.result c.tell.ensures.same c.follow-status.ensures.usage (λ other. (c.follow-status.ensures.other other).usage);
    untouched = λ other. ((c.follow-status.ensures.other other).unread, (c.follow-status.ensures.other other).unwritten);
    run = λ workers asked.
        session_did (IsOutputOf IsHeadline) g.S.Source.left g.S.Source.faults g.K.Sink.written g.K.Sink.faults c.args.source.now c.follow-status.new.source c.args.out.now c.follow-status.new.out
        c.follow-status.result c.tell.result (c.follow-status.ensures.run workers asked) c.tell.ensures.same;
    serial = λ asked.
        session_did (IsOutputOf IsSerial) g.S.Source.left g.S.Source.faults g.K.Sink.written g.K.Sink.faults c.args.source.now c.follow-status.new.source c.args.out.now c.follow-status.new.out
        c.follow-status.result c.tell.result (c.follow-status.ensures.serial asked) c.tell.ensures.same;
    check = λ asked.
        check_did SaysYes g.S.Source.left g.S.Source.faults g.K.Sink.written g.K.Sink.faults c.args.source.now c.follow-status.new.source c.args.out.now c.follow-status.new.out
        c.follow-status.result c.tell.result (c.follow-status.ensures.check asked) c.tell.ensures.same;
    load = λ seed banks pairs commands workers asked.
        load_did g.K.Sink.written g.K.Sink.faults seed banks pairs commands c.args.source.now c.follow-status.new.source c.args.out.now c.follow-status.new.out
        c.follow-status.result c.tell.result (c.follow-status.ensures.unread seed banks pairs commands workers asked) (c.follow-status.ensures.load seed banks pairs commands workers asked) c.tell.ensures.same;
    payments = λ form asked.
        check_did (IsPaymentsOf form) g.S.Source.left g.S.Source.faults g.K.Sink.written g.K.Sink.faults c.args.source.now c.follow-status.new.source c.args.out.now c.follow-status.new.out
        c.follow-status.result c.tell.result (c.follow-status.ensures.payments form asked) c.tell.ensures.same;
    clients = λ asked.
        session_did IsClientsTextOf g.S.Source.left g.S.Source.faults g.K.Sink.written g.K.Sink.faults c.args.source.now c.follow-status.new.source c.args.out.now c.follow-status.new.out
        c.follow-status.result c.tell.result (c.follow-status.ensures.clients asked) c.tell.ensures.same;
    watch = λ asked.
        session_did IsWatchedOf g.S.Source.left g.S.Source.faults g.K.Sink.written g.K.Sink.faults c.args.source.now c.follow-status.new.source c.args.out.now c.follow-status.new.out
        c.follow-status.result c.tell.result (c.follow-status.ensures.watch asked) c.tell.ensures.same;
    standard_error = c.tell.ensures.err;
  };
}
