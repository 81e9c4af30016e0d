use Rattle.std.proofs.Common.{arith, ◌++◌, ◌∷◌, []}
use Rattle.client_desk.specs.Clients.{entries_of, tag}
use Rattle.output_trials.proofs.ClientDays.{entry_behind, stands-on, tagged-on}
use Rattle.output_trials.proofs.client_days.carry_out.Goals as goal

pub apply-requires : goal.apply-requires
apply-requires g c =
    let day = c.requires.day in
    record {
      may_send = (
        c.args.session.now,
        entries_of day.tagged,
        day.known.tagged_is.legal,
        day.stood,
        record { allowed = c.requires.sent.command; number = omega (arith, c.count-before.ensures.count c.args.session.now (entries_of day.tagged) day.known.tagged_is.legal day.stood) },
      );
    }

pub record-requires : goal.record-requires
record-requires g c =
    let day = c.requires.day in
    record {
      next = (
        c.args.session.now,
        day.tagged,
        day.known,
        tagged-on g.M.Market.stands c.args.session.now c.args.market.now c.args.book.now day c.apply.new.self c.args.who c.args.sent.bank c.count-before.result c.args.sent.command c.in_ok-outcome.outcome
            c.count-before.ensures.count c.in_ok-outcome.ensures.goes_on c.requires.client (c.requires.passed c.args.session.now day.tagged day.known),
      );
    }

pub returns : goal.returns
returns g c =
    let day = c.requires.day in
    record {
      day = record {
        tagged = day.tagged ++ tag c.args.who (entry_behind c.args.sent.bank c.count-before.result c.args.sent.command c.in_ok-outcome.outcome) ∷ [];
        stood = stands-on g.M.Market.stands c.args.session.now c.args.market.now c.args.book.now day c.apply.new.self c.args.who c.args.sent.bank c.count-before.result c.args.sent.command c.in_ok-outcome.outcome
            c.count-before.ensures.count c.in_ok-outcome.ensures.goes_on;
        known = c.in_ok-record.ensures.recorded c.args.session.now day.tagged day.known
            (tagged-on g.M.Market.stands c.args.session.now c.args.market.now c.args.book.now day c.apply.new.self c.args.who c.args.sent.bank c.count-before.result c.args.sent.command c.in_ok-outcome.outcome
            c.count-before.ensures.count c.in_ok-outcome.ensures.goes_on c.requires.client (c.requires.passed c.args.session.now day.tagged day.known));
      };
    }
