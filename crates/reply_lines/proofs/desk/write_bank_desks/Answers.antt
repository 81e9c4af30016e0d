-- Each turn writes one bank's desk behind those so far.
use Rattle.std.proofs.Common.{◌<◌, arith, ap, length}
use Rattle.fx_rules.proofs.Senders.{bank-sender}
use Rattle.reply_lines.specs.Notices.{desk_text}
use Rattle.reply_lines.proofs.Outputs.{place_kept, places_of, places_of_cut}
use Rattle.reply_lines.proofs.Placing.{banks-placed}
use Rattle.reply_lines.proofs.desk.write_bank_desks.Goals as goal

pub write_sender-requires : goal.write_sender-requires
write_sender-requires g c =
    let within : c.at.result < length c.args.session.now.banks = omega (arith, c.at.ensures.value, c.loop-place-test.true, ap length c.banks-place-end.ensures.value) in
    record {
      sender = bank-sender c.args.session.now c.at.result within;
      place = omega (arith, within, c.requires.desks, banks-placed c.args.session.now c.banks-place-end.ensures.valid);
    }

pub returns-in_err-write_sender : goal.returns-in_err-write_sender
returns-in_err-write_sender g c = record {
  wrote = λ entries are. places_of_cut (desk_text c.args.session.now entries) c.from_residual.result c.from_residual.ensures.1 c.at.ensures.value c.loop-place-test.true c.banks-place-end.ensures.value
      (c.loop-place.invariant entries are) (c.in_err-write_sender.ensures.wrote entries are);
}

pub loop-place-preserved : goal.loop-place-preserved
loop-place-preserved g c = λ entries are. place_kept (desk_text c.args.session.now entries) c.loop-place.place c.at.ensures.value (c.loop-place.invariant entries are) (c.in_ok-write_sender.ensures.wrote entries are)

pub returns : goal.returns
returns g c = record { wrote = λ entries are. places_of (desk_text c.args.session.now entries) c.loop-place-test.false c.loop-place.auto.place-end c.banks-place-end.ensures.value (c.loop-place.invariant entries are) }
