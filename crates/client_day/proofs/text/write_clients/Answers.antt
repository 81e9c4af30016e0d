-- The output, and behind it what the clients have and were told.
use Rattle.std.proofs.Common.{sym, subst}
use Rattle.market_run.proofs.Serving.{of-parts}
use Rattle.pair_host.specs.Standing.{stands}
use Rattle.client_day.specs.Days.{IsHanded}
use Rattle.client_desk.specs.Clients.{entries_of}
use Rattle.client_day.specs.inside.Days.{AreToldOf}
use Rattle.client_day.specs.Events.{tagged_in}
use Rattle.client_day.proofs.Written.{told-of, wrote_both, wrote_cut, wrote_short}
use Rattle.client_day.proofs.text.write_clients.Goals as goal

pub write-requires : goal.write-requires
write-requires g c =
    let h = c.args.session.now in
    let heard = c.requires.day.0 in
    let is = c.requires.day.1 in
    let entries = entries_of (tagged_in is.events) in
    let parts = of-parts stands IsHanded h c.args.day.run _ _ entries c.into_parts-market.ensures.market c.into_parts-market.ensures.observer is.behind.served in
    record { told = (entries, parts.0, c.of.ensures.told h entries is.behind.journal_is is.behind.told, parts.2) }

pub write_part-requires : goal.write_part-requires
write_part-requires g c = record { told = (c.requires.day.1.events, subst (AreToldOf c.args.session.now c.requires.day.1.events c.args.day.book) (sym c.deref.ensures.value) (told-of c.args.session.now c.requires.day.0 c.args.day c.requires.day.1)) }

pub returns-in_err-write : goal.returns-in_err-write
returns-in_err-write g c = record {
  wrote = λ heard is.
      let h = c.args.session.now in
      let entries = entries_of (tagged_in is.events) in
      let parts = of-parts stands IsHanded h c.args.day.run _ _ entries c.into_parts-market.ensures.market c.into_parts-market.ensures.observer is.behind.served in
      wrote_short h heard c.args.day c.args.ending is g.K.Sink.written g.K.Sink.faults c.args.out.now c.write.new.out c.write.new.out c.from_residual.result c.in_err-write.field-0.0 c.from_residual.ensures.1
      (c.in_err-write.ensures.wrote entries parts.0 (c.of.ensures.told h entries is.behind.journal_is is.behind.told) parts.2);
}

pub returns-in-Ok : goal.returns-in-Ok
returns-in-Ok g c = record {
  wrote = λ heard is.
      let h = c.args.session.now in
      let entries = entries_of (tagged_in is.events) in
      let parts = of-parts stands IsHanded h c.args.day.run _ _ entries c.into_parts-market.ensures.market c.into_parts-market.ensures.observer is.behind.served in
      wrote_both h heard c.args.day c.args.ending is g.K.Sink.written g.K.Sink.faults c.args.out.now c.write.new.out c.write_part.new.out
      (c.in_ok-write.ensures.wrote entries parts.0 (c.of.ensures.told h entries is.behind.journal_is is.behind.told) parts.2)
      (c.in-Ok.ensures.wrote is.events (subst (AreToldOf h is.events c.args.day.book) (sym c.deref.ensures.value) (told-of h heard c.args.day is)));
}

pub returns : goal.returns
returns g c = record {
  wrote = λ heard is.
      let h = c.args.session.now in
      let entries = entries_of (tagged_in is.events) in
      let parts = of-parts stands IsHanded h c.args.day.run _ _ entries c.into_parts-market.ensures.market c.into_parts-market.ensures.observer is.behind.served in
      wrote_cut h heard c.args.day c.args.ending is g.K.Sink.written g.K.Sink.faults c.args.out.now c.write.new.out c.write_part.new.out c.in-Err.fault c.from.result c.from.ensures
      (c.in_ok-write.ensures.wrote entries parts.0 (c.of.ensures.told h entries is.behind.journal_is is.behind.told) parts.2)
      (c.in-Err.ensures.wrote is.events (subst (AreToldOf h is.events c.args.day.book) (sym c.deref.ensures.value) (told-of h heard c.args.day is)));
}
