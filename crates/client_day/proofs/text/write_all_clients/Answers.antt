-- Each turn writes one client's part behind those so far.
use Rattle.std.proofs.Common.{◌≡◌, ◌<◌, ℕ, List, arith, sym, subst, flat_map, length}
use Rattle.std.proofs.lemmas.List.{get_or_read}
use Rattle.fx_edges.specs.Gathered.{Kept}
use Rattle.fx_edges.proofs.Gathering.{Gathered-from_Kept, Kept-append}
use Rattle.fx_rules.specs.Lists.{below}
use Rattle.fx_rules.proofs.Below.{flat_map-more}
use Rattle.reply_lines.specs.Desks.{nothing_yet}
use Rattle.reply_lines.proofs.Outputs.{cut_at}
use Rattle.reply_lines.proofs.Parts.{places-prefix}
use Rattle.client_day.specs.inside.Days.{IsToldOf}
use Rattle.client_day.specs.Text.{client_part}
use Rattle.client_day.proofs.text.write_all_clients.Goals as goal

pub write_client-requires : goal.write_client-requires
write_client-requires g c =
    let told = c.requires.told in
    let within : c.loop-place.place < length c.args.book.now.clients = omega (arith, c.loop-place-test.true, told.1.count) in
    record {
      client = within;
      told = (told.0, subst (IsToldOf c.args.session.now told.0 c.args.book.now c.loop-place.place) (sym (get_or_read c.args.desks.now c.loop-place.place c.index-desks-place.result (omega (arith, c.loop-place-test.true)) c.index-desks-place.is nothing_yet)) (told.1.each c.loop-place.place within));
    }

pub returns-in_err-write_client : goal.returns-in_err-write_client
returns-in_err-write_client g c =
    record {
      wrote = λ events told.
          let within : c.loop-place.place < length c.args.book.now.clients = omega (arith, c.loop-place-test.true, told.count) in
          let here = subst (IsToldOf c.args.session.now events c.args.book.now c.loop-place.place) (sym (get_or_read c.args.desks.now c.loop-place.place c.index-desks-place.result (omega (arith, c.loop-place-test.true)) c.index-desks-place.is nothing_yet)) (told.each c.loop-place.place within) in
          cut_at c.from_residual.result c.from_residual.ensures.1 (c.loop-place.invariant events told) (c.in_err-write_client.ensures.wrote events here)
          (places-prefix (client_part c.args.session.now c.args.book.now.clients events) c.loop-place.place (length c.args.book.now.clients) within);
    }

pub loop-place-preserved : goal.loop-place-preserved
loop-place-preserved g c =
    λ events told.
    let within : c.loop-place.place < length c.args.book.now.clients = omega (arith, c.loop-place-test.true, told.count) in
    let here = subst (IsToldOf c.args.session.now events c.args.book.now c.loop-place.place) (sym (get_or_read c.args.desks.now c.loop-place.place c.index-desks-place.result (omega (arith, c.loop-place-test.true)) c.index-desks-place.is nothing_yet)) (told.each c.loop-place.place within) in
    subst (λ (text : List ℕ). Kept g.K.Sink.written g.K.Sink.faults c.args.pieces.now c.args.out.now c.write_client.new.pieces c.write_client.new.out text) (sym (flat_map-more (client_part c.args.session.now c.args.book.now.clients events) c.loop-place.place))
    (Kept-append (c.loop-place.invariant events told) (c.in_ok-write_client.ensures.wrote events here).ok)

pub returns : goal.returns
returns g c = record {
  wrote = λ events told.
      let end : c.loop-place.place ≡ length c.args.book.now.clients = omega (arith, c.loop-place-test.false, c.loop-place.auto.place-end, told.count) in
      Gathered-from_Kept tt
      (subst (λ n. Kept g.K.Sink.written g.K.Sink.faults c.args.pieces.now c.args.out.now c.loop-place.pieces c.loop-place.out (flat_map (client_part c.args.session.now c.args.book.now.clients events) (below n))) end (c.loop-place.invariant events told));
}
