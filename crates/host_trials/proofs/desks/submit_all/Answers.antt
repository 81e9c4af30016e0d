use Rattle.std.proofs.Common.{rules, ◌≡◌, length, get_or, sym, ap, subst, ◌∙◌, arith}
use Rattle.fx_rules.specs.Session.{senders}
use Rattle.fx_rules.specs.Step.{IsCommand}
use Rattle.fx_chronicle.specs.Passes.{sender_at, place_among}
use Rattle.fx_chronicle.proofs.Places.{some-senders}
use Rattle.host_trials.proofs.Places.{sent-at, sender-at_place}
use Rattle.host_trials.proofs.desks.submit_all.Goals as goal

pub place_among-place-requires : goal.place_among-place-requires
place_among-place-requires g c = record { some = omega (arith, c.loop-next.invariant.count, c.requires.count, some-senders g.D.Desk.session c.requires.session) }

-- the pass at the sender's place is the sender's
pub submit_told-requires-clause-command : goal.submit_told-requires-clause-command
submit_told-requires-clause-command g c κs within =
    let h = g.D.Desk.session in
    let count : length c.loop-next.passes ≡ length (senders h) = c.loop-next.invariant.count ∙ c.requires.count in
    let there : sender_at h c.place_among-place.result ≡ c.next-item.result.bank =
    ap (sender_at h) (c.place_among-place.ensures.place ∙ ap (λ n. place_among n c.next-item.result.bank) count)
    ∙ sender-at_place h c.args.sent.now c.loop-next.next-index c.next-item.result c.requires.session c.requires.valid c.loop-next-test.true c.next-item.is in
    let its : IsCommand h c.next-item.result.bank c.next-item.result.command = (sent-at h c.args.sent.now c.loop-next.next-index c.next-item.result c.requires.valid c.loop-next-test.true c.next-item.is).command in
    let read : g.D.Desk.bank (get_or c.loop-next.passes c.place_among-place.result c.index-passes-place.result) ≡ c.next-item.result.bank =
    (c.loop-next.invariant.passes c.place_among-place.result c.index-passes-place.result c.place_among-place.ensures.within).0 ∙ there in
    let bank : g.D.Desk.bank c.index-passes-place.result ≡ c.next-item.result.bank = ap g.D.Desk.bank c.index-passes-place.is ∙ read in
    subst (λ (b : _). IsCommand h b c.next-item.result.command) (sym (search (rules, bank, read))) its
