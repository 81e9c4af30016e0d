use Rattle.std.proofs.Common.{◌≡◌, ◌^◌, ◌<◌, length, get_or, refl, ap, ◌∙◌, arith}
use Rattle.std.proofs.lemmas.Int.{ints}
use Rattle.std.proofs.lemmas.List.{get_or_read}
use Rattle.day_report.specs.Table.{sum_at}
use Rattle.day_report.proofs.Listing.{map-step, net-made}
use Rattle.day_report.proofs.flows.Flows.push_nets.Goals as goal

pub loop-column-preserved : goal.loop-column-preserved
loop-column-preserved c =
    let codes = c.args.self.now.currencies.codes.items in
    let same : c.deref-code-items.result.now ≡ codes = c.deref-code-items.ensures.value in
    let within : c.loop-column.column < length codes = omega (arith, ap length same, c.loop-column-test.true) in
    let read : c.code-item.result ≡ get_or codes c.loop-column.column c.code-item.result = c.code-item.is ∙ ap (λ cs. get_or cs c.loop-column.column c.code-item.result) same in
    let got : sum_at c.args.self.now.received c.args.bank c.loop-column.column < 2 ^ 127 = c.requires.fit.got.most c.args.bank c.loop-column.column c.requires.within within in
    let gave : sum_at c.args.self.now.paid c.args.bank c.loop-column.column < 2 ^ 127 = c.requires.fit.gave.most c.args.bank c.loop-column.column c.requires.within within in
    map-step _ c.loop-column.column _ _ _ _ c.loop-column.invariant c.in_ok-push.ensures.items
    (net-made c.args.self.now c.args.bank c.loop-column.column _ _ _ refl (get_or_read codes c.loop-column.column c.code-item.result within read _)
    (omega (
      arith,
      ints,
      c.at-received.ensures ∙ ap (λ b. sum_at c.args.self.now.received b c.loop-column.column) c.index.ensures.value,
      c.at-paid.ensures ∙ ap (λ b. sum_at c.args.self.now.paid b c.loop-column.column) c.index-in-loop-column.ensures.value,
    )))
