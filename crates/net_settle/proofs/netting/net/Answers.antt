use Rattle.std.proofs.Common.{◌≡◌, ◌<◌, length, ap, arith}
use Rattle.fx_rules.specs.History.{state}
use Rattle.fx_rules.proofs.Trading.{legal-trades}
use Rattle.day_report.specs.Report.{currencies}
use Rattle.day_report.proofs.Trading.{legal-fits}
use Rattle.net_settle.proofs.Flows.{codes-stand}
use Rattle.net_settle.proofs.Netted.{netting-day, netting-few, netting-banks, netting-some, netting-sum, netting-least}
use Rattle.net_settle.proofs.Columns.{no-parts, one-part, all-parts, sums-fit}
use Rattle.net_settle.proofs.netting.net.Goals as goal

pub loop-column-init : goal.loop-column-init
loop-column-init c = no-parts c.in_ok-dues.dues _ c.new-payments.ensures.items

pub net_column-requires-clause-fit : goal.net_column-requires-clause-fit
net_column-requires-clause-fit c =
    let within : c.loop-column.column < length (currencies c.args.session.now) =
    omega (arith, c.loop-column-test.true, c.len-column-end.ensures, ap length c.in_ok-dues.ensures.value.currencies_are.codes_are) in
    sums-fit c.args.session.now (state c.args.session.now c.args.entries.now).fills c.in_ok-dues.dues c.loop-column.column c.in_ok-dues.ensures.value
    (legal-fits c.args.session.now c.args.entries.now c.requires.legal) within

pub loop-column-preserved : goal.loop-column-preserved
loop-column-preserved c =
    one-part c.in_ok-dues.dues c.loop-column.column c.loop-column.payments.items c.net_column.new.payments.items c.loop-column.invariant c.in_ok-net_column.ensures.walks

pub returns : goal.returns
returns c =
    let h = c.args.session.now in
    let S = state h c.args.entries.now in
    let dues = c.in_ok-dues.dues in
    let ps = c.loop-column.payments.items in
    let trades = legal-trades h c.args.entries.now c.requires.legal in
    let stand = codes-stand h dues.currencies c.in_ok-dues.ensures.value.currencies_are in
    let end : c.loop-column.column ≡ length (currencies h) =
    omega (arith, c.loop-column.auto.column-end, c.loop-column-test.false, c.len-column-end.ensures, ap length c.in_ok-dues.ensures.value.currencies_are.codes_are) in
    let netting = all-parts h S dues c.loop-column.column ps c.in_ok-dues.ensures.value trades end c.loop-column.invariant in
    record {
      netting = netting;
      day = netting-day h S ps stand trades netting;
      few = λ currency. netting-few h S ps currency netting;
      banks = netting-banks h S ps netting;
      some = netting-some h S ps netting;
      sum = λ currency. netting-sum h S ps currency stand trades netting;
      least = λ others currency settles. netting-least h S ps others currency stand trades netting settles;
    }
