use Rattle.std.proofs.Common.{inl, inr, refl, arith}
use Rattle.net_settle.proofs.Walking.{paid-one, walked, falls}
use Rattle.net_settle.proofs.netting.walk.Goals as goal

pub loop-payer-smaller : goal.loop-payer-smaller
loop-payer-smaller c =
    falls c.loop-payer.owes c.loop-payer.owed c.loop-payer.payer c.loop-payer.payee c.min-amount.result
    (omega (arith, c.if-owes-payer-eq0.false)) (omega (arith, c.if-owed-payee-eq0.false)) c.min-amount.ensures

pub loop-payer-preserved : goal.loop-payer-preserved
loop-payer-preserved c =
    paid-one c.args.currency c.args.owes.now c.args.owed.now c.loop-payer.owes c.loop-payer.owed c.loop-payer.payer c.loop-payer.payee c.args.payments.now.items c.loop-payer.payments.items c.push.new.self.items
    (record { payer = c.at.result; payee = c.at-else-owed-payee-eq0.result; currency = c.args.currency; amount = c.min-amount.result })
    c.loop-payer.invariant (omega (arith, c.if-owes-payer-eq0.false)) (omega (arith, c.if-owed-payee-eq0.false))
    c.at.ensures.value c.at-else-owed-payee-eq0.ensures.value refl c.min-amount.ensures c.in_ok-push.ensures.items

pub returns-else-payee-owed : goal.returns-else-payee-owed
returns-else-payee-owed c = record {
  walks = walked c.args.currency c.args.owes.now c.args.owed.now c.loop-payer.owes c.loop-payer.owed c.loop-payer.payer c.loop-payer.payee c.args.payments.now.items c.loop-payer.payments.items
      c.loop-payer.invariant (inr c.if-payee-owed.false);
}

pub returns-after-loop-payer : goal.returns-after-loop-payer
returns-after-loop-payer c = record {
  walks = walked c.args.currency c.args.owes.now c.args.owed.now c.loop-payer.owes c.loop-payer.owed c.loop-payer.payer c.loop-payer.payee c.args.payments.now.items c.loop-payer.payments.items
      c.loop-payer.invariant (inl c.loop-payer-test.false);
}
