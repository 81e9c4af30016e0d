-- Each turn writes one line behind those so far.
use Rattle.std.proofs.Common.{◌∙◌, sym, subst}
use Rattle.fx_edges.specs.Gathered.{Kept}
use Rattle.fx_edges.proofs.Gathering.{Kept-append}
use Rattle.reply_lines.proofs.Items.{flat_more, at-place}
use Rattle.reply_lines.proofs.Outputs.{cut_at, of_text}
use Rattle.reply_lines.proofs.Parts.{rows-prefix}
use Rattle.net_settle.specs.Payments.{IsOfBanks}
use Rattle.program_calls.specs.PaymentText.{payment_line}
use Rattle.program_calls.proofs.paying.text.write_lines.Goals as goal

pub returns-in_err-put : goal.returns-in_err-put
returns-in_err-put g c = record {
  wrote = cut_at c.from_residual.result c.from_residual.ensures.1 c.loop-payment.invariant.written
      (of_text (c.as_slice.ensures.bytes ∙ c.make_line.ensures.made) c.in_err-put.ensures.gathered)
      (rows-prefix (payment_line c.args.session.now) c.args.payments.now c.loop-payment.payment-index c.payment-item.result c.loop-payment-test.true c.payment-item.is);
}

pub loop-payment-preserved : goal.loop-payment-preserved
loop-payment-preserved g c = record {
  written = subst (λ text. Kept g.K.Sink.written g.K.Sink.faults c.args.pieces.now c.args.out.now c.put.new.self c.put.new.out text)
      (sym (flat_more (payment_line c.args.session.now) c.args.payments.now c.loop-payment.payment-index c.payment-item.result c.loop-payment-test.true c.payment-item.is))
      (Kept-append c.loop-payment.invariant.written (of_text (c.as_slice.ensures.bytes ∙ c.make_line.ensures.made) c.in_ok-put.ensures.gathered).ok);
  banks = (at-place (IsOfBanks c.args.session.now) c.args.payments.now c.loop-payment.payment-index c.payment-item.result c.loop-payment-test.true c.payment-item.is c.loop-payment.invariant.banks).1;
}
