use Rattle.std.proofs.Common.{take, drop}
use Rattle.std.specs.List.{flat_map}
use Rattle.fx_edges.specs.Gathered.{Kept}
use Rattle.fx_rules.specs.Lists.{Each}
use Rattle.net_settle.specs.Payments.{IsOfBanks}
use Rattle.program_calls.specs.PaymentText.{payment_line}
use Rattle.program_calls.proofs.paying.text.write_lines.Given as goal

-- the lines so far are written, and the payments that are left are of banks of the session
abbrev pub invariant-loop-payment : goal.invariant-loop-payment
invariant-loop-payment g l = record {
  written : Kept g.K.Sink.written g.K.Sink.faults l.initial.pieces l.initial.out l.pieces l.out (flat_map (payment_line l.session) (take l.payment-index l.payments));
  banks : Each (IsOfBanks l.session) (drop l.payment-index l.payments);
}
