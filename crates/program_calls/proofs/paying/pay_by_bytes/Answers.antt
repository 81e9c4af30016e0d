use Rattle.std.proofs.Common.{refl}
use Rattle.journal_check.specs.Verdict.{IsVerdict, IsSomeOutput}
use Rattle.journal_check.specs.declared.check.Verdict.TheVariants.{No}
use Rattle.program_calls.specs.Check.{no_line}
use Rattle.program_calls.specs.Payments.{IsPaymentsOf}
use Rattle.program_calls.proofs.Answering.{told_no}
use Rattle.program_calls.proofs.paying.pay_by_bytes.Goals as goal

pub returns-in-Ok-No : goal.returns-in-Ok-No
returns-in-Ok-No g c =
    let read : IsVerdict c.args.bytes.now (No c.in-Ok-No.offset) × ¬ (IsSomeOutput c.args.bytes.now) = rw c.in-Ok-No.field-0-is at c.in-Ok-No.ensures.read in
    record {
      told = told_no (IsPaymentsOf c.args.form) g.K.Sink.written g.K.Sink.faults c.args.out.now c.write_no.new.out c.args.bytes.now (no_line c.in-Ok-No.offset) c.in-Ok-No.offset c.write_no.result
          read.0 read.1 refl c.write_no.ensures;
    }
