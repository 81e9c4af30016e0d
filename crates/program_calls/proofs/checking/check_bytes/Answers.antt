use Rattle.std.proofs.Common.{refl}
use Rattle.journal_check.proofs.Exactly.{other}
use Rattle.program_calls.specs.Check.{SaysYes, no_line}
use Rattle.program_calls.proofs.Answering.{told_yes, told_no}
use Rattle.program_calls.proofs.checking.check_bytes.Goals as goal

pub returns-in-Ok-Yes : goal.returns-in-Ok-Yes
returns-in-Ok-Yes g c = record {
  told = told_yes SaysYes g.K.Sink.written g.K.Sink.faults c.args.out.now c.write_answer.new.out c.args.bytes.now _ c.write_answer.result
      (rw c.in-Ok-Yes.field-0-is at c.in-Ok-Yes.ensures.verdict) (c.in-Ok-Yes.ensures.sound c.in-Ok-Yes.field-0-is) refl c.write_answer.ensures;
}

pub returns-in-Ok-No : goal.returns-in-Ok-No
returns-in-Ok-No g c =
    let verdict = rw c.in-Ok-No.field-0-is at c.in-Ok-No.ensures.verdict in
    record {
      told = told_no SaysYes g.K.Sink.written g.K.Sink.faults c.args.out.now c.write_no.new.out c.args.bytes.now (no_line c.in-Ok-No.offset) c.in-Ok-No.offset c.write_no.result
          verdict (other c.args.bytes.now c.in-Ok-No.offset verdict) refl c.write_no.ensures;
    }
