use Rattle.std.proofs.Common.{◌∙◌}
use Rattle.journal_check.proofs.HeaderLemmas.{header_stopped, header_more, header_wrong, header_whole, read-within}
use Rattle.journal_check.proofs.header.read_header.Goals as goal

pub returns-in-Err-clause-answers : goal.returns-in-Err-clause-answers
returns-in-Err-clause-answers c = header_stopped c.args.text.now c.loop-read.at c.loop-read.reader c.in-Err.stop c.in-Err.ensures _ c.loop-read.invariant.reads

pub returns-in-Ok-Start-clause-answers : goal.returns-in-Ok-Start-clause-answers
returns-in-Ok-Start-clause-answers c =
    c.loop-read.invariant.reads
    ∙ header_whole c.args.text.now c.loop-read.at c.in-Ok.read c.loop-read.reader c.line_in.new.self c.session_of.result c.in-Ok.ensures c.in-Ok-Start.ensures.read c.session_of.ensures

pub returns-in-Err-Fault-clause-answers : goal.returns-in-Err-Fault-clause-answers
returns-in-Err-Fault-clause-answers c =
    c.loop-read.invariant.reads
    ∙ header_wrong c.args.text.now c.loop-read.at c.in-Ok.read c.loop-read.reader c.line_in.new.self c.in-Err-Fault.field-0-0 c.in-Err-Fault.field-0-1 c.in-Ok.ensures
    (rw c.in-Err-Fault.field-0-is at c.in-Err-Fault.ensures.read) (rw c.in-Err-Fault.field-0-is at c.in-Err-Fault.ensures.answer)

pub loop-read-preserved : goal.loop-read-preserved
loop-read-preserved c = record {
  within = read-within c.args.text.now c.loop-read.at c.in-Ok.read c.in-Ok.ensures;
  not_yet = (rw c.in-Ok-More.field-0-is at c.in-Ok-More.ensures.goes_on) (λ same. cc);
  reads = c.loop-read.invariant.reads
      ∙ header_more c.args.text.now c.loop-read.at c.in-Ok.read c.loop-read.reader c.line_in.new.self c.in-Ok.ensures c.in-Ok-More.ensures.read (rw c.in-Ok-More.field-0-is at c.in-Ok-More.ensures.answer);
}
