use Rattle.std.proofs.Common.{◌∙◌, sym}
use Rattle.kept_history.proofs.LineLemmas.{header_more, header_behind, header_faulted, header_ends, header_cut}
use Rattle.kept_history.proofs.lines.read_header.Goals as goal

pub returns-then-started : goal.returns-then-started
returns-then-started c = record {
  session = sym (c.loop-line.invariant.reads
      ∙ header_behind c.loop-line.reader c.loop-line.rest.now _ c.in-Some.after.now c.in-Some.ensures.line (sym c.loop-line.invariant.is_started ∙ c.if-started.true));
}

pub returns-in-Err-Fault : goal.returns-in-Err-Fault
returns-in-Err-Fault c = record {
  session = sym (c.loop-line.invariant.reads
      ∙ header_more c.loop-line.reader c.line_in.new.self c.loop-line.rest.now _ c.in-Some.after.now c.in-Some.ensures.line (sym c.loop-line.invariant.is_started ∙ c.if-started.false)
      (rw c.in-Err-Fault.field-0-is at c.in-Err-Fault.ensures.read)
      ∙ header_faulted c.line_in.new.self c.in-Some.after.now c.in-Err-Fault.field-0-0 c.in-Err-Fault.field-0-1 (rw c.in-Err-Fault.field-0-is at c.in-Err-Fault.ensures.answer));
}

pub loop-line-preserved : goal.loop-line-preserved
loop-line-preserved c = record {
  reads = c.loop-line.invariant.reads
      ∙ header_more c.loop-line.reader c.line_in.new.self c.loop-line.rest.now _ c.in-Some.after.now c.in-Some.ensures.line (sym c.loop-line.invariant.is_started ∙ c.if-started.false) c.in-Ok.ensures.read;
  is_started = c.is_start-started.ensures c.line_in.new.self c.in-Ok.ensures.answer;
}

pub returns-then-is_empty : goal.returns-then-is_empty
returns-then-is_empty c = record {
  session = c.into_session.ensures.value
      ∙ sym (c.loop-line.invariant.reads ∙ header_ends c.loop-line.reader c.loop-line.rest.now c.is_empty.result c.in_default.ensures.line c.is_empty.ensures c.if-is_empty.true);
}

pub returns : goal.returns
returns c = record {
  session = sym (c.loop-line.invariant.reads ∙ header_cut c.loop-line.reader c.loop-line.rest.now c.is_empty.result c.in_default.ensures.line c.is_empty.ensures c.if-is_empty.false);
}
