use Rattle.std.proofs.Common.{◌∙◌}
use Rattle.fx_rules.specs.Sending.{IsSentOf}
use Rattle.fx_rules.proofs.ListLemmas.{Each-append}
use Rattle.kept_history.proofs.LineLemmas.{commands_more, commands_wrong, commands_rest}
use Rattle.kept_history.proofs.lines.read_commands.Goals as goal

pub returns-in_default-journal_in-clause-commands : goal.returns-in_default-journal_in-clause-commands
returns-in_default-journal_in-clause-commands c =
    c.loop-line.invariant.reads
    ∙ commands_wrong c.args.session.now c.loop-line.sent.items c.loop-line.rest.now _ c.in-Some.after.now c.in-Some.ensures.line c.in_default-journal_in.ensures.reads

pub loop-line-preserved : goal.loop-line-preserved
loop-line-preserved c = record {
  reads = c.loop-line.invariant.reads
      ∙ commands_more c.args.session.now c.loop-line.sent.items c.push.new.self.items c.loop-line.rest.now _ c.in-Some.after.now _
      c.in-Some.ensures.line c.in-Some-journal_in.ensures.reads c.in_ok-push.ensures.items;
  valid = λ before. rw c.in_ok-push.ensures.items (Each-append (IsSentOf c.args.session.now) c.loop-line.sent.items _ (c.loop-line.invariant.valid before) (record { command = c.in-Some-journal_in.ensures.range }, tt));
}

pub returns-clause-commands : goal.returns-clause-commands
returns-clause-commands c =
    rw c.is_empty.ensures (c.loop-line.invariant.reads ∙ commands_rest c.args.session.now c.loop-line.sent.items c.loop-line.rest.now c.in_default.ensures.line)
