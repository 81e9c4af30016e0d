use Rattle.std.proofs.Common.{◌∙◌, arith}
use Rattle.kept_history.proofs.Histories.{whole_by}
use Rattle.kept_history.proofs.found.history_of.Goals as goal

pub returns : goal.returns
returns c = record {
  found = λ bodies holds.
      whole_by bodies c.args.kept.session c.args.kept.sent.items c.in_ok-entries.entries.items c.from_vec.result
      c.from_vec.ensures.items holds c.in_ok-entries.ensures.legal
      (c.in_ok-entries.ensures.in_order ∙ c.deref.ensures.value) (omega (arith, c.if-len-gt-MOST_COMMANDS.false, c.len.ensures));
}
