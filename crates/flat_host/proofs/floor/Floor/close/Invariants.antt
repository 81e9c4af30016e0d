use Rattle.std.proofs.Common.{◌≡◌, ◌⊎◌}
use Rattle.fx_rules.specs.declared.outcome.Entry.{Entry}
use Rattle.fx_rules.specs.History.{own}
use Rattle.fx_rules.specs.Lists.{Among}
use Rattle.fx_chronicle.specs.Faces.{Witness}
use Rattle.fx_chronicle.specs.Submitting.{IsWholeOf}
use Rattle.flat_host.proofs.floor.Floor.close.Given as goal

-- each pass is caught up or is one of those that are left
abbrev pub invariant-loop-pass : goal.invariant-loop-pass
invariant-loop-pass g l = record {
  can : (goal.iterator-loop-pass g).can_next l.pass-iterator;
  ends : (goal.iterator-loop-pass g).is_finite l.pass-iterator;
  writer : l.writer ≡ l.initial.writer;
  passes : (pass : Witness Entry) → Among pass l.initial.pass-iterator.rest.items →
      Among pass l.pass-iterator.rest.items ⊎ IsWholeOf pass.key pass.seen (own pass.key pass.met) l.initial.writer.entries;
}
