use Rattle.std.proofs.Common.{◌≡◌, ◌<◌, [], ◌++◌}
use Rattle.fx_rules.specs.declared.outcome.Entry.{Entry}
use Rattle.fx_rules.specs.Lists.{Each}
use Rattle.fx_chronicle.specs.Faces.{Witness, witness}
use Rattle.fx_chronicle.proofs.Sending.{of_senders}
use Rattle.fx_chronicle.proofs.pass.open_passes.Given as goal

-- the passes are those fronts so far that are of senders, and each front that is left has seen nothing
abbrev pub invariant-loop-front : goal.invariant-loop-front
invariant-loop-front g l = record {
  can : (goal.iterator-loop-front g).can_next l.front-iterator;
  ends : (goal.iterator-loop-front g).is_finite l.front-iterator;
  passes : l.passes.items ++ of_senders g.N.Naming.session l.front-iterator.rest.items ≡ of_senders g.N.Naming.session l.initial.front-iterator.rest.items;
  fronts : Each (λ (front : Witness Entry). (front.key < 65) × (front ≡ witness front.key [])) l.front-iterator.rest.items;
}
