use Rattle.std.proofs.Common.{◌∙◌}
use Rattle.fx_rules.proofs.Sought.{padded_front}
use Rattle.fx_rules.proofs.names.SoughtName.of.Goals as goal

pub invariant_of-result : goal.invariant_of-result
invariant_of-result c =
    c.word_of.ensures.value ∙ padded_front c.args.text.now c.copy_from_slice.new.self c.min-len.result c.min-len.ensures c.copy_from_slice.ensures.after
