use Rattle.fx_rules.proofs.NamesLemmas.{StoresName-front}
use Rattle.fx_rules.proofs.names.Name.from_bytes.Goals as goal

pub invariant_of-result : goal.invariant_of-result
invariant_of-result c =
    StoresName-front c.copy_from_slice.new.self c.args.text.now (cc) c.copy_from_slice.ensures.after
