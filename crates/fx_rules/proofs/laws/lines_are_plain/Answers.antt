use Rattle.fx_rules.proofs.Plain.{plain-line}
use Rattle.fx_rules.proofs.laws.lines_are_plain.Goals as goal

pub returns : goal.returns
returns c = record { plain = λ h S i j first sound. plain-line h S i j (sound.plain first) }
