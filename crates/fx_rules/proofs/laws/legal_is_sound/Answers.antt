use Rattle.fx_rules.proofs.Soundness.{legal-sound}
use Rattle.fx_rules.proofs.laws.legal_is_sound.Goals as goal

pub returns : goal.returns
returns c = record {
  sound = λ h entries legal. (legal-sound h entries legal, (legal-sound h entries legal).within);
}
