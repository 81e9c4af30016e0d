use Rattle.fx_rules.proofs.Soundness.{weight_of-least}
use Rattle.fx_rules.proofs.Determined.{swept-same}
use Rattle.fx_rules.proofs.laws.sweeps_agree.Goals as goal

pub returns : goal.returns
returns c = record {
  agree = λ h S t fills others left rest session sound bank pair one other.
      swept-same h S t fills others left rest sound bank (weight_of-least h t.pair session pair) one other;
}
