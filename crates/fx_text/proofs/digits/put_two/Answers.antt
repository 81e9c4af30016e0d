use Rattle.std.proofs.Common.{◌∙◌, ◌++◌, List, ℕ, ap, take}
use Rattle.fx_text.proofs.DigitTexts.{last_two}
use Rattle.fx_text.proofs.digits.put_two.Goals as goal

pub returns : goal.returns
returns c = c.put_pair.ensures ∙ ap (λ (digits : List ℕ). take c.args.at c.args.room.now ++ digits) (last_two c.args.value)
