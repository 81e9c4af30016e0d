use Rattle.fx_text.proofs.DigitTexts.{PAIRS_at, two_set}
use Rattle.fx_text.proofs.digits.put_pair.Goals as goal

pub returns : goal.returns
returns c =
    let p = PAIRS_at c.args.pair c.requires.pair in
    rw (p.0, p.1) (two_set c.args.room.now c.args.at _ _ c.requires.room)
