-- Words of a taker's side, for the crates above.
use Rattle.std.proofs.Common.{◌≡◌, refl}
use Rattle.fx_amounts.specs.Side.{opposite}
use Rattle.fx_amounts.specs.declared.side.Side.{Side}
use Rattle.fx_amounts.specs.declared.side.Side.TheVariants.{Buy, Sell}

pub opposite-opposite : (side : Side) → opposite (opposite side) ≡ side
opposite-opposite Buy = refl
opposite-opposite Sell = refl
