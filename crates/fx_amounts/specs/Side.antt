use Rattle.fx_amounts.specs.declared.side.Side.{Side}
use Rattle.fx_amounts.specs.declared.side.Side.TheVariants.{Buy, Sell}

-- the side that an order of this side trades with
abbrev pub opposite : Side → Side
opposite Buy = Sell
opposite Sell = Buy
