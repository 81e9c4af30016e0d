-- What the types of a command's values say of it.
use Rattle.fx_amounts.specs.Price.{IsPrice}
use Rattle.fx_amounts.specs.Quantity.{IsLots, IsUnits}
use Rattle.fx_rules.specs.declared.command.Command.{Command}
use Rattle.fx_rules.specs.declared.command.Command.TheVariants.{Order, Reduce, Line, Total, Settle}

-- its price, its lots, its limit and its units are in their ranges
abbrev pub ValuesFit : Command → Type 0
ValuesFit (Order side pair price lots life) = IsPrice price × IsLots lots
ValuesFit (Reduce pair number lots) = IsLots lots
ValuesFit (Line other limit) = IsUnits limit
ValuesFit (Total limit) = IsUnits limit
ValuesFit (Settle a b units) = IsUnits units
ValuesFit _ = Unit {0}
