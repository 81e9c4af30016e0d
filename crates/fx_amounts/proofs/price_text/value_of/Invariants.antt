use Rattle.std.proofs.Common.{◌≡◌, ◌-◌, ◌^◌, min, take}
use Rattle.fx_amounts.specs.PriceText.{ticks_of}
use Rattle.fx_amounts.proofs.price_text.value_of.Given as goal

abbrev pub invariant-loop-byte : goal.invariant-loop-byte
invariant-loop-byte l = l.value ≡ min (ticks_of (take l.byte-index l.text)) (2 ^ 64 - 1)
