-- The quote amount is whole.
use Rattle.std.proofs.Common.{◌≡◌, ℕ, ◌*◌, ◌/◌, ◌%◌, ◌^◌, arith, div-add-mod'}
use Rattle.fx_amounts.specs.Amount.{quote_amount}

regrouped : (lots part power ticks lot : ℕ) → lot ≡ part * power → lots * part * ticks * power ≡ lots * lot * ticks
regrouped lots part power ticks lot e = rw e (omega arith)

pub quote_amount-whole : (lots lot ticks decimals : ℕ) → lot % 10 ^ decimals ≡ 0 → quote_amount lots lot ticks decimals * 10 ^ decimals ≡ lots * lot * ticks
quote_amount-whole lots lot ticks decimals whole = regrouped lots (lot / 10 ^ decimals) (10 ^ decimals) ticks lot (omega (arith, div-add-mod' lot (10 ^ decimals)))
