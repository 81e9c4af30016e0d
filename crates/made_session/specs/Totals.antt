-- What a history comes to.
use Rattle.std.specs.Prelude.{ℕ, List, length}
use Rattle.fx_rules.specs.declared.outcome.Entry.{Entry}
use Rattle.fx_rules.specs.Lists.{total}
use Rattle.fx_rules.specs.Step.{fills_of}
use Rattle.day_report.specs.Trades.{lots_in}

-- how many fills its entries tell
abbrev pub fills_told : List Entry → ℕ
fills_told entries = total (λ entry. length (fills_of entry.outcome)) entries

-- the lots of them all
abbrev pub lots_told : List Entry → ℕ
lots_told entries = total (λ entry. lots_in (fills_of entry.outcome)) entries
