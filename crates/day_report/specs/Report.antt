-- The report of a day: what was traded of each pair, the credit between each two banks, and what each bank has of each
-- currency by its fills. Banks and pairs are named by their places in the header, and are listed in its order.
use Rattle.std.specs.Prelude.{ℕ, ◌≡◌, ◌+◌, ◌==◌, ◌&&◌, not, nat_lt, bytes_eq, if◌then◌else◌, List, [], ◌∷◌, length, map, filter, slice_index_or, ℤ, pos, ◌+ℤ◌, ◌-ℤ◌}
use Rattle.std.specs.List.{flat_map}
use Rattle.fx_amounts.specs.Amount.{base_amount, quote_amount}
use Rattle.fx_amounts.specs.declared.side.Side.{Side}
use Rattle.fx_amounts.specs.declared.side.Side.TheVariants.{Buy, Sell}
use Rattle.fx_rules.specs.declared.orders.Fill.{Fill}
use Rattle.fx_rules.specs.declared.outcome.Entry.{Entry}
use Rattle.fx_rules.specs.Lists.{total}
use Rattle.fx_rules.specs.Session.{Header, bank_count, pair_count, lot_of, decimals_of}
use Rattle.fx_rules.specs.State.{State, used, line}
use Rattle.fx_rules.specs.History.{IsLegal, state}
use Rattle.fx_rules.specs.Lists.{below}
use Rattle.day_report.specs.declared.rows.Volume.{Volume}
use Rattle.day_report.specs.declared.rows.Use.{Use}
use Rattle.day_report.specs.declared.rows.Net.{Net}
use Rattle.day_report.specs.declared.rows.Report.{Report}

-- Volumes.

-- what a fill moves of its pair's base currency, and of its quote currency
abbrev pub base_of : Header → Fill → ℕ
base_of h fill = base_amount fill.lots (lot_of h fill.pair)

abbrev pub quote_of : Header → Fill → ℕ
quote_of h fill = quote_amount fill.lots (lot_of h fill.pair) fill.price (decimals_of h fill.pair)

-- what was traded of a pair, by its fills
abbrev pub volume_of : Header → State → ℕ → Volume
volume_of h S pair = let fs = filter (λ fill. fill.pair == pair) S.fills in
    record { pair = pair; fills = length fs; lots = total (λ f. f.lots) fs; base = total (base_of h) fs; quote = total (quote_of h) fs }

-- of each pair
abbrev pub volumes_of : Header → State → List Volume
volumes_of h S = map (volume_of h S) (below (pair_count h))

-- Uses.

-- the credit between two banks: the limit of each on the other, what they have used, and their line
abbrev pub use_of : Header → State → ℕ → ℕ → Use
use_of h S i j = record { a = i; b = j; limit_ab = S.limits i j; limit_ba = S.limits j i; used = used h S i j; eff = line h S i j }

-- the banks behind one, in order
abbrev pub banks_behind : Header → ℕ → List ℕ
banks_behind h i = filter (nat_lt i) (below (bank_count h))

-- the credit between each two banks, the earlier named first, by the first and then by the second
abbrev pub uses_of : Header → State → List Use
uses_of h S = flat_map (λ i. map (use_of h S i) (banks_behind h i)) (below (bank_count h))

-- Nets.

-- the codes of a pair's two currencies
abbrev pub base_code : Header → ℕ → List ℕ
base_code h pair = slice_index_or (map (λ rule. rule.base) h.pairs) pair []

abbrev pub quote_code : Header → ℕ → List ℕ
quote_code h pair = slice_index_or (map (λ rule. rule.quote) h.pairs) pair []

-- each code once, where it first appears
abbrev pub firsts : List (List ℕ) → List (List ℕ)
firsts [] = []
firsts (code ∷ codes) = code ∷ filter (λ other. not (bytes_eq other code)) (firsts codes)

-- the currencies by their first appearance in the pairs, the base before the quote
abbrev pub currencies : Header → List (List ℕ)
currencies h = firsts (flat_map (λ rule. rule.base ∷ rule.quote ∷ []) h.pairs)

-- of two, the first for one who buys, the second for one who sells
abbrev pub by_side : Side → ℕ → ℕ → ℕ
by_side Buy first second = first
by_side Sell first second = second

-- the bank that buys by a fill, and the one that sells
abbrev pub buyer : Fill → ℕ
buyer fill = by_side fill.taker_side fill.taker fill.maker

abbrev pub seller : Fill → ℕ
seller fill = by_side fill.taker_side fill.maker fill.taker

-- what goes to this bank of this currency, where an amount goes to that bank of that currency
abbrev pub share : ℕ → List ℕ → ℕ → List ℕ → ℕ → ℕ
share bank currency to its_currency amount = if to == bank && bytes_eq its_currency currency then amount else 0

-- what a bank gets of a currency by a fill: the buyer gets the base amount, the seller the quote amount
abbrev pub received : Header → ℕ → List ℕ → Fill → ℕ
received h bank currency fill = share bank currency (buyer fill) (base_code h fill.pair) (base_of h fill)
    + share bank currency (seller fill) (quote_code h fill.pair) (quote_of h fill)

-- what it gives: the buyer gives the quote amount, the seller the base amount
abbrev pub paid : Header → ℕ → List ℕ → Fill → ℕ
paid h bank currency fill = share bank currency (buyer fill) (quote_code h fill.pair) (quote_of h fill)
    + share bank currency (seller fill) (base_code h fill.pair) (base_of h fill)

-- what a bank has of a currency: what it got by all fills, less what it gave
abbrev pub net_of : Header → State → ℕ → List ℕ → Net
net_of h S bank code =
    record { bank = bank; currency = code; amount = pos (total (received h bank code) S.fills) -ℤ pos (total (paid h bank code) S.fills) }

-- of each bank each currency
abbrev pub nets_of : Header → State → List Net
nets_of h S = flat_map (λ bank. map (net_of h S bank) (currencies h)) (below (bank_count h))

-- A report is that of a state.
pub record IsReportOf (h : Header) (S : State) (made : Report) : Type 0 where
  pub volumes_are : made.volumes ≡ volumes_of h S
  pub uses_are : made.uses ≡ uses_of h S
  pub nets_are : made.nets ≡ nets_of h S

-- The nets balance.

-- numbers added up
abbrev pub sum_of : List ℤ → ℤ
sum_of [] = pos 0
sum_of (n ∷ ns) = n +ℤ sum_of ns

-- what the banks of some nets have of a currency together
abbrev pub balance : List ℕ → List Net → ℤ
balance currency nets = sum_of (map (λ net. net.amount) (filter (λ net. bytes_eq net.currency currency) nets))

-- In each currency the nets of all banks add up to 0.
abbrev pub NetsBalance : Type 0
NetsBalance = (h : Header) (entries : List Entry) (currency : List ℕ) → IsLegal h entries → balance currency (nets_of h (state h entries)) ≡ pos 0
