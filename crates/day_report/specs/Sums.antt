-- The sums that are kept of a day so far: what was traded of each pair, what each bank got of each currency and gave, and the
-- credit between each two banks.
use Rattle.std.specs.Prelude.{ℕ, ◌≡◌, ◌<◌, List, [], length, slice_index_or}
use Rattle.fx_rules.specs.declared.orders.Fill.{Fill}
use Rattle.fx_rules.specs.Lists.{total}
use Rattle.fx_rules.specs.Session.{Header, bank_count, pair_count}
use Rattle.fx_rules.specs.State.{State}
use Rattle.credit_lines.specs.Credit.{IsCredit}
use Rattle.credit_lines.specs.Market.{StandsFor}
use Rattle.day_report.specs.Report.{volume_of, base_code, quote_code, currencies, received, paid}
use Rattle.day_report.specs.Trades.{with_fills}
use Rattle.day_report.specs.Table.{IsTable}
use Rattle.day_report.specs.declared.rows.Volume.{Volume}
use Rattle.day_report.specs.declared.currencies.Columns.{Columns}
use Rattle.day_report.specs.declared.currencies.Currencies.{Currencies}
use Rattle.day_report.specs.declared.flows.Flows.{Flows}
use Rattle.day_report.specs.declared.day_sums.DaySums.{DaySums}

-- the volumes of the pairs, by their fills
pub record AreVolumes (h : Header) (fills : List Fill) (volumes : List Volume) : Type 0 where
  pub count : length volumes ≡ pair_count h
  pub each : (pair : ℕ) (d : Volume) → pair < pair_count h → slice_index_or volumes pair d ≡ volume_of h (with_fills h fills) pair

-- the code that stands in a column
abbrev pub code_at : List (List ℕ) → ℕ → List ℕ
code_at codes column = slice_index_or codes column []

-- a code stands in a column
pub record StandsAt (codes : List (List ℕ)) (code : List ℕ) (column : ℕ) : Type 0 where
  pub within : column < length codes
  pub is : code_at codes column ≡ code

-- the currencies of a session's pairs, and the columns of each pair's two
pub record AreCurrencies (h : Header) (held : Currencies) : Type 0 where
  pub codes_are : held.codes.items ≡ currencies h
  pub count : length held.columns.items ≡ pair_count h
  pub bases : (pair : ℕ) (d : Columns) → pair < pair_count h → StandsAt (currencies h) (base_code h pair) (slice_index_or held.columns.items pair d).base
  pub quotes : (pair : ℕ) (d : Columns) → pair < pair_count h → StandsAt (currencies h) (quote_code h pair) (slice_index_or held.columns.items pair d).quote

-- what each bank got of the currency of each column, and what it gave
abbrev pub got_by : Header → List Fill → ℕ → ℕ → ℕ
got_by h fills bank column = total (received h bank (code_at (currencies h) column)) fills

abbrev pub given_by : Header → List Fill → ℕ → ℕ → ℕ
given_by h fills bank column = total (paid h bank (code_at (currencies h) column)) fills

pub record AreFlows (h : Header) (fills : List Fill) (flows : Flows) : Type 0 where
  pub currencies_are : AreCurrencies h flows.currencies
  pub got : IsTable (bank_count h) (length (currencies h)) (got_by h fills) flows.received
  pub gave : IsTable (bank_count h) (length (currencies h)) (given_by h fills) flows.paid

-- the sums are those of a state: what its fills moved, and the credit that they leave
pub record AreSumsOf (h : Header) (S : State) (sums : DaySums) : Type 0 where
  pub credit_is : IsCredit sums.lines
  pub lines_are : StandsFor h S sums.lines
  pub volumes_are : AreVolumes h S.fills sums.volumes.items
  pub flows_are : AreFlows h S.fills sums.flows
