-- A fill is added to the flows.
use Rattle.std.proofs.Common.{ℕ, ◌≡◌, ◌≢◌, ◌+◌, ◌*◌, ◌^◌, ◌≤◌, ◌<◌, true, ◌&&◌, eqb, bytes_eq, List, [], ◌∷◌, ◌++◌, length, get_or, set, inl, inr, ap, sym, subst, ◌∙◌, arith}
use Rattle.std.proofs.lemmas.Bool.{cases_Bool, and_parts, and_from, eqb-true, eq-eqb, false≢true}
use Rattle.std.proofs.lemmas.List.{length-set, get_or-set_same, get_or-set_other}
use Rattle.std.proofs.lemmas.Nat.{mul-add-lt, same_from_place}
use Rattle.fx_rules.specs.declared.orders.Fill.{Fill}
use Rattle.fx_rules.specs.Session.{Header, bank_count}
use Rattle.day_report.specs.declared.table.Table.{Table}
use Rattle.day_report.specs.declared.flows.Flows.{Flows}
use Rattle.day_report.specs.declared.currencies.Columns.{Columns}
use Rattle.day_report.specs.declared.currencies.Currencies.{Currencies}
use Rattle.day_report.specs.Report.{base_of, quote_of, base_code, quote_code, currencies, buyer, seller, received, paid}
use Rattle.fx_rules.specs.inside.Trade.{IsTrade}
use Rattle.day_report.specs.inside.Trades.{AreTrades, CanAdd}
use Rattle.day_report.specs.Table.{place, sum_at, HasShape, IsTable}
use Rattle.day_report.specs.Sums.{code_at, StandsAt, AreCurrencies, got_by, given_by, AreFlows}
use Rattle.day_report.proofs.Sums.{when, when_most, total_push}
use Rattle.day_report.proofs.Bounds.{received-fit, paid-fit, last-trade, fewer-trades, last-base, last-quote}
use Rattle.day_report.proofs.Balance.{buyer-below, seller-below}
use Rattle.day_report.proofs.Codes.{firsts-apart, column-test}

-- A place of a table is one of its cells.
pub place-within : (rows columns : ℕ) (table : Table) (row column : ℕ) → HasShape rows columns table → row < rows → column < columns → place table.columns row column < length table.cells.items
place-within rows columns table row column shape p q =
    let within : row * columns + column < columns * rows = mul-add-lt row columns column rows p q in
    subst (λ n. place n row column < length table.cells.items) (sym shape.columns_are) (omega (arith, shape.full))

both_true : (a b c d : ℕ) → a ≡ b → c ≡ d → (eqb a b && eqb c d) ≡ true
both_true a b c d p q = and_from (eqb a b) (eqb c d) (eq-eqb a b p) (eq-eqb c d q)

-- the cells after a sum was added to
cell-added : (cells : List ℕ) (rows columns row column amount i j : ℕ) → length cells ≡ rows * columns → row < rows → column < columns → j < columns
    → get_or (set cells (place columns row column) (get_or cells (place columns row column) 0 + amount)) (place columns i j) 0 ≡ get_or cells (place columns i j) 0 + when (eqb row i && eqb column j) amount
cell-added cells rows columns row column amount i j full p q r =
    let After : ℕ → ℕ → ℕ = λ x y. get_or (set cells (place columns row column) (get_or cells (place columns row column) 0 + amount)) (place columns x y) 0 in
    elim (cases_Bool (eqb row i && eqb column j)) [
      | inl is ↦
          let both = and_parts (eqb row i) (eqb column j) is in
          let P : ℕ → ℕ → Type 0 = λ x y. After x y ≡ get_or cells (place columns x y) 0 + amount in
          let within : place columns row column < columns * rows = mul-add-lt row columns column rows p q in
          let here : P row column = get_or-set_same cells (place columns row column) (get_or cells (place columns row column) 0 + amount) 0 (omega (arith, full)) in
          subst (λ x. P x j) (eqb-true row i both.0) (subst (P row) (eqb-true column j both.1) here)
          ∙ ap (λ t. get_or cells (place columns i j) 0 + when t amount) (sym is)
      | inr other ↦
          let apart : place columns i j ≢ place columns row column = λ same.
          let parts = same_from_place i j row column columns r q same in
          false≢true (sym other ∙ both_true row i column j (sym parts.0) (sym parts.1)) in
          let same : After i j ≡ get_or cells (place columns i j) 0 =
          get_or-set_other cells (place columns row column) (place columns i j) (get_or cells (place columns row column) 0 + amount) 0 apart in
          let none : when (eqb row i && eqb column j) amount ≡ 0 = ap (λ t. when t amount) other in
          omega arith
    ]

-- A sum was added to.
pub record Added (old new : Table) (row column amount : ℕ) : Type 0 where
  pub columns : new.columns ≡ old.columns
  pub cells : new.cells.items ≡ set old.cells.items (place old.columns row column) (sum_at old row column + amount)

pub shape-added : (rows columns : ℕ) (old new : Table) (row column amount : ℕ) → HasShape rows columns old → Added old new row column amount → HasShape rows columns new
shape-added rows columns old new row column amount shape added = record {
  columns_are = added.columns ∙ shape.columns_are;
  full = ap length added.cells ∙ length-set old.cells.items (place old.columns row column) (sum_at old row column + amount) ∙ shape.full;
}

abbrev pub plus : (ℕ → ℕ → ℕ) → ℕ → ℕ → ℕ → ℕ → ℕ → ℕ
plus sums row column amount i j = sums i j + when (eqb row i && eqb column j) amount

pub table-added : (rows columns : ℕ) (sums : ℕ → ℕ → ℕ) (old new : Table) (row column amount : ℕ) → row < rows → column < columns → IsTable rows columns sums old → Added old new row column amount → IsTable rows columns (plus sums row column amount) new
table-added rows columns sums old new row column amount p q is added = record {
  shape = shape-added rows columns old new row column amount is.shape added;
  each = λ i j within inside.
      let full : length old.cells.items ≡ rows * old.columns = is.shape.full ∙ ap (λ n. rows * n) (sym is.shape.columns_are) in
      ap (λ n. get_or new.cells.items (place n i j) 0) added.columns
      ∙ ap (λ (cells : List ℕ). get_or cells (place old.columns i j) 0) added.cells
      ∙ cell-added old.cells.items rows old.columns row column amount i j full p (omega (arith, is.shape.columns_are)) (omega (arith, is.shape.columns_are))
      ∙ ap (λ n. n + when (eqb row i && eqb column j) amount) (is.each i j within inside);
}

pub table-agrees : (rows columns : ℕ) (sums others : ℕ → ℕ → ℕ) (table : Table) → ((i j : ℕ) → i < rows → j < columns → sums i j ≡ others i j) → IsTable rows columns sums table → IsTable rows columns others table
table-agrees rows columns sums others table agree is = record { shape = is.shape; each = λ i j p q. is.each i j p q ∙ agree i j p q }

-- Where a fill goes: its two banks, and the columns of its pair.
pub record Goes (h : Header) (f : Fill) (columns : Columns) : Type 0 where
  pub buys : buyer f < bank_count h
  pub sells : seller f < bank_count h
  pub base : StandsAt (currencies h) (base_code h f.pair) columns.base
  pub quote : StandsAt (currencies h) (quote_code h f.pair) columns.quote

pub goes : (h : Header) (f : Fill) (held : Currencies) (columns : Columns) → IsTrade h f → AreCurrencies h held → ((d : Columns) → columns ≡ get_or held.columns.items f.pair d) → Goes h f columns
goes h f held columns trade are is = record {
  buys = buyer-below h f trade;
  sells = seller-below h f trade;
  base = subst (λ (c : Columns). StandsAt (currencies h) (base_code h f.pair) c.base) (sym (is columns)) (are.bases f.pair columns trade.pair);
  quote = subst (λ (c : Columns). StandsAt (currencies h) (quote_code h f.pair) c.quote) (sym (is columns)) (are.quotes f.pair columns trade.pair);
}

-- what goes to a bank and a column is the bank's share in the column's currency
pub share-at : (h : Header) (code : List ℕ) (column to amount i j : ℕ) → StandsAt (currencies h) code column → j < length (currencies h) → when (eqb to i && eqb column j) amount ≡ when (eqb to i && bytes_eq code (code_at (currencies h) j)) amount
share-at h code column to amount i j stands within = ap (λ t. when (eqb to i && t) amount) (column-test (currencies h) code column j (firsts-apart _) stands within)

three : (now before a b : ℕ) → now ≡ before + (a + b) → (before + a) + b ≡ now
three now before a b is = omega arith

-- sums that grow by what two banks have of two currencies
two-add : (h : Header) (sums more : ℕ → ℕ → ℕ) (first second : List ℕ) (column other to from amount rest : ℕ) (old middle new : Table) → to < bank_count h → from < bank_count h → StandsAt (currencies h) first column → StandsAt (currencies h) second other
    → ((i j : ℕ) → more i j ≡ sums i j + (when (eqb to i && bytes_eq first (code_at (currencies h) j)) amount + when (eqb from i && bytes_eq second (code_at (currencies h) j)) rest))
    → IsTable (bank_count h) (length (currencies h)) sums old → Added old middle to column amount → Added middle new from other rest → IsTable (bank_count h) (length (currencies h)) more new
two-add h sums more first second column other to from amount rest old middle new to_in from_in here there grows is one two =
    let added : IsTable (bank_count h) (length (currencies h)) (plus sums to column amount) middle =
    table-added (bank_count h) (length (currencies h)) sums old middle to column amount to_in here.within is one in
    let both : IsTable (bank_count h) (length (currencies h)) (plus (plus sums to column amount) from other rest) new =
    table-added (bank_count h) (length (currencies h)) (plus sums to column amount) middle new from other rest from_in there.within added two in
    table-agrees (bank_count h) (length (currencies h)) (plus (plus sums to column amount) from other rest) more new
    (λ i j p q.
    ap (λ m. (sums i j + m) + when (eqb from i && eqb other j) rest) (share-at h first column to amount i j here q)
    ∙ ap (λ m. (sums i j + when (eqb to i && bytes_eq first (code_at (currencies h) j)) amount) + m) (share-at h second other from rest i j there q)
    ∙ three (more i j) (sums i j) (when (eqb to i && bytes_eq first (code_at (currencies h) j)) amount) (when (eqb from i && bytes_eq second (code_at (currencies h) j)) rest) (grows i j))
    both

pub got-add : (h : Header) (fills : List Fill) (f : Fill) (columns : Columns) (old middle new : Table) → Goes h f columns → IsTable (bank_count h) (length (currencies h)) (got_by h fills) old → Added old middle (buyer f) columns.base (base_of h f) → Added middle new (seller f) columns.quote (quote_of h f) → IsTable (bank_count h) (length (currencies h)) (got_by h (fills ++ f ∷ [])) new
got-add h fills f columns old middle new at is first second =
    two-add h (got_by h fills) (got_by h (fills ++ f ∷ [])) (base_code h f.pair) (quote_code h f.pair) columns.base columns.quote (buyer f) (seller f) (base_of h f) (quote_of h f) old middle new
    at.buys at.sells at.base at.quote (λ i j. total_push (received h i (code_at (currencies h) j)) fills f) is first second

pub given-add : (h : Header) (fills : List Fill) (f : Fill) (columns : Columns) (old middle new : Table) → Goes h f columns → IsTable (bank_count h) (length (currencies h)) (given_by h fills) old → Added old middle (buyer f) columns.quote (quote_of h f) → Added middle new (seller f) columns.base (base_of h f) → IsTable (bank_count h) (length (currencies h)) (given_by h (fills ++ f ∷ [])) new
given-add h fills f columns old middle new at is first second =
    two-add h (given_by h fills) (given_by h (fills ++ f ∷ [])) (quote_code h f.pair) (base_code h f.pair) columns.quote columns.base (buyer f) (seller f) (quote_of h f) (base_of h f) old middle new
    at.buys at.sells at.quote at.base (λ i j. total_push (paid h i (code_at (currencies h) j)) fills f) is first second

-- Room for what a fill adds.

-- the sums after one was added to
pub below-added : (rows columns : ℕ) (sums : ℕ → ℕ → ℕ) (old new : Table) (row column amount most i j : ℕ) → row < rows → column < columns → i < rows → j < columns → IsTable rows columns sums old → ((a b : ℕ) → sums a b ≤ most) → Added old new row column amount → sum_at new i j ≤ most + amount
below-added rows columns sums old new row column amount most i j p q r s is within added =
    omega (arith, (table-added rows columns sums old new row column amount p q is added).each i j r s, within i j, when_most (eqb row i && eqb column j) amount)

-- The same as the code has it: banks, columns and amounts as they were read.

pub added-as : (old new : Table) (row row' column amount amount' : ℕ) → row ≡ row' → amount ≡ amount' → Added old new row column amount → Added old new row' column amount'
added-as old new row row' column amount amount' p q added =
    subst (λ r. Added old new r column amount') p (subst (λ a. Added old new row column a) q added)

pub flows-add : (h : Header) (fills : List Fill) (f : Fill) (flows : Flows) (columns : Columns) (b s base quote : ℕ) (got got' gave gave' : Table) → IsTrade h f
    → ((d : Columns) → columns ≡ get_or flows.currencies.columns.items f.pair d) → b ≡ buyer f → s ≡ seller f → base ≡ base_of h f → quote ≡ quote_of h f
    → Added flows.received got b columns.base base → Added got got' s columns.quote quote → Added flows.paid gave b columns.quote quote → Added gave gave' s columns.base base
    → AreFlows h fills flows → AreFlows h (fills ++ f ∷ []) (record { currencies = flows.currencies; received = got'; paid = gave' })
flows-add h fills f flows columns b s base quote got got' gave gave' trade read is_buyer is_seller is_base is_quote one two three' four are =
    let at : Goes h f columns = goes h f flows.currencies columns trade are.currencies_are read in
    record {
      currencies_are = are.currencies_are;
      got = got-add h fills f columns flows.received got got' at are.got
          (added-as flows.received got b (buyer f) columns.base base (base_of h f) is_buyer is_base one)
          (added-as got got' s (seller f) columns.quote quote (quote_of h f) is_seller is_quote two);
      gave = given-add h fills f columns flows.paid gave gave' at are.gave
          (added-as flows.paid gave b (buyer f) columns.quote quote (quote_of h f) is_buyer is_quote three')
          (added-as gave gave' s (seller f) columns.base base (base_of h f) is_seller is_base four);
    }

-- What is known as a fill is about to be added.
pub record Flowing (h : Header) (flows : Flows) (columns : Columns) (b s base quote : ℕ) : Type 0 where
  pub buys : b < bank_count h
  pub sells : s < bank_count h
  pub base_in : columns.base < length (currencies h)
  pub quote_in : columns.quote < length (currencies h)
  pub base_most : base ≤ 4096000000000000000 * 1000000000000000000
  pub quote_most : quote ≤ 4096000000000000000 * 1000000000000000000
  pub got_sums : ℕ → ℕ → ℕ
  pub got : IsTable (bank_count h) (length (currencies h)) got_sums flows.received
  pub got_most : (i j : ℕ) → got_sums i j ≤ 4096000000000000000 * 2000000000000000000
  pub gave_sums : ℕ → ℕ → ℕ
  pub gave : IsTable (bank_count h) (length (currencies h)) gave_sums flows.paid
  pub gave_most : (i j : ℕ) → gave_sums i j ≤ 4096000000000000000 * 2000000000000000000

pub flowing : (h : Header) (f : Fill) (flows : Flows) (columns : Columns) (b s base quote : ℕ) → CanAdd h (λ fills. AreFlows h fills flows) f
    → ((d : Columns) → columns ≡ get_or flows.currencies.columns.items f.pair d) → b ≡ buyer f → s ≡ seller f → base ≡ base_of h f → quote ≡ quote_of h f
    → Flowing h flows columns b s base quote
flowing h f flows columns b s base quote can read is_buyer is_seller is_base is_quote =
    let trade : IsTrade h f = last-trade h can.0 f can.2.each in
    let at : Goes h f columns = goes h f flows.currencies columns trade can.1.currencies_are read in
    let before : AreTrades h can.0 = fewer-trades h can.0 f can.2 in
    record {
      buys = omega (arith, at.buys, is_buyer);
      sells = omega (arith, at.sells, is_seller);
      base_in = at.base.within;
      quote_in = at.quote.within;
      base_most = omega (arith, is_base, last-base h can.0 f can.2);
      quote_most = omega (arith, is_quote, last-quote h can.0 f can.2);
      got_sums = got_by h can.0;
      got = can.1.got;
      got_most = λ i j. received-fit h i (code_at (currencies h) j) can.0 before;
      gave_sums = given_by h can.0;
      gave = can.1.gave;
      gave_most = λ i j. paid-fit h i (code_at (currencies h) j) can.0 before;
    }

pub room-first : (rows columns : ℕ) (sums : ℕ → ℕ → ℕ) (table : Table) (row column amount : ℕ) → IsTable rows columns sums table → ((i j : ℕ) → sums i j ≤ 4096000000000000000 * 2000000000000000000) → row < rows → column < columns → amount ≤ 4096000000000000000 * 1000000000000000000
    → sum_at table row column + amount < 2 ^ 128
room-first rows columns sums table row column amount is most p q fits = omega (arith, is.each row column p q, most row column)

pub room-second : (rows columns : ℕ) (sums : ℕ → ℕ → ℕ) (old new : Table) (row column amount i j more : ℕ) → IsTable rows columns sums old → ((a b : ℕ) → sums a b ≤ 4096000000000000000 * 2000000000000000000) → row < rows → column < columns → amount ≤ 4096000000000000000 * 1000000000000000000
    → i < rows → j < columns → more ≤ 4096000000000000000 * 1000000000000000000 → Added old new row column amount → sum_at new i j + more < 2 ^ 128
room-second rows columns sums old new row column amount i j more is most p q fits r s fits' added =
    let now : sum_at new i j ≤ 4096000000000000000 * 2000000000000000000 + amount =
    below-added rows columns sums old new row column amount (4096000000000000000 * 2000000000000000000) i j p q r s is most added in
    omega arith
