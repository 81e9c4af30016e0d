-- A fill is added to what banks are due.
use Rattle.std.proofs.Common.{ℕ, ◌≡◌, ◌+◌, ◌*◌, ◌^◌, ◌≤◌, ◌<◌, Bool, true, false, ◌&&◌, eqb, List, [], ◌∷◌, ◌++◌, length, get_or, inl, inr, refl, ap, sym, subst, ◌∙◌, arith}
use Rattle.std.proofs.lemmas.Bool.{cases_eq, eq-eqb, ne_eqb}
use Rattle.std.proofs.lemmas.Nat.{mul-add-lt, mul-le, same_from_place}
use Rattle.fx_rules.specs.declared.orders.Fill.{Fill}
use Rattle.fx_rules.specs.Lists.{total}
use Rattle.fx_rules.specs.Session.{Header, bank_count}
use Rattle.fx_rules.specs.inside.Trade.{IsTrade}
use Rattle.fx_rules.proofs.ListLemmas.{Each-of}
use Rattle.day_report.specs.declared.table.Table.{Table}
use Rattle.day_report.specs.declared.currencies.Columns.{Columns}
use Rattle.day_report.specs.Report.{base_of, quote_of, base_code, quote_code, currencies, buyer, seller, share, received}
use Rattle.day_report.specs.Table.{place, sum_at, HasShape}
use Rattle.day_report.specs.Sums.{code_at, StandsAt}
use Rattle.day_report.specs.inside.Trades.{AreTrades, CanAdd}
use Rattle.day_report.proofs.Sums.{when, when_most, total_push, total_le}
use Rattle.day_report.proofs.Bounds.{received-fit, last-trade, fewer-trades, last-base, last-quote}
use Rattle.day_report.proofs.FlowSums.{Added, added-as, Goes, goes, place-within, shape-added, table-added, share-at}
use Rattle.net_settle.specs.declared.dues.Dues.{Dues}
use Rattle.net_settle.specs.Payments.{due_by}
use Rattle.net_settle.specs.inside.Dues.{AreDues, due_in}

-- Rows.

pub row-within : (n a b : ℕ) → a < n → b < n → place n a b < n * n
row-within n a b p q = mul-add-lt a n b n p q

-- a cell for each two of at most 64 banks and each of at most 64 currencies
pub cells-fit : (banks columns : ℕ) → banks ≤ 64 → columns ≤ 64 → banks * banks * columns < 2 ^ 64
cells-fit banks columns p q =
    let rows : banks * banks ≤ 64 * 64 = mul-le banks banks 64 64 p p in
    let all : (banks * banks) * columns ≤ 4096 * 64 = mul-le (banks * banks) columns 4096 64 (omega arith) q in
    omega arith

row_true : (n x y a b : ℕ) → x ≡ a → y ≡ b → place n x y ≡ place n a b
row_true n x y a b p q = ap (λ z. z * n + y) p ∙ ap (λ z. a * n + z) q

-- to ask for a row is to ask for its two banks
row-test : (n x y a b : ℕ) → y < n → b < n → eqb (place n x y) (place n a b) ≡ (eqb y b && eqb x a)
row-test n x y a b p q =
    elim (cases_eq y b) [
      | inl same ↦ elim (cases_eq x a) [
        | inl also ↦ eq-eqb (place n x y) (place n a b) (row_true n x y a b also same)
            ∙ ap (λ t. true && t) (sym (eq-eqb x a also)) ∙ ap (λ t. t && eqb x a) (sym (eq-eqb y b same))
        | inr other ↦ ne_eqb (place n x y) (place n a b) (λ is. other (same_from_place x y a b n p q is).0)
            ∙ ap (λ t. true && t) (sym (ne_eqb x a other)) ∙ ap (λ t. t && eqb x a) (sym (eq-eqb y b same))
      ]
      | inr other ↦ ne_eqb (place n x y) (place n a b) (λ is. other (same_from_place x y a b n p q is).1)
          ∙ ap (λ t. t && eqb x a) (sym (ne_eqb y b other))
    ]

when_nest : (s t u : Bool) (m : ℕ) → when ((s && t) && u) m ≡ when s (when (t && u) m)
when_nest true t u m = refl
when_nest false t u m = refl

-- what is added to a row and a column is what the two banks of the row have of the column's currency
row-share : (h : Header) (n : ℕ) (code : List ℕ) (column to from amount a b j : ℕ) → from < n → b < n → StandsAt (currencies h) code column → j < length (currencies h)
    → when (eqb (place n to from) (place n a b) && eqb column j) amount ≡ when (eqb from b) (share a (code_at (currencies h) j) to code amount)
row-share h n code column to from amount a b j p q stands within =
    ap (λ t. when (t && eqb column j) amount) (row-test n to from a b p q) ∙ when_nest (eqb from b) (eqb to a) (eqb column j) amount
    ∙ ap (when (eqb from b)) (share-at h code column to amount a j stands within)

-- Sums.

at-added : (rows columns : ℕ) (old new : Table) (row column amount i j : ℕ) → HasShape rows columns old → row < rows → column < columns → i < rows → j < columns → Added old new row column amount
    → sum_at new i j ≡ sum_at old i j + when (eqb row i && eqb column j) amount
at-added rows columns old new row column amount i j shape p q r s added =
    (table-added rows columns (sum_at old) old new row column amount p q (record { shape = shape; each = λ x y within inside. refl }) added).each i j r s

due_by-most : (h : Header) (a b : ℕ) (c : List ℕ) (f : Fill) → due_by h a b c f ≤ received h a c f
due_by-most h a b c f =
    omega (
      arith,
      when_most (eqb (seller f) b) (share a c (buyer f) (base_code h f.pair) (base_of h f)),
      when_most (eqb (buyer f) b) (share a c (seller f) (quote_code h f.pair) (quote_of h f)),
    )

pub due-fit : (h : Header) (a b : ℕ) (c : List ℕ) (fills : List Fill) → AreTrades h fills → total (due_by h a b c) fills ≤ 4096000000000000000 * 2000000000000000000
due-fit h a b c fills trades =
    let part : total (due_by h a b c) fills ≤ total (received h a c) fills =
    total_le (due_by h a b c) (received h a c) fills (Each-of (λ f. due_by h a b c f ≤ received h a c f) fills (λ f among. due_by-most h a b c f)) in
    omega (arith, received-fit h a c fills trades)

-- What is known as a fill is about to be added: its banks, columns and amounts as the code has them.
pub record Going (h : Header) (f : Fill) (dues : Dues) (columns : Columns) (b s base quote : ℕ) : Type 0 where
  pub fills : List Fill
  pub are : AreDues h fills dues
  pub trades : AreTrades h (fills ++ f ∷ [])
  pub at : Goes h f columns
  pub buys : b ≡ buyer f
  pub sells : s ≡ seller f
  pub base_is : base ≡ base_of h f
  pub quote_is : quote ≡ quote_of h f

pub going : (h : Header) (f : Fill) (dues : Dues) (columns : Columns) (b s base quote : ℕ) → CanAdd h (λ fills. AreDues h fills dues) f
    → ((d : Columns) → columns ≡ get_or dues.currencies.columns.items f.pair d) → b ≡ buyer f → s ≡ seller f → base ≡ base_of h f → quote ≡ quote_of h f
    → Going h f dues columns b s base quote
going h f dues columns b s base quote can read is_buyer is_seller is_base is_quote = record {
  fills = can.0;
  are = can.1;
  trades = can.2;
  at = goes h f dues.currencies columns (last-trade h can.0 f can.2.each) can.1.currencies_are read;
  buys = is_buyer;
  sells = is_seller;
  base_is = is_base;
  quote_is = is_quote;
}

-- where the fill goes is within
pub record Within (dues : Dues) (columns : Columns) (b s : ℕ) : Type 0 where
  pub buyer_in : b < dues.banks
  pub seller_in : s < dues.banks
  pub base_in : columns.base < length dues.currencies.codes.items
  pub quote_in : columns.quote < length dues.currencies.codes.items

pub within : (h : Header) (f : Fill) (dues : Dues) (columns : Columns) (b s base quote : ℕ) → Going h f dues columns b s base quote → Within dues columns b s
within h f dues columns b s base quote go = record {
  buyer_in = omega (arith, go.buys, go.at.buys, go.are.banks_are);
  seller_in = omega (arith, go.sells, go.at.sells, go.are.banks_are);
  base_in = omega (arith, go.at.base.within, ap length go.are.currencies_are.codes_are);
  quote_in = omega (arith, go.at.quote.within, ap length go.are.currencies_are.codes_are);
}

-- a sum that is kept has room for a fill's amount
due-small : (h : Header) (fills : List Fill) (dues : Dues) (a b column : ℕ) → AreDues h fills dues → AreTrades h fills → a < dues.banks → b < dues.banks → column < length dues.currencies.codes.items
    → due_in dues a b column ≤ 4096000000000000000 * 2000000000000000000
due-small h fills dues a b column are trades p q r =
    omega (
      arith,
      are.each a b column (omega (arith, are.banks_are)) (omega (arith, are.banks_are)) (omega (arith, ap length are.currencies_are.codes_are)),
      due-fit h a b (code_at (currencies h) column) fills trades,
    )

fits : (sum amount : ℕ) → sum ≤ 4096000000000000000 * 2000000000000000000 → amount ≤ 4096000000000000000 * 1000000000000000000 → sum + amount < 2 ^ 128
fits sum amount p q = omega arith

fits_twice : (sum first t amount : ℕ) → sum ≤ 4096000000000000000 * 2000000000000000000 → t ≤ first → first ≤ 4096000000000000000 * 1000000000000000000 → amount ≤ 4096000000000000000 * 1000000000000000000 → (sum + t) + amount < 2 ^ 128
fits_twice sum first t amount p q r s = omega arith

small : (h : Header) (f : Fill) (dues : Dues) (columns : Columns) (b s base quote : ℕ) → Going h f dues columns b s base quote → (base ≤ 4096000000000000000 * 1000000000000000000) × (quote ≤ 4096000000000000000 * 1000000000000000000)
small h f dues columns b s base quote go =
    (omega (arith, go.base_is, last-base h go.fills f go.trades), omega (arith, go.quote_is, last-quote h go.fills f go.trades))

pub room-first : (h : Header) (f : Fill) (dues : Dues) (columns : Columns) (b s base quote r : ℕ) → Going h f dues columns b s base quote → r ≡ place dues.banks b s → sum_at dues.sums r columns.base + base < 2 ^ 128
room-first h f dues columns b s base quote r go is =
    let in' = within h f dues columns b s base quote go in
    let sum : due_in dues b s columns.base ≤ 4096000000000000000 * 2000000000000000000 =
    due-small h go.fills dues b s columns.base go.are (fewer-trades h go.fills f go.trades) in'.buyer_in in'.seller_in in'.base_in in
    fits (sum_at dues.sums r columns.base) base (omega (arith, ap (λ i. sum_at dues.sums i columns.base) is)) (small h f dues columns b s base quote go).0

pub first-within : (h : Header) (f : Fill) (dues : Dues) (columns : Columns) (b s base quote r : ℕ) → Going h f dues columns b s base quote → r ≡ place dues.banks b s → place dues.sums.columns r columns.base < length dues.sums.cells.items
first-within h f dues columns b s base quote r go is =
    let in' = within h f dues columns b s base quote go in
    place-within (dues.banks * dues.banks) (length dues.currencies.codes.items) dues.sums r columns.base go.are.places.shape
    (omega (arith, is, row-within dues.banks b s in'.buyer_in in'.seller_in)) in'.base_in

pub second-within : (h : Header) (f : Fill) (dues : Dues) (columns : Columns) (b s base quote r t : ℕ) (middle : Table) → Going h f dues columns b s base quote → r ≡ place dues.banks b s → t ≡ place dues.banks s b → Added dues.sums middle r columns.base base
    → place middle.columns t columns.quote < length middle.cells.items
second-within h f dues columns b s base quote r t middle go is is' added =
    let in' = within h f dues columns b s base quote go in
    place-within (dues.banks * dues.banks) (length dues.currencies.codes.items) middle t columns.quote
    (shape-added (dues.banks * dues.banks) (length dues.currencies.codes.items) dues.sums middle r columns.base base go.are.places.shape added)
    (omega (arith, is', row-within dues.banks s b in'.seller_in in'.buyer_in)) in'.quote_in

pub room-second : (h : Header) (f : Fill) (dues : Dues) (columns : Columns) (b s base quote r t : ℕ) (middle : Table) → Going h f dues columns b s base quote → r ≡ place dues.banks b s → t ≡ place dues.banks s b → Added dues.sums middle r columns.base base
    → sum_at middle t columns.quote + quote < 2 ^ 128
room-second h f dues columns b s base quote r t middle go is is' added =
    let in' = within h f dues columns b s base quote go in
    let sum : due_in dues s b columns.quote ≤ 4096000000000000000 * 2000000000000000000 =
    due-small h go.fills dues s b columns.quote go.are (fewer-trades h go.fills f go.trades) in'.seller_in in'.buyer_in in'.quote_in in
    let now : sum_at middle t columns.quote ≡ sum_at dues.sums t columns.quote + when (eqb r t && eqb columns.base columns.quote) base =
    at-added (dues.banks * dues.banks) (length dues.currencies.codes.items) dues.sums middle r columns.base base t columns.quote go.are.places.shape
    (omega (arith, is, row-within dues.banks b s in'.buyer_in in'.seller_in)) in'.base_in
    (omega (arith, is', row-within dues.banks s b in'.seller_in in'.buyer_in)) in'.quote_in added in
    let all : (sum_at dues.sums t columns.quote + when (eqb r t && eqb columns.base columns.quote) base) + quote < 2 ^ 128 =
    fits_twice (sum_at dues.sums t columns.quote) base (when (eqb r t && eqb columns.base columns.quote) base) quote
    (omega (arith, ap (λ i. sum_at dues.sums i columns.quote) is')) (when_most (eqb r t && eqb columns.base columns.quote) base)
    (small h f dues columns b s base quote go).0 (small h f dues columns b s base quote go).1 in
    omega arith

-- The sums behind both additions.

two_more : (new middle old x y sum part : ℕ) → new ≡ middle + y → middle ≡ old + x → old ≡ sum → x + y ≡ part → new ≡ sum + part
two_more new middle old x y sum part p q r s = omega arith

due-added : (h : Header) (f : Fill) (fills : List Fill) (n : ℕ) (columns : Columns) (old middle new : Table) (a b j : ℕ) → n ≡ bank_count h → Goes h f columns → HasShape (n * n) (length (currencies h)) old → a < n → b < n → j < length (currencies h)
    → Added old middle (place n (buyer f) (seller f)) columns.base (base_of h f) → Added middle new (place n (seller f) (buyer f)) columns.quote (quote_of h f)
    → sum_at old (place n a b) j ≡ total (due_by h a b (code_at (currencies h) j)) fills
    → sum_at new (place n a b) j ≡ total (due_by h a b (code_at (currencies h) j)) (fills ++ f ∷ [])
due-added h f fills n columns old middle new a b j count at shape p q within one two was =
    let buys : buyer f < n = omega (arith, at.buys) in
    let sells : seller f < n = omega (arith, at.sells) in
    let cell : place n a b < n * n = row-within n a b p q in
    two_more (sum_at new (place n a b) j) (sum_at middle (place n a b) j) (sum_at old (place n a b) j)
    (when (eqb (place n (buyer f) (seller f)) (place n a b) && eqb columns.base j) (base_of h f))
    (when (eqb (place n (seller f) (buyer f)) (place n a b) && eqb columns.quote j) (quote_of h f))
    (total (due_by h a b (code_at (currencies h) j)) fills) (due_by h a b (code_at (currencies h) j) f)
    (at-added (n * n) (length (currencies h)) middle new (place n (seller f) (buyer f)) columns.quote (quote_of h f) (place n a b) j
    (shape-added (n * n) (length (currencies h)) old middle (place n (buyer f) (seller f)) columns.base (base_of h f) shape one)
    (row-within n (seller f) (buyer f) sells buys) at.quote.within cell within two)
    (at-added (n * n) (length (currencies h)) old middle (place n (buyer f) (seller f)) columns.base (base_of h f) (place n a b) j shape
    (row-within n (buyer f) (seller f) buys sells) at.base.within cell within one)
    was
    (ap (λ m. m + when (eqb (place n (seller f) (buyer f)) (place n a b) && eqb columns.quote j) (quote_of h f))
    (row-share h n (base_code h f.pair) columns.base (buyer f) (seller f) (base_of h f) a b j sells q at.base within)
    ∙ ap (λ m. when (eqb (seller f) b) (share a (code_at (currencies h) j) (buyer f) (base_code h f.pair) (base_of h f)) + m)
    (row-share h n (quote_code h f.pair) columns.quote (seller f) (buyer f) (quote_of h f) a b j buys q at.quote within))
    ∙ sym (total_push (due_by h a b (code_at (currencies h) j)) fills f)

-- the rows of a fill's two banks, as the code has them
row_is : (n r x y to from : ℕ) → r ≡ place n x y → x ≡ to → y ≡ from → r ≡ place n to from
row_is n r x y to from is p q = is ∙ row_true n x y to from p q

shape-kept : (rows columns : ℕ) (old middle new : Table) (r t i j amount more : ℕ) → HasShape rows columns old → Added old middle r i amount → Added middle new t j more → HasShape rows columns new
shape-kept rows columns old middle new r t i j amount more shape one two =
    shape-added rows columns middle new t j more (shape-added rows columns old middle r i amount shape one) two

pub dues-added : (h : Header) (f : Fill) (fills : List Fill) (dues : Dues) (columns : Columns) (b s base quote r t : ℕ) (middle new : Table) → IsTrade h f
    → ((d : Columns) → columns ≡ get_or dues.currencies.columns.items f.pair d) → b ≡ buyer f → s ≡ seller f → base ≡ base_of h f → quote ≡ quote_of h f
    → r ≡ place dues.banks b s → t ≡ place dues.banks s b → Added dues.sums middle r columns.base base → Added middle new t columns.quote quote
    → AreDues h fills dues → AreDues h (fills ++ f ∷ []) (record { banks = dues.banks; currencies = dues.currencies; sums = new })
dues-added h f fills dues columns b s base quote r t middle new trade read buys sells is_base is_quote is_r is_t one two are =
    let at : Goes h f columns = goes h f dues.currencies columns trade are.currencies_are read in
    let first : Added dues.sums middle (place dues.banks (buyer f) (seller f)) columns.base (base_of h f) =
    added-as dues.sums middle r _ columns.base base _ (row_is dues.banks r b s (buyer f) (seller f) is_r buys sells) is_base one in
    let second : Added middle new (place dues.banks (seller f) (buyer f)) columns.quote (quote_of h f) =
    added-as middle new t _ columns.quote quote _ (row_is dues.banks t s b (seller f) (buyer f) is_t sells buys) is_quote two in
    let shape : HasShape (dues.banks * dues.banks) (length (currencies h)) dues.sums =
    subst (λ (codes : List (List ℕ)). HasShape (dues.banks * dues.banks) (length codes) dues.sums) are.currencies_are.codes_are are.places.shape in
    record {
      places = record {
        banks_most = are.places.banks_most;
        shape = shape-kept (dues.banks * dues.banks) (length dues.currencies.codes.items) dues.sums middle new _ _ _ _ _ _ are.places.shape first second;
      };
      banks_are = are.banks_are;
      currencies_are = are.currencies_are;
      each = λ a c j p q within.
          due-added h f fills dues.banks columns dues.sums middle new a c j are.banks_are at shape (omega (arith, are.banks_are)) (omega (arith, are.banks_are)) within first second (are.each a c j p q within);
    }
