-- What a bank is due from all banks is what it gets, and what all are due from it is what it gives.
use Rattle.std.proofs.Common.{ℕ, ◌≡◌, ◌+◌, ◌<◌, false, eqb, bytes_eq, pos, ◌-ℤ◌, List, [], ◌∷◌, map, length, refl, ap, sym, ◌∙◌, arith}
use Rattle.std.proofs.lemmas.Int.{ints}
use Rattle.fx_rules.specs.declared.orders.Fill.{Fill}
use Rattle.fx_rules.specs.Lists.{Each, total, below}
use Rattle.fx_rules.specs.Session.{Header, bank_count, pair_count}
use Rattle.fx_rules.specs.State.{State}
use Rattle.fx_rules.specs.inside.Trade.{IsTrade}
use Rattle.fx_rules.proofs.ListLemmas.{Each-weaker}
use Rattle.day_report.specs.declared.currencies.Columns.{Columns}
use Rattle.day_report.specs.declared.currencies.Currencies.{Currencies}
use Rattle.day_report.specs.Report.{base_of, quote_of, base_code, quote_code, currencies, buyer, seller, share, received, paid, net_of, sum_of}
use Rattle.day_report.specs.Sums.{code_at, StandsAt, AreCurrencies}
use Rattle.day_report.proofs.Sums.{when, total_add, total_swap, total_zero, pick_below}
use Rattle.day_report.proofs.Balance.{buyer-below, seller-below, at_none, shares, when_total}
use Rattle.net_settle.specs.Payments.{due_by, due, flow}
use Rattle.net_settle.proofs.Twos.{when_and, when_zero}

pub total-each : {X : Type 0} (f g : X → ℕ) (xs : List X) → Each (λ x. f x ≡ g x) xs → total f xs ≡ total g xs
total-each f g [] all = refl
total-each f g (x ∷ xs) all = ap (λ n. n + total f xs) all.0 ∙ ap (λ n. g x + n) (total-each f g xs all.1)

by-fills : (h : Header) (n : ℕ) (part : ℕ → Fill → ℕ) (whole : Fill → ℕ) (fills : List Fill) → ((f : Fill) → IsTrade h f → total (λ k. part k f) (below n) ≡ whole f) → Each (IsTrade h) fills
    → total (λ k. total (part k) fills) (below n) ≡ total whole fills
by-fills h n part whole fills each trades =
    total_swap part (below n) fills
    ∙ total-each (λ (f : Fill). total (λ k. part k f) (below n)) whole fills (Each-weaker (IsTrade h) (λ f. total (λ k. part k f) (below n) ≡ whole f) each fills trades)

fill-received : (h : Header) (a : ℕ) (c : List ℕ) (f : Fill) → IsTrade h f → total (λ b. due_by h a b c f) (below (bank_count h)) ≡ received h a c f
fill-received h a c f trade =
    let base : ℕ = share a c (buyer f) (base_code h f.pair) (base_of h f) in
    let quote : ℕ = share a c (seller f) (quote_code h f.pair) (quote_of h f) in
    total_add (λ b. when (eqb (seller f) b) base) (λ b. when (eqb (buyer f) b) quote) (below (bank_count h))
    ∙ ap (λ n. n + total (λ b. when (eqb (buyer f) b) quote) (below (bank_count h))) (pick_below (bank_count h) (seller f) base (seller-below h f trade))
    ∙ ap (λ n. base + n) (pick_below (bank_count h) (buyer f) quote (buyer-below h f trade))

pub dues-received : (h : Header) (fills : List Fill) (a : ℕ) (c : List ℕ) → Each (IsTrade h) fills → total (λ b. total (due_by h a b c) fills) (below (bank_count h)) ≡ total (received h a c) fills
dues-received h fills a c trades = by-fills h (bank_count h) (λ b. due_by h a b c) (received h a c) fills (λ f trade. fill-received h a c f trade) trades

-- what all get of an amount that this bank gives
all-shares : (n a from to amount : ℕ) (c its : List ℕ) → to < n → total (λ b. when (eqb from a) (share b c to its amount)) (below n) ≡ share a c from its amount
all-shares n a from to amount c its within =
    when_total (eqb from a) (λ b. share b c to its amount) (below n) ∙ ap (when (eqb from a)) (shares n to amount c its within)
    ∙ sym (when_and (eqb from a) (bytes_eq its c) amount)

turned : (x y all : ℕ) → all ≡ x + y → all ≡ y + x
turned x y all is = omega arith

fill-paid : (h : Header) (a : ℕ) (c : List ℕ) (f : Fill) → IsTrade h f → total (λ b. due_by h b a c f) (below (bank_count h)) ≡ paid h a c f
fill-paid h a c f trade =
    let base : ℕ → ℕ = λ b. when (eqb (seller f) a) (share b c (buyer f) (base_code h f.pair) (base_of h f)) in
    let quote : ℕ → ℕ = λ b. when (eqb (buyer f) a) (share b c (seller f) (quote_code h f.pair) (quote_of h f)) in
    turned (share a c (seller f) (base_code h f.pair) (base_of h f)) (share a c (buyer f) (quote_code h f.pair) (quote_of h f)) (total (λ b. base b + quote b) (below (bank_count h)))
    (total_add base quote (below (bank_count h))
    ∙ ap (λ n. n + total quote (below (bank_count h))) (all-shares (bank_count h) a (seller f) (buyer f) (base_of h f) c (base_code h f.pair) (buyer-below h f trade))
    ∙ ap (λ n. share a c (seller f) (base_code h f.pair) (base_of h f) + n) (all-shares (bank_count h) a (buyer f) (seller f) (quote_of h f) c (quote_code h f.pair) (seller-below h f trade)))

pub dues-paid : (h : Header) (fills : List Fill) (a : ℕ) (c : List ℕ) → Each (IsTrade h) fills → total (λ b. total (due_by h b a c) fills) (below (bank_count h)) ≡ total (paid h a c) fills
dues-paid h fills a c trades = by-fills h (bank_count h) (λ b. due_by h b a c) (paid h a c) fills (λ f trade. fill-paid h a c f trade) trades

-- The flows of a bank.

sum-flows : (f g : ℕ → ℕ) (xs : List ℕ) → sum_of (map (λ k. pos (f k) -ℤ pos (g k)) xs) ≡ pos (total f xs) -ℤ pos (total g xs)
sum-flows f g [] = refl
sum-flows f g (x ∷ xs) =
    let rest : sum_of (map (λ k. pos (f k) -ℤ pos (g k)) xs) ≡ pos (total f xs) -ℤ pos (total g xs) = sum-flows f g xs in
    omega (arith, ints)

pub flows-are-nets : (h : Header) (S : State) (bank : ℕ) (c : List ℕ) → Each (IsTrade h) S.fills
    → sum_of (map (λ other. flow h S bank other c) (below (bank_count h))) ≡ (net_of h S bank c).amount
flows-are-nets h S bank c trades =
    sum-flows (λ other. due h S bank other c) (λ other. due h S other bank c) (below (bank_count h))
    ∙ ap (λ n. pos n -ℤ pos (total (λ other. due h S other bank c) (below (bank_count h)))) (dues-received h S.fills bank c trades)
    ∙ ap (λ n. pos (total (received h bank c) S.fills) -ℤ pos n) (dues-paid h S.fills bank c trades)

-- A code that is no currency.

abbrev pub Absent : Header → List ℕ → Type 0
Absent h c = (k : ℕ) → k < length (currencies h) → bytes_eq (code_at (currencies h) k) c ≡ false

-- the codes of the session's pairs are among its currencies
pub record CodesStand (h : Header) : Type 0 where
  pub base : (pair : ℕ) → pair < pair_count h → (k : ℕ) × StandsAt (currencies h) (base_code h pair) k
  pub quote : (pair : ℕ) → pair < pair_count h → (k : ℕ) × StandsAt (currencies h) (quote_code h pair) k

pub codes-stand : (h : Header) (held : Currencies) → AreCurrencies h held → CodesStand h
codes-stand h held are =
    let none : Columns = record { base = 0; quote = 0 } in
    record {
      base = λ pair within. (_, are.bases pair none within);
      quote = λ pair within. (_, are.quotes pair none within);
    }

code-absent : (h : Header) (code c : List ℕ) (k : ℕ) → StandsAt (currencies h) code k → Absent h c → bytes_eq code c ≡ false
code-absent h code c k stands absent = ap (λ x. bytes_eq x c) (sym stands.is) ∙ absent k stands.within

fill-absent : (h : Header) (a b : ℕ) (c : List ℕ) (f : Fill) → CodesStand h → Absent h c → IsTrade h f → due_by h a b c f ≡ 0
fill-absent h a b c f stand absent trade =
    let base = stand.base f.pair trade.pair in
    let quote = stand.quote f.pair trade.pair in
    ap (λ n. when (eqb (seller f) b) n + when (eqb (buyer f) b) (share a c (seller f) (quote_code h f.pair) (quote_of h f)))
    (at_none (eqb (buyer f) a) (bytes_eq (base_code h f.pair) c) (base_of h f) (code-absent h (base_code h f.pair) c base.0 base.1 absent))
    ∙ ap (λ n. when (eqb (seller f) b) 0 + when (eqb (buyer f) b) n)
    (at_none (eqb (seller f) a) (bytes_eq (quote_code h f.pair) c) (quote_of h f) (code-absent h (quote_code h f.pair) c quote.0 quote.1 absent))
    ∙ ap (λ n. n + when (eqb (buyer f) b) 0) (when_zero (eqb (seller f) b)) ∙ ap (λ n. 0 + n) (when_zero (eqb (buyer f) b))

pub due-absent : (h : Header) (fills : List Fill) (a b : ℕ) (c : List ℕ) → CodesStand h → Absent h c → Each (IsTrade h) fills → total (due_by h a b c) fills ≡ 0
due-absent h fills a b c stand absent trades =
    total-each (due_by h a b c) (λ _. 0) fills (Each-weaker (IsTrade h) (λ f. due_by h a b c f ≡ 0) (λ f trade. fill-absent h a b c f stand absent trade) fills trades)
    ∙ total_zero fills

pub none-below : (f : ℕ → ℕ) (xs : List ℕ) → ((k : ℕ) → f k ≡ 0) → total f xs ≡ 0
none-below f [] none = refl
none-below f (x ∷ xs) none = ap (λ n. n + total f xs) (none x) ∙ ap (λ n. 0 + n) (none-below f xs none)

pub received-absent : (h : Header) (fills : List Fill) (a : ℕ) (c : List ℕ) → CodesStand h → Absent h c → Each (IsTrade h) fills → total (received h a c) fills ≡ 0
received-absent h fills a c stand absent trades =
    sym (dues-received h fills a c trades) ∙ none-below (λ b. total (due_by h a b c) fills) (below (bank_count h)) (λ b. due-absent h fills a b c stand absent trades)

pub paid-absent : (h : Header) (fills : List Fill) (a : ℕ) (c : List ℕ) → CodesStand h → Absent h c → Each (IsTrade h) fills → total (paid h a c) fills ≡ 0
paid-absent h fills a c stand absent trades =
    sym (dues-paid h fills a c trades) ∙ none-below (λ b. total (due_by h b a c) fills) (below (bank_count h)) (λ b. due-absent h fills b a c stand absent trades)
