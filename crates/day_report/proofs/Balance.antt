-- In each currency the nets of all banks add up to 0.
use Rattle.std.proofs.Common.{ℕ, ◌≡◌, ◌+◌, ◌<◌, Bool, true, false, ◌&&◌, eqb, bytes_eq, ℤ, pos, ◌+ℤ◌, ◌-ℤ◌, List, [], ◌∷◌, ◌++◌, map, inl, inr, refl, ap, sym, ◌∙◌, arith}
use Rattle.std.proofs.lemmas.Bool.{cases_Bool}
use Rattle.std.proofs.lemmas.Int.{ints}
use Rattle.std.proofs.lemmas.List.{map-append}
use Rattle.std.proofs.lemmas.List.Elements.{filter-append}
use Rattle.std.specs.List.{filter, flat_map}
use Rattle.fx_amounts.specs.declared.side.Side.{Side}
use Rattle.fx_amounts.specs.declared.side.Side.TheVariants.{Buy, Sell}
use Rattle.fx_rules.specs.declared.orders.Fill.{Fill}
use Rattle.fx_rules.specs.Lists.{Each, total}
use Rattle.fx_rules.specs.Session.{Header, bank_count}
use Rattle.fx_rules.specs.State.{State}
use Rattle.fx_rules.specs.Lists.{below}
use Rattle.fx_rules.proofs.ListLemmas.{filter_cons_true, filter_cons_false}
use Rattle.day_report.specs.declared.rows.Net.{Net}
use Rattle.day_report.specs.Report.{base_of, quote_of, base_code, quote_code, currencies, by_side, buyer, seller, share, received, paid, net_of, nets_of, sum_of, balance}
use Rattle.fx_rules.specs.inside.Trade.{IsTrade}
use Rattle.day_report.proofs.Sums.{when, total_agree, total_add, total_swap, pick_below, total_zero}

joins : (a b c d : ℕ) (z : ℤ) → z ≡ pos c -ℤ pos d → (pos a -ℤ pos b) +ℤ z ≡ pos (a + c) -ℤ pos (b + d)
joins a b c d z is = omega (arith, ints)

sum_append : (xs ys : List ℤ) → sum_of (xs ++ ys) ≡ sum_of xs +ℤ sum_of ys
sum_append [] ys = omega (arith, ints)
sum_append (x ∷ xs) ys = let rest : sum_of (xs ++ ys) ≡ sum_of xs +ℤ sum_of ys = sum_append xs ys in omega (arith, ints)

balance-append : (currency : List ℕ) (xs ys : List Net) → balance currency (xs ++ ys) ≡ balance currency xs +ℤ balance currency ys
balance-append currency xs ys =
    let test : Net → Bool = λ net. bytes_eq net.currency currency in
    ap (λ (nets : List Net). sum_of (map (λ (net : Net). net.amount) nets)) (filter-append test xs ys)
    ∙ ap sum_of (map-append (λ (net : Net). net.amount) (filter test xs) (filter test ys))
    ∙ sum_append (map (λ (net : Net). net.amount) (filter test xs)) (map (λ (net : Net). net.amount) (filter test ys))

zero_add : (z : ℤ) → z ≡ (pos 0 -ℤ pos 0) +ℤ z
zero_add z = omega (arith, ints)

balance-cons : (currency : List ℕ) (net : Net) (r p : ℕ) (nets : List Net) → net.amount ≡ pos r -ℤ pos p → balance currency (net ∷ nets) ≡ (pos (when (bytes_eq net.currency currency) r) -ℤ pos (when (bytes_eq net.currency currency) p)) +ℤ balance currency nets
balance-cons currency net r p nets is =
    let test : Net → Bool = λ n. bytes_eq n.currency currency in
    elim (cases_Bool (bytes_eq net.currency currency)) [
      | inl kept ↦
          ap (λ (ns : List Net). sum_of (map (λ (n : Net). n.amount) ns)) (filter_cons_true test net nets kept)
          ∙ ap (λ (z : ℤ). z +ℤ balance currency nets) is
          ∙ ap (λ t. (pos (when t r) -ℤ pos (when t p)) +ℤ balance currency nets) (sym kept)
      | inr dropped ↦
          let none : balance currency nets ≡ (pos 0 -ℤ pos 0) +ℤ balance currency nets = zero_add (balance currency nets) in
          ap (λ (ns : List Net). sum_of (map (λ (n : Net). n.amount) ns)) (filter_cons_false test net nets dropped)
          ∙ none
          ∙ ap (λ t. (pos (when t r) -ℤ pos (when t p)) +ℤ balance currency nets) (sym dropped)
    ]

-- what a bank has of the codes that are this currency
got_in : Header → State → List ℕ → List (List ℕ) → ℕ → ℕ
got_in h S currency codes bank = total (λ code. when (bytes_eq code currency) (total (received h bank code) S.fills)) codes

gave_in : Header → State → List ℕ → List (List ℕ) → ℕ → ℕ
gave_in h S currency codes bank = total (λ code. when (bytes_eq code currency) (total (paid h bank code) S.fills)) codes

balance-bank : (h : Header) (S : State) (currency : List ℕ) (bank : ℕ) (codes : List (List ℕ)) → balance currency (map (net_of h S bank) codes) ≡ pos (got_in h S currency codes bank) -ℤ pos (gave_in h S currency codes bank)
unfolding got_in gave_in
balance-bank h S currency bank [] = refl
balance-bank h S currency bank (code ∷ codes) =
    let rest : balance currency (map (net_of h S bank) codes) ≡ pos (got_in h S currency codes bank) -ℤ pos (gave_in h S currency codes bank)
    = balance-bank h S currency bank codes in
    balance-cons currency (net_of h S bank code) (total (received h bank code) S.fills) (total (paid h bank code) S.fills) (map (net_of h S bank) codes) refl
    ∙ joins (when (bytes_eq code currency) (total (received h bank code) S.fills)) (when (bytes_eq code currency) (total (paid h bank code) S.fills))
    (got_in h S currency codes bank) (gave_in h S currency codes bank) (balance currency (map (net_of h S bank) codes)) rest

balance-banks : (h : Header) (S : State) (currency : List ℕ) (codes : List (List ℕ)) (banks : List ℕ) → balance currency (flat_map (λ bank. map (net_of h S bank) codes) banks) ≡ pos (total (got_in h S currency codes) banks) -ℤ pos (total (gave_in h S currency codes) banks)
balance-banks h S currency codes [] = refl
balance-banks h S currency codes (bank ∷ banks) =
    balance-append currency (map (net_of h S bank) codes) (flat_map (λ b. map (net_of h S b) codes) banks)
    ∙ ap (λ (z : ℤ). z +ℤ balance currency (flat_map (λ b. map (net_of h S b) codes) banks)) (balance-bank h S currency bank codes)
    ∙ joins (got_in h S currency codes bank) (gave_in h S currency codes bank) (total (got_in h S currency codes) banks) (total (gave_in h S currency codes) banks)
    (balance currency (flat_map (λ b. map (net_of h S b) codes) banks)) (balance-banks h S currency codes banks)

-- What all banks get of a currency by a fill is what they give.

by_side-below : (side : Side) (a b n : ℕ) → a < n → b < n → by_side side a b < n
by_side-below Buy a b n p q = p
by_side-below Sell a b n p q = q

pub buyer-below : (h : Header) (f : Fill) → IsTrade h f → buyer f < bank_count h
buyer-below h f trade = by_side-below f.taker_side f.taker f.maker (bank_count h) trade.taker trade.maker

pub seller-below : (h : Header) (f : Fill) → IsTrade h f → seller f < bank_count h
seller-below h f trade = by_side-below f.taker_side f.maker f.taker (bank_count h) trade.maker trade.taker

pub at_one : (a b : Bool) (n : ℕ) → b ≡ true → when (a && b) n ≡ when a n
at_one true b n is = ap (λ t. when t n) is
at_one false b n is = refl

pub at_none : (a b : Bool) (n : ℕ) → b ≡ false → when (a && b) n ≡ 0
at_none true b n is = ap (λ t. when t n) is
at_none false b n is = refl

equal : (got gave a b c d x y : ℕ) → got ≡ a + b → gave ≡ c + d → a ≡ x → b ≡ y → c ≡ y → d ≡ x → got ≡ gave
equal got gave a b c d x y p q r s t u = omega arith

-- the shares of all banks in an amount are the amount where its currency is this
pub shares : (n to amount : ℕ) (currency its : List ℕ) → to < n → total (λ bank. share bank currency to its amount) (below n) ≡ when (bytes_eq its currency) amount
shares n to amount currency its within =
    elim (cases_Bool (bytes_eq its currency)) [
      | inl is ↦
          total_agree (λ bank. share bank currency to its amount) (λ bank. when (eqb to bank) amount) (below n) (λ bank. at_one (eqb to bank) (bytes_eq its currency) amount is)
          ∙ pick_below n to amount within ∙ ap (λ t. when t amount) (sym is)
      | inr other ↦
          total_agree (λ bank. share bank currency to its amount) (λ _. 0) (below n) (λ bank. at_none (eqb to bank) (bytes_eq its currency) amount other)
          ∙ total_zero (below n) ∙ ap (λ t. when t amount) (sym other)
    ]

fill-balances : (h : Header) (f : Fill) (currency : List ℕ) → IsTrade h f → total (λ bank. received h bank currency f) (below (bank_count h)) ≡ total (λ bank. paid h bank currency f) (below (bank_count h))
fill-balances h f currency trade =
    let base_in : ℕ → ℕ → ℕ = λ to bank. share bank currency to (base_code h f.pair) (base_of h f) in
    let quote_in : ℕ → ℕ → ℕ = λ to bank. share bank currency to (quote_code h f.pair) (quote_of h f) in
    let got : total (λ bank. received h bank currency f) (below (bank_count h)) ≡ total (base_in (buyer f)) (below (bank_count h)) + total (quote_in (seller f)) (below (bank_count h))
    = total_add (base_in (buyer f)) (quote_in (seller f)) (below (bank_count h)) in
    let gave : total (λ bank. paid h bank currency f) (below (bank_count h)) ≡ total (quote_in (buyer f)) (below (bank_count h)) + total (base_in (seller f)) (below (bank_count h))
    = total_add (quote_in (buyer f)) (base_in (seller f)) (below (bank_count h)) in
    let base : (to : ℕ) → to < bank_count h → total (base_in to) (below (bank_count h)) ≡ when (bytes_eq (base_code h f.pair) currency) (base_of h f)
    = λ to within. shares (bank_count h) to (base_of h f) currency (base_code h f.pair) within in
    let quote : (to : ℕ) → to < bank_count h → total (quote_in to) (below (bank_count h)) ≡ when (bytes_eq (quote_code h f.pair) currency) (quote_of h f)
    = λ to within. shares (bank_count h) to (quote_of h f) currency (quote_code h f.pair) within in
    equal _ _ _ _ _ _ _ _ got gave (base (buyer f) (buyer-below h f trade)) (quote (seller f) (seller-below h f trade)) (quote (buyer f) (buyer-below h f trade)) (base (seller f) (seller-below h f trade))

fills-balance : (h : Header) (fills : List Fill) (currency : List ℕ) → Each (IsTrade h) fills → total (λ (f : Fill). total (λ bank. received h bank currency f) (below (bank_count h))) fills ≡ total (λ (f : Fill). total (λ bank. paid h bank currency f) (below (bank_count h))) fills
fills-balance h [] currency trades = refl
fills-balance h (f ∷ fills) currency trades =
    ap (λ n. n + total (λ (g : Fill). total (λ bank. received h bank currency g) (below (bank_count h))) fills) (fill-balances h f currency trades.0)
    ∙ ap (λ n. total (λ bank. paid h bank currency f) (below (bank_count h)) + n) (fills-balance h fills currency trades.1)

-- so it is over all fills, currency by currency
pub banks-balance : (h : Header) (fills : List Fill) (currency : List ℕ) → Each (IsTrade h) fills → total (λ bank. total (received h bank currency) fills) (below (bank_count h)) ≡ total (λ bank. total (paid h bank currency) fills) (below (bank_count h))
banks-balance h fills currency trades =
    total_swap (λ bank. received h bank currency) (below (bank_count h)) fills ∙ fills-balance h fills currency trades
    ∙ sym (total_swap (λ bank. paid h bank currency) (below (bank_count h)) fills)

pub when_total : (test : Bool) (f : ℕ → ℕ) (banks : List ℕ) → total (λ bank. when test (f bank)) banks ≡ when test (total f banks)
when_total true f banks = refl
when_total false f banks = total_zero banks

codes-balance : (h : Header) (S : State) (currency : List ℕ) (codes : List (List ℕ)) → Each (IsTrade h) S.fills → total (got_in h S currency codes) (below (bank_count h)) ≡ total (gave_in h S currency codes) (below (bank_count h))
unfolding got_in gave_in
codes-balance h S currency codes trades =
    let got : ℕ → List ℕ → ℕ = λ bank code. total (received h bank code) S.fills in
    let gave : ℕ → List ℕ → ℕ = λ bank code. total (paid h bank code) S.fills in
    total_swap (λ (bank : ℕ) (code : List ℕ). when (bytes_eq code currency) (got bank code)) (below (bank_count h)) codes
    ∙ total_agree (λ code. total (λ bank. when (bytes_eq code currency) (got bank code)) (below (bank_count h)))
    (λ code. total (λ bank. when (bytes_eq code currency) (gave bank code)) (below (bank_count h))) codes
    (λ code. when_total (bytes_eq code currency) (λ bank. got bank code) (below (bank_count h))
    ∙ ap (when (bytes_eq code currency)) (banks-balance h S.fills code trades)
    ∙ sym (when_total (bytes_eq code currency) (λ bank. gave bank code) (below (bank_count h))))
    ∙ sym (total_swap (λ (bank : ℕ) (code : List ℕ). when (bytes_eq code currency) (gave bank code)) (below (bank_count h)) codes)

none_left : (a b : ℕ) → a ≡ b → pos a -ℤ pos b ≡ pos 0
none_left a b same = omega (arith, ints)

pub nets-balance : (h : Header) (S : State) (currency : List ℕ) → Each (IsTrade h) S.fills → balance currency (nets_of h S) ≡ pos 0
nets-balance h S currency trades =
    balance-banks h S currency (currencies h) (below (bank_count h))
    ∙ none_left (total (got_in h S currency (currencies h)) (below (bank_count h))) (total (gave_in h S currency (currencies h)) (below (bank_count h)))
    (codes-balance h S currency (currencies h) trades)
