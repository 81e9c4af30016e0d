-- How far the sums of a day's fills reach.
use Rattle.std.proofs.Common.{ℕ, zero, suc, ◌≡◌, ◌+◌, ◌*◌, ◌/◌, ◌^◌, ◌≤◌, ◌<◌, ◌&&◌, bytes_eq, List, [], ◌∷◌, ◌++◌, map, length, get_or, refl, arith}
use Rattle.std.specs.Prelude.{◌==◌}
use Rattle.std.proofs.lemmas.Nat.{mul-le, div-add-mod'}
use Rattle.std.proofs.lemmas.List.Elements.{recursion_from_All}
use Rattle.fx_rules.specs.declared.orders.Fill.{Fill}
use Rattle.fx_rules.specs.declared.session.PairRule.{PairRule}
use Rattle.fx_rules.specs.Lists.{Each, total}
use Rattle.fx_rules.specs.Session.{Header, IsSession, IsPairRule, pair_count, lot_of, decimals_of}
use Rattle.fx_rules.proofs.ListLemmas.{Each-weaker}
use Rattle.day_report.specs.Report.{base_of, quote_of, received, paid, share, buyer, seller, base_code, quote_code}
use Rattle.fx_rules.specs.inside.Trade.{IsTrade}
use Rattle.day_report.specs.Trades.{lots_in}
use Rattle.day_report.specs.inside.Trades.{fills_in, AreTrades}
use Rattle.day_report.proofs.Sums.{when, when_most, total_le, total_mul, total_push, total_filter}

lots-most : (rules : List PairRule) (pair : ℕ) → Each IsPairRule rules → pair < length rules → get_or (map (λ (rule : PairRule). rule.lot) rules) pair 0 ≤ 1000000000
lots-most [] pair all within = absurd (omega arith)
lots-most (rule ∷ rules) zero all within = all.0.lot_most
lots-most (rule ∷ rules) (suc pair) all within = lots-most rules pair all.1 (omega arith)

lot_of-most : (h : Header) (pair : ℕ) → IsSession h → pair < pair_count h → lot_of h pair ≤ 1000000000
lot_of-most h pair session within = lots-most h.pairs pair (recursion_from_All IsPairRule h.pairs session.rules) within

quotient_most : (n d : ℕ) → n / d ≤ n
quotient_most n zero = omega arith
quotient_most n (suc d) =
    let whole : n / suc d * suc d ≤ n = omega (arith, div-add-mod' n (suc d)) in
    let some : n / suc d * 1 ≤ n / suc d * suc d = mul-le (n / suc d) 1 (n / suc d) (suc d) (omega arith) (omega arith) in
    omega arith

-- what a lot moves at most
pub base_of-most : (h : Header) (f : Fill) → IsSession h → IsTrade h f → base_of h f ≤ f.lots * 1000000000
base_of-most h f session trade = mul-le f.lots (lot_of h f.pair) f.lots 1000000000 (omega arith) (lot_of-most h f.pair session trade.pair)

quote_numbers : (lots per ticks : ℕ) → per ≤ 1000000000 → ticks ≤ 1000000000 → lots * per * ticks ≤ lots * 1000000000000000000
quote_numbers lots per ticks p q =
    let product : per * ticks ≤ 1000000000 * 1000000000 = mul-le per ticks 1000000000 1000000000 p q in
    let all : lots * (per * ticks) ≤ lots * 1000000000000000000 = mul-le lots (per * ticks) lots 1000000000000000000 (omega arith) (omega arith) in
    omega arith

pub quote_of-most : (h : Header) (f : Fill) → IsSession h → IsTrade h f → quote_of h f ≤ f.lots * 1000000000000000000
quote_of-most h f session trade =
    let per : lot_of h f.pair / 10 ^ decimals_of h f.pair ≤ lot_of h f.pair = quotient_most (lot_of h f.pair) (10 ^ decimals_of h f.pair) in
    let lot : lot_of h f.pair ≤ 1000000000 = lot_of-most h f.pair session trade.pair in
    quote_numbers f.lots (lot_of h f.pair / 10 ^ decimals_of h f.pair) f.price (omega arith) trade.price

-- a sum of what is at most so much a lot
sum-most : (h : Header) (f : Fill → ℕ) (most : ℕ) (fills : List Fill) → ((fill : Fill) → IsTrade h fill → f fill ≤ fill.lots * most) → Each (IsTrade h) fills → total f fills ≤ lots_in fills * most
sum-most h f most fills each trades =
    let lots : total f fills ≤ total (λ (fill : Fill). fill.lots * most) fills =
    total_le f (λ fill. fill.lots * most) fills (Each-weaker (IsTrade h) (λ fill. f fill ≤ fill.lots * most) each fills trades) in
    omega (arith, total_mul (λ (fill : Fill). fill.lots) most fills)

part-most : (f : Fill → ℕ) (pair : ℕ) (fills : List Fill) → total f (fills_in pair fills) ≤ total f fills
part-most f pair [] = omega arith
part-most f pair (fill ∷ fills) =
    let all : total f (fills_in pair (fill ∷ fills)) ≡ total (λ (g : Fill). when (g.pair == pair) (f g)) (fill ∷ fills) = total_filter f (λ g. g.pair == pair) (fill ∷ fills) in
    let rest : total f (fills_in pair fills) ≡ total (λ (g : Fill). when (g.pair == pair) (f g)) fills = total_filter f (λ g. g.pair == pair) fills in
    omega (arith, part-most f pair fills, when_most (fill.pair == pair) (f fill))

count-most : (fills : List Fill) → Each (λ (f : Fill). 1 ≤ f.lots) fills → length fills ≤ lots_in fills
count-most [] all = omega arith
count-most (f ∷ fills) all = omega (arith, count-most fills all.1, all.0)

length_total : (fills : List Fill) → length fills ≡ total (λ (_ : Fill). 1) fills
length_total [] = refl
length_total (f ∷ fills) = let rest : length fills ≡ total (λ (_ : Fill). 1) fills = length_total fills in omega arith

-- a fill has a lot at least
pub all-fit : (h : Header) (fills : List Fill) → AreTrades h fills → length fills ≤ 4096000000000000000
all-fit h fills are = omega (arith, count-most fills (Each-weaker (IsTrade h) (λ f. 1 ≤ f.lots) (λ f trade. trade.least) fills are.each), are.lots)

pub count-fits : (h : Header) (pair : ℕ) (fills : List Fill) → AreTrades h fills → length (fills_in pair fills) ≤ 4096000000000000000
count-fits h pair fills are = omega (arith, length_total fills, length_total (fills_in pair fills), part-most (λ _. 1) pair fills, all-fit h fills are)

pub lots-fit : (h : Header) (pair : ℕ) (fills : List Fill) → AreTrades h fills → lots_in (fills_in pair fills) ≤ 4096000000000000000
lots-fit h pair fills are = omega (arith, part-most (λ f. f.lots) pair fills, are.lots)

product_fits : (sum lots most : ℕ) → sum ≤ lots * most → lots ≤ 4096000000000000000 → sum ≤ 4096000000000000000 * most
product_fits sum lots most within fits =
    let all : lots * most ≤ 4096000000000000000 * most = mul-le lots most 4096000000000000000 most fits (omega arith) in omega arith

pub bases-fit : (h : Header) (pair : ℕ) (fills : List Fill) → AreTrades h fills → total (base_of h) (fills_in pair fills) ≤ 4096000000000000000 * 1000000000
bases-fit h pair fills are =
    product_fits (total (base_of h) (fills_in pair fills)) (lots_in fills) 1000000000
    (omega (arith, part-most (base_of h) pair fills, sum-most h (base_of h) 1000000000 fills (λ f. base_of-most h f are.session) are.each)) are.lots

pub quotes-fit : (h : Header) (pair : ℕ) (fills : List Fill) → AreTrades h fills → total (quote_of h) (fills_in pair fills) ≤ 4096000000000000000 * 1000000000000000000
quotes-fit h pair fills are =
    product_fits (total (quote_of h) (fills_in pair fills)) (lots_in fills) 1000000000000000000
    (omega (arith, part-most (quote_of h) pair fills, sum-most h (quote_of h) 1000000000000000000 fills (λ f. quote_of-most h f are.session) are.each)) are.lots

share_most : (bank to : ℕ) (currency its : List ℕ) (amount : ℕ) → share bank currency to its amount ≤ amount
share_most bank to currency its amount = when_most (to == bank && bytes_eq its currency) amount

moved-most : (h : Header) (f : Fill) → IsSession h → IsTrade h f → base_of h f + quote_of h f ≤ f.lots * 2000000000000000000
moved-most h f session trade = omega (arith, base_of-most h f session trade, quote_of-most h f session trade)

received-most : (h : Header) (bank : ℕ) (currency : List ℕ) (f : Fill) → IsSession h → IsTrade h f → received h bank currency f ≤ f.lots * 2000000000000000000
received-most h bank currency f session trade =
    omega (arith, share_most bank (buyer f) currency (base_code h f.pair) (base_of h f), share_most bank (seller f) currency (quote_code h f.pair) (quote_of h f), moved-most h f session trade)

paid-most : (h : Header) (bank : ℕ) (currency : List ℕ) (f : Fill) → IsSession h → IsTrade h f → paid h bank currency f ≤ f.lots * 2000000000000000000
paid-most h bank currency f session trade =
    omega (arith, share_most bank (buyer f) currency (quote_code h f.pair) (quote_of h f), share_most bank (seller f) currency (base_code h f.pair) (base_of h f), moved-most h f session trade)

pub received-fit : (h : Header) (bank : ℕ) (currency : List ℕ) (fills : List Fill) → AreTrades h fills → total (received h bank currency) fills ≤ 4096000000000000000 * 2000000000000000000
received-fit h bank currency fills are =
    product_fits (total (received h bank currency) fills) (lots_in fills) 2000000000000000000
    (sum-most h (received h bank currency) 2000000000000000000 fills (λ f. received-most h bank currency f are.session) are.each) are.lots

pub paid-fit : (h : Header) (bank : ℕ) (currency : List ℕ) (fills : List Fill) → AreTrades h fills → total (paid h bank currency) fills ≤ 4096000000000000000 * 2000000000000000000
paid-fit h bank currency fills are =
    product_fits (total (paid h bank currency) fills) (lots_in fills) 2000000000000000000
    (sum-most h (paid h bank currency) 2000000000000000000 fills (λ f. paid-most h bank currency f are.session) are.each) are.lots

-- one fill more is one of the day's
pub last-trade : (h : Header) (fills : List Fill) (f : Fill) → Each (IsTrade h) (fills ++ f ∷ []) → IsTrade h f
last-trade h [] f all = all.0
last-trade h (g ∷ fills) f all = last-trade h fills f all.1

pub first-trades : (h : Header) (fills : List Fill) (f : Fill) → Each (IsTrade h) (fills ++ f ∷ []) → Each (IsTrade h) fills
first-trades h [] f all = tt
first-trades h (g ∷ fills) f all = (all.0, first-trades h fills f all.1)

pub fewer-trades : (h : Header) (fills : List Fill) (f : Fill) → AreTrades h (fills ++ f ∷ []) → AreTrades h fills
fewer-trades h fills f are = record {
  session = are.session;
  each = first-trades h fills f are.each;
  lots = omega (arith, are.lots, total_push (λ (g : Fill). g.lots) fills f);
}

pub last-lots : (h : Header) (fills : List Fill) (f : Fill) → AreTrades h (fills ++ f ∷ []) → f.lots ≤ 4096000000000000000
last-lots h fills f are = omega (arith, are.lots, total_push (λ (g : Fill). g.lots) fills f)

pub last-base : (h : Header) (fills : List Fill) (f : Fill) → AreTrades h (fills ++ f ∷ []) → base_of h f ≤ 4096000000000000000 * 1000000000
last-base h fills f are = product_fits (base_of h f) f.lots 1000000000 (base_of-most h f are.session (last-trade h fills f are.each)) (last-lots h fills f are)

pub last-quote : (h : Header) (fills : List Fill) (f : Fill) → AreTrades h (fills ++ f ∷ []) → quote_of h f ≤ 4096000000000000000 * 1000000000000000000
last-quote h fills f are = product_fits (quote_of h f) f.lots 1000000000000000000 (quote_of-most h f are.session (last-trade h fills f are.each)) (last-lots h fills f are)
