-- What is known of an order that is open to a taker, and of the fill with it.
use Rattle.std.proofs.Common.{ℕ, ◌≡◌, ◌≢◌, ◌*◌, ◌/◌, ◌≤◌, ◌<◌, true, not, ◌&&◌, eqb, leb, ltb, List, ap, sym, arith}
use Rattle.std.proofs.lemmas.Bool.{and_parts, eqb-true, eqb-false, leb-true, ltb-true, not-true}
use Rattle.std.proofs.Math.Nat.{mul-le-mul_left}
use Rattle.std.specs.List.{filter}
use Rattle.fx_rules.specs.declared.orders.ActiveOrder.{ActiveOrder}
use Rattle.fx_rules.specs.declared.orders.Resting.{Resting}
use Rattle.fx_rules.specs.Lists.{Among}
use Rattle.fx_rules.specs.Session.{Header, bank_count, weight_of}
use Rattle.fx_rules.specs.State.{State, cost, line, reach, orders_in}
use Rattle.fx_amounts.specs.Price.{crosses}
use Rattle.fx_rules.specs.Sweep.{Taker, is_open, is_opposite, open_orders, amount, fill_with}
use Rattle.fx_rules.specs.Sound.{IsSound, IsKept}
use Rattle.fx_rules.proofs.ListLemmas.{Among-filter, Among-map, Each-among}
use Rattle.fx_rules.proofs.Credit.{IsAllowed}

-- what it says that an order is open to a taker
pub record IsOpen (t : Taker) (owner_reach : ℕ) (o : Resting) : Type 0 where
  pub opposite : is_opposite t.side o.side ≡ true
  pub other : o.bank ≢ t.bank
  pub reach : 1 ≤ owner_reach
  pub crosses : crosses t.side t.price o.price ≡ true
  pub earlier : o.arrival < t.arrival

pub is_open-says : (t : Taker) (r : ℕ) (o : Resting) → is_open t r o ≡ true → IsOpen t r o
is_open-says t r o h =
    let opp = is_opposite t.side o.side in
    let oth = not (eqb o.bank t.bank) in
    let rch = leb 1 r in
    let crs = crosses t.side t.price o.price in
    let ear = ltb o.arrival t.arrival in
    let p4 = and_parts (opp && oth && rch && crs) ear h in
    let p3 = and_parts (opp && oth && rch) crs p4.0 in
    let p2 = and_parts (opp && oth) rch p3.0 in
    let p1 = and_parts opp oth p2.0 in
    record {
      opposite = p1.0;
      other = eqb-false o.bank t.bank (not-true (eqb o.bank t.bank) p1.1);
      reach = leb-true 1 r p2.1;
      crosses = p3.1;
      earlier = ltb-true o.arrival t.arrival p4.1;
    }

-- an order of a pair's book is an active order of that pair
pub orders_in-among : (pair : ℕ) (orders : List ActiveOrder) (o : Resting) → Among o (orders_in pair orders) → (a : ActiveOrder) × Among a orders × (a.pair ≡ pair) × (o ≡ a.order)
orders_in-among pair orders o there =
    let found = Among-map (λ (a : ActiveOrder). a.order) (filter (λ a. eqb a.pair pair) orders) o there in
    let kept = Among-filter (λ (a : ActiveOrder). eqb a.pair pair) orders found.0 found.1 in
    (found.0, kept.0, eqb-true found.0.pair pair kept.1, found.2)

-- an order that is open to a taker rests in its pair
pub open-among : (h : Header) (S : State) (t : Taker) (o : Resting) → Among o (open_orders h S t) → IsOpen t (reach h S t.bank o.bank t.pair) o × ((a : ActiveOrder) × Among a S.orders × (a.pair ≡ t.pair) × (o ≡ a.order))
open-among h S t o there =
    let found = Among-filter (λ (q : Resting). is_open t (reach h S t.bank q.bank t.pair) q) (orders_in t.pair S.orders) o there in
    (is_open-says t (reach h S t.bank o.bank t.pair) o found.1, orders_in-among t.pair S.orders o found.0)

cost_fits : (line weight lots : ℕ) → 0 < weight → lots ≤ line / weight → lots * weight ≤ line
cost_fits line weight lots some h = omega (arith, mul-le-mul_left weight h)

-- a fill for an amount costs no more than the line
pub cost-amount : (h : Header) (S : State) (t : Taker) (o : Resting) → 0 < weight_of h t.pair → cost h (fill_with t o (amount t o (reach h S t.bank o.bank t.pair))) ≤ line h S t.bank o.bank
cost-amount h S t o some = cost_fits (line h S t.bank o.bank) (weight_of h t.pair) (amount t o (reach h S t.bank o.bank t.pair)) some (omega arith)

pub amount_least : (t : Taker) (o : Resting) (r : ℕ) → 1 ≤ t.left → 1 ≤ o.left → 1 ≤ r → 1 ≤ amount t o r
amount_least t o r a b c = omega arith

-- a sound state knows each order that is open to a taker
pub record IsMaker (h : Header) (S : State) (t : Taker) (o : Resting) : Type 0 where
  pub is_open : IsOpen t (reach h S t.bank o.bank t.pair) o
  pub active : ActiveOrder
  pub among : Among active S.orders
  pub pair : active.pair ≡ t.pair
  pub order : o ≡ active.order
  pub kept : IsKept h S.counts active

pub maker_of : (h : Header) (S : State) (t : Taker) (o : Resting) → IsSound h S → Among o (open_orders h S t) → IsMaker h S t o
maker_of h S t o sound there =
    let found = open-among h S t o there in
    record {
      is_open = found.0;
      active = found.1.0;
      among = found.1.1;
      pair = found.1.2;
      order = found.1.3;
      kept = Each-among (IsKept h S.counts) S.orders found.1.0 sound.kept found.1.1;
    }

-- the fill with an open order is one that the credit allows
pub allowed-open : (h : Header) (S : State) (t : Taker) (o : Resting) → IsSound h S → t.bank < bank_count h → 0 < weight_of h t.pair → 1 ≤ t.left → Among o (open_orders h S t) → IsAllowed h S (fill_with t o (amount t o (reach h S t.bank o.bank t.pair)))
allowed-open h S t o sound bank some left there =
    let m = maker_of h S t o sound there in
    let owner : o.bank ≡ m.active.order.bank = ap (λ (q : Resting). q.bank) m.order in
    let lots : o.left ≡ m.active.order.left = ap (λ (q : Resting). q.left) m.order in
    record {
      differ = λ e. m.is_open.other (sym e);
      taker = bank;
      maker = omega (arith, m.kept.bank);
      least = omega (arith, m.kept.left.0, m.is_open.reach);
      credit = cost-amount h S t o some;
    }
