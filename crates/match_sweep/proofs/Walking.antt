-- The fills of a walk so far, and what they come to at its end.
use Rattle.std.proofs.Common.{ℕ, ◌≡◌, ◌+◌, ◌-◌, ◌*◌, ◌/◌, ◌^◌, ◌≤◌, ◌<◌, true, false, ◌&&◌, List, [], ◌∷◌, ◌++◌, length, map, replicate, get_or, slice_index, Option, Some, None, inl, inr, refl, ap, sym, subst, ◌∙◌, arith, append_assoc, append-nil}
use Rattle.std.proofs.Math.Nat.{add-mul, mul-le-mul_left}
use Rattle.std.proofs.lemmas.Bool.{and_parts, both_ways, cases_lt}
use Rattle.std.proofs.lemmas.List.{get_or_past, length-replicate}
use Rattle.std.specs.Option.{IfSome}
use Rattle.fx_amounts.specs.Price.{crosses}
use Rattle.fx_amounts.specs.Quantity.{IsWeight}
use Rattle.fx_amounts.specs.Side.{opposite}
use Rattle.fx_amounts.specs.declared.side.Side.{Side}
use Rattle.fx_amounts.specs.declared.side.Side.TheVariants.{Buy, Sell}
use Rattle.fx_rules.specs.declared.orders.Fill.{Fill}
use Rattle.fx_rules.specs.declared.orders.Resting.{Resting}
use Rattle.fx_rules.specs.Lists.{Among, Each, EachPair, below, total}
use Rattle.fx_rules.specs.Sound.{ArrivesBefore}
use Rattle.fx_rules.specs.Sweep.{Taker, is_open, is_opposite}
use Rattle.fx_rules.specs.State.{at_most}
use Rattle.fx_rules.specs.Plan.{Planned, is_behind, open_behind}
use Rattle.fx_rules.proofs.Below.{get_or_below, length-map_below}
use Rattle.fx_rules.proofs.ListLemmas.{Among-filter, Each-among}
use Rattle.fx_rules.proofs.Opens.{is_open-says}
use Rattle.global_book.specs.Book.{Book, IsBook, IsHeld}
use Rattle.global_book.specs.Heads.{Heads, IsBegun, head_in}
use Rattle.global_book.proofs.Sought.{opposite-opposite}
use Rattle.credit_lines.specs.Credit.{Credit, IsCredit, left_in, line_in, room_in}
use Rattle.match_sweep.specs.inside.Walks.{FromHere, HasCome, IsAlong, IsByLines, IsHeadOf, IsWalk, LeadsOn, StepsOn, left_with}
use Rattle.match_sweep.specs.declared.walk.Walk.{Walk}
use Rattle.match_sweep.proofs.Picking.{none_among}
use Rattle.match_sweep.proofs.Planning.{planned-agrees, planned-paid, planned-sum}
use Rattle.match_sweep.proofs.Stepping.{IsOneOf, next-first, next-is, owners}
use Rattle.match_sweep.proofs.Tables.{replicate-at, total-most}

-- A walk made these fills since the beginning of a sweep, and the last of them with this order: whatever it makes from here, all of them
-- are the sweep.
pub record Gone {n g : ℕ} (book : Book) (credit : Credit) (weight : ℕ) (t : Taker) (now : Walk n g) (fills : List Fill) : Type 0 where
  pub last : Option Resting
  pub walk : IsWalk credit now
  pub come : 1 ≤ now.order.left → HasCome credit now last
  pub orders : now.heads.orders ≡ book.orders
  pub arrival : now.order.arrival ≡ t.arrival
  pub goes_on : (more : List Fill) (left : ℕ) → FromHere credit now last more left → IsByLines book credit weight t (fills ++ more) left

-- The beginning.

head-within : (n : ℕ) (book : Book) (t : Taker) (heads : Heads) → IsBegun book (opposite t.side) t.price n heads → (bank : ℕ) → IfSome (head_in heads bank) (IsHeadOf t.side heads.orders bank)
head-within n book t heads begun bank =
    of-one (head_in heads bank) (next-is (opposite t.side) t.side bank None book.orders (opposite-opposite t.side) (head_in heads bank) (begun.best bank))
  where
    of-one : (found : Option Resting) → IfSome found (IsOneOf t.side bank None book.orders) → IfSome found (IsHeadOf t.side heads.orders bank)
    of-one None is = tt
    of-one (Some head) is = record { there = subst (Among head) (sym begun.orders_are) is.there; owner = is.owner; opposite = is.opposite }

all-behind : (side : Side) (found : Option Resting) → IfSome found (λ (h : Resting). is_behind side None h ≡ true)
all-behind side None = tt
all-behind side (Some head) = refl

module _ {n g : ℕ} (book : Book) (credit : Credit) (weight : ℕ) (t : Taker) (heads : Heads) (valid : IsBook book) (banks : book.banks ≡ credit.banks) (begun : IsBegun book (opposite t.side) t.price n heads) where
  abbrev pub first_walk : Walk n g
  first_walk = record { order = t; weight = weight; used = replicate n 0; heads = heads }

  pub gone-begins : t.bank < credit.banks → IsWeight weight → credit.banks ≤ n → Gone book credit weight t first_walk []
  gone-begins bank weighs few = record {
    last = None;
    walk = record {
      rising = subst (λ (os : List Resting). EachPair ArrivesBefore os) (sym begun.orders_are) valid.rising;
      held = subst (λ (os : List Resting). Each (IsHeld credit.banks) os) (sym begun.orders_are) (subst (λ (n : ℕ). Each (IsHeld n) book.orders) banks valid.held);
      bank = bank;
      banks = few;
      weight = weighs;
      side = begun.side_is;
      limit = begun.limit_is;
      count = begun.count;
      full = length-replicate n 0;
      used = λ b. omega (arith, replicate-at {X = ℕ} 0 n b);
      heads = head-within n book t heads begun;
    };
    come = λ _. record {
      behind = λ b. all-behind t.side (head_in heads b);
      all = λ o there opens behind.
          let in_book : Among o book.orders = subst (Among o) begun.orders_are there in
          let held : IsHeld book.banks o = Each-among (IsHeld book.banks) book.orders o valid.held in_book in
          next-first (opposite t.side) t.side o.bank None book.orders (opposite-opposite t.side) (head_in heads o.bank) (begun.best o.bank) o
          (record { there = in_book; owner = refl; opposite = (is_open-says t (left_with credit first_walk o.bank / weight) o opens).opposite; behind = refl }) held.arrival_most;
    };
    orders = begun.orders_are;
    arrival = refl;
    goes_on = λ more left from.
        planned-agrees weight (left_with credit first_walk) (line_in credit t.bank) book.orders t None more left (λ o there. inl (no-less (line_in credit t.bank o.bank) (slice_index (replicate n 0) o.bank) (replicate-at {X = ℕ} 0 n o.bank)))
        (subst (λ (os : List Resting). Planned weight (left_with credit first_walk) os t None more left) begun.orders_are from);
  }
    where
      no-less : (line used : ℕ) → used ≡ 0 → line - used ≡ line
      no-less line used none = omega (arith, none)

-- One fill more, and the end.

module _ {n g : ℕ} (book : Book) (credit : Credit) (weight : ℕ) (t : Taker) (now next : Walk n g) (fills made : List Fill) (gone : Gone book credit weight t now fills) where
  pub gone-on : (fill : Fill) → made ≡ fills ++ fill ∷ [] → ((last : Option Resting) → (1 ≤ now.order.left → HasCome credit now last) → LeadsOn credit now next last fill) → IsWalk credit next → IsAlong now next
      → Gone book credit weight t next made
  gone-on fill is steps walk along =
      let leads = steps gone.last gone.come in
      record {
        last = Some leads.maker;
        walk = walk;
        come = leads.has_come;
        orders = along.orders ∙ gone.orders;
        arrival = along.arrival ∙ gone.arrival;
        goes_on = λ more left from.
            subst (λ (fs : List Fill). IsByLines book credit weight t fs left) (sym (append_assoc fills (fill ∷ []) more) ∙ ap (λ (fs : List Fill). fs ++ more) (sym is))
            (gone.goes_on (fill ∷ more) left (leads.goes_on more left from));
      }

  pub gone-whole : ((last : Option Resting) → (1 ≤ now.order.left → HasCome credit now last) → StepsOn credit now next last None) → made ≡ fills → IsByLines book credit weight t made next.order.left
  gone-whole steps is =
      let step = steps gone.last gone.come in
      subst (λ (fs : List Fill). IsByLines book credit weight t fs next.order.left) (append-nil fills ∙ sym is)
      (subst (λ (u : Taker). IsByLines book credit weight t (fills ++ []) u.left) (sym step.0) (gone.goes_on [] now.order.left step.1))

-- What a sweep by the lines comes to.

-- an order across from a side is of the other one
across : (a b : Side) → is_opposite a b ≡ true → b ≡ opposite a
across Buy Buy is = cc
across Buy Sell is = refl
across Sell Buy is = refl
across Sell Sell is = cc

-- where the order takes the price of none of the other side, it fills nothing
pub dear-sweep : (book : Book) (credit : Credit) (weight : ℕ) (t : Taker) (side : Side) → side ≡ opposite t.side → Each (λ o. o.side ≡ side → crosses (opposite side) t.price o.price ≡ false) book.orders
    → IsByLines book credit weight t [] t.left
dear-sweep book credit weight t side side_is dear = (
  refl,
  inr (none_among (open_behind (λ bank. line_in credit t.bank bank / weight) t None book.orders) (λ o there.
      let it = Among-filter (λ (q : Resting). is_open t (line_in credit t.bank q.bank / weight) q && is_behind t.side None q) book.orders o there in
      let says = is_open-says t (line_in credit t.bank o.bank / weight) o (and_parts (is_open t (line_in credit t.bank o.bank / weight) o) (is_behind t.side None o) it.1).0 in
      both_ways (crosses t.side t.price o.price)
      (subst (λ (s : Side). crosses s t.price o.price ≡ false) (ap opposite side_is ∙ opposite-opposite t.side)
      (Each-among (λ (q : Resting). q.side ≡ side → crosses (opposite side) t.price q.price ≡ false) book.orders o dear it.0 (across t.side o.side says.opposite ∙ sym side_is)))
      says.crosses)),
)

-- who fills something has another bank beside
two-banks : (book : Book) (credit : Credit) (weight : ℕ) (t : Taker) (fills : List Fill) (left : ℕ) → IsBook book → t.bank < book.banks → IsByLines book credit weight t fills left → 1 ≤ length fills → 2 ≤ book.banks
two-banks book credit weight t [] left valid bank planned some = absurd (omega (arith, some))
two-banks book credit weight t (fill ∷ fills) left valid bank planned some =
    let best : Resting = planned.0 in
    let it = Among-filter (λ (q : Resting). is_open t (line_in credit t.bank q.bank / weight) q && is_behind t.side None q) book.orders best planned.2.there in
    let says = is_open-says t (line_in credit t.bank best.bank / weight) best (and_parts (is_open t (line_in credit t.bank best.bank / weight) best) (is_behind t.side None best) it.1).0 in
    omega (arith, owners book valid best it.0, bank, says.other)

-- a step for all words and two for each fill are within the bound
pub bounded : (book : Book) (credit : Credit) (weight : ℕ) (t : Taker) (fills : List Fill) (left : ℕ) → IsBook book → t.bank < book.banks → IsByLines book credit weight t fills left
    → 1 + 2 * length fills ≤ (length fills + 1) * book.banks
bounded book credit weight t fills left valid bank planned = elim (cases_lt 0 (length fills)) [
  | inl some ↦
      let two : 2 ≤ book.banks = two-banks book credit weight t fills left valid bank planned some in
      omega (arith, add-mul (length fills) 1 book.banks, mul-le-mul_left (length fills) two, two)
  | inr none ↦ omega (arith, add-mul (length fills) 1 book.banks, bank, none)
]

line-most : (credit : Credit) (i j : ℕ) → IsCredit credit → i < credit.banks → j < credit.banks → line_in credit i j ≤ 10 ^ 15
line-most credit i j is first second =
    omega (arith, up-to (room_in credit i) (at_most (room_in credit j) (left_in credit i j)), up-to (room_in credit j) (left_in credit i j), is.limits_most i j first second)
  where
    up-to : (room : Option ℕ) (n : ℕ) → at_most room n ≤ n
    up-to None n = omega arith
    up-to (Some most) n = omega arith

-- it fills no more lots than 65 lines can allow
pub lots-within : (book : Book) (credit : Credit) (weight : ℕ) (t : Taker) (fills : List Fill) (left : ℕ) → IsBook book → book.banks ≡ credit.banks → IsCredit credit → t.bank < credit.banks → 1 ≤ weight
    → IsByLines book credit weight t fills left → total (λ (f : Fill). f.lots) fills ≤ 65 * 10 ^ 15
lots-within book credit weight t fills left valid banks is bank some planned =
    omega (
      arith,
      planned-paid weight lines book.orders t None fills left some
          (planned-agrees weight (line_in credit t.bank) (slice_index lines) book.orders t None fills left
          (λ o there. inl (sym (get_or_below (line_in credit t.bank) credit.banks o.bank 0 (omega (arith, owners book valid o there, banks))))) planned),
      total-most lines (10 ^ 15) most,
      mul-le-mul_left (10 ^ 15) is.banks_most,
      length-map_below (line_in credit t.bank) credit.banks,
      ap (λ (n : ℕ). n * 10 ^ 15) (length-map_below (line_in credit t.bank) credit.banks),
    )
  where
    lines : List ℕ
    lines = map (line_in credit t.bank) (below credit.banks)

    most : (k : ℕ) → get_or lines k 0 ≤ 10 ^ 15
    most k = elim (cases_lt k credit.banks) [
      | inl small ↦ omega (arith, get_or_below (line_in credit t.bank) credit.banks k 0 small, line-most credit t.bank k is bank small)
      | inr past ↦ omega (arith, get_or_past lines k 0 (omega (arith, length-map_below (line_in credit t.bank) credit.banks, past)))
    ]

pub sum-whole : (book : Book) (credit : Credit) (weight : ℕ) (t : Taker) (fills : List Fill) (left : ℕ) → IsByLines book credit weight t fills left → total (λ (f : Fill). f.lots) fills + left ≡ t.left
sum-whole book credit weight t fills left planned = planned-sum weight (line_in credit t.bank) book.orders t None fills left planned
