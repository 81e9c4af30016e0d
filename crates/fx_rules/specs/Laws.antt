-- Laws that hold of the definitions themselves.
use Rattle.std.specs.Prelude.{ℕ, ◌≡◌, ◌≢◌, ◌<◌, ◌≤◌, ◌*◌, ◌^◌, false, List, [], ◌∷◌, ◌++◌, map, length, take}
use Rattle.fx_rules.specs.declared.command.Command.{Command}
use Rattle.fx_amounts.specs.declared.side.Side.TheVariants.{Buy, Sell}
use Rattle.fx_rules.specs.declared.command.Command.TheVariants.{Line, Total}
use Rattle.fx_rules.specs.declared.outcome.Outcome.TheVariants.{LineSet, TotalSet}
use Rattle.fx_rules.specs.declared.orders.Fill.{Fill}
use Rattle.fx_rules.specs.declared.orders.Level.{Level}
use Rattle.fx_rules.specs.declared.outcome.Outcome.{Outcome}
use Rattle.fx_rules.specs.declared.outcome.Entry.{Entry}
use Rattle.fx_rules.specs.Lists.{total}
use Rattle.fx_rules.specs.Session.{Header, IsSession, bank_count, pair_count}
use Rattle.fx_rules.specs.State.{State, Within, orders_in, count_of, arrivals, left_of_limits, line}
use Rattle.fx_rules.specs.Sweep.{Taker, Swept}
use Rattle.fx_rules.specs.Raise.{limited, totalled}
use Rattle.fx_rules.specs.Depth.{IsDepth, levels_of}
use Rattle.fx_rules.specs.Step.{IsCommand, IsOutcome, may_change}
use Rattle.fx_rules.specs.History.{IsStep, IsLegal, after_entry, state, own, Falls}
use Rattle.fx_rules.specs.Truthful.{IsTruthful}
use Rattle.fx_rules.specs.Sound.{IsSound}
use Rattle.fx_rules.specs.NoCross.{NoCross}
use Rattle.fx_rules.specs.View.{view, told, fill_seen}

-- Two sweeps of one taker in one state have the same fills and leave the same.
abbrev pub SweepsAgree : Type 0
SweepsAgree =
    (h : Header) (S : State) (t : Taker) (fills others : List Fill) (left rest : ℕ) →
    IsSession h → IsSound h S → t.bank < bank_count h → t.pair < pair_count h →
    Swept h S t fills left → Swept h S t others rest → (fills ≡ others) × (left ≡ rest)

-- Two outcomes of one sender's command in one state are the same.
abbrev pub OutcomesAgree : Type 0
OutcomesAgree =
    (h : Header) (S : State) (bank : ℕ) (command : Command) (one other : Outcome) →
    IsSession h → IsSound h S → IsCommand h bank command →
    IsOutcome h S bank command one → IsOutcome h S bank command other → one ≡ other

-- Two legal histories that went the same way so far and go on by the same command of the same bank go on by the same
-- entry.
abbrev pub NextEntriesAgree : Type 0
NextEntriesAgree =
    (h : Header) (entries : List Entry) (one other : Entry) →
    IsLegal h (entries ++ one ∷ []) → IsLegal h (entries ++ other ∷ []) →
    one.bank ≡ other.bank → one.command ≡ other.command → one ≡ other

-- The state of a legal history is sound, and no line and no total is exceeded in it.
abbrev pub LegalIsSound : Type 0
LegalIsSound = (h : Header) (entries : List Entry) → IsLegal h entries → IsSound h (state h entries) × Within h (state h entries)

-- A legal history is still one with a step of its state behind it.
abbrev pub LegalGoesOn : Type 0
LegalGoesOn =
    (h : Header) (entries : List Entry) (e : Entry) →
    IsLegal h entries → IsStep h (state h entries) e → IsLegal h (entries ++ e ∷ [])

-- In the state of a legal history no orders rest crossed that can reach each other.
abbrev pub LegalIsUncrossed : Type 0
LegalIsUncrossed = (h : Header) (entries : List Entry) → IsLegal h entries → NoCross h (state h entries)

-- A step of a sound state lets what the limits of two banks leave fall by the cost of its fills between them and rise by what it gives
-- back between them, and what a total leaves fall by the cost of all fills of its bank and rise by what is given back to the bank; and
-- by nothing else, from the limits and totals in which the fills are made.
abbrev pub LinesFall : Type 0
LinesFall = (h : Header) (S : State) (e : Entry) → IsSession h → IsSound h S → IsStep h S e → Falls h S e

-- A step of a sound state leaves the orders of each pair in which its command may change nothing.
abbrev pub OtherPairsStay : Type 0
OtherPairsStay =
    (h : Header) (S : State) (e : Entry) (pair : ℕ) → IsSession h → IsSound h S → IsStep h S e →
    may_change pair e.command ≡ false → orders_in pair (after_entry S e).orders ≡ orders_in pair S.orders

-- An entry of one bank leaves the counts of all others.
abbrev pub OtherCountsStay : Type 0
OtherCountsStay = (S : State) (e : Entry) (bank : ℕ) → e.bank ≢ bank → count_of (after_entry S e) bank ≡ count_of S bank

-- In the state of a legal history each sender's count is the number of its entries.
abbrev pub CountsAreOwn : Type 0
CountsAreOwn = (h : Header) (entries : List Entry) (bank : ℕ) → IsLegal h entries → count_of (state h entries) bank ≡ length (own bank entries)

-- The next arrival in the state of a legal history fits 64 bits.
abbrev pub ArrivalsFit : Type 0
ArrivalsFit = (h : Header) (entries : List Entry) → IsLegal h entries → arrivals (state h entries) < 2 ^ 64

-- In the state of a legal history the lots of all fills are at most 10^6 times the commands that were sent.
abbrev pub TradedIsSent : Type 0
TradedIsSent =
    (h : Header) (entries : List Entry) → IsLegal h entries →
    total (λ fill. fill.lots) (state h entries).fills ≤ 10 ^ 6 * arrivals (state h entries)

-- A bank's local book of a pair in a sound state is truthful on both sides.
abbrev pub LocalBooksAreTruthful : Type 0
LocalBooksAreTruthful =
    (h : Header) (S : State) (bank pair : ℕ) (bids asks : List Level) → IsSession h → IsSound h S →
    bank < bank_count h → pair < pair_count h → IsDepth h S bank pair bids asks →
    IsTruthful h S bank pair Sell bids × IsTruthful h S bank pair Buy asks

-- Fills that make more levels than a local book shows have the levels that it shows, however they go on.
abbrev pub FullBooksStay : Type 0
FullBooksStay =
    (fills more : List Fill) → 10 < length (levels_of fills) → take 10 (levels_of (fills ++ more)) ≡ take 10 (levels_of fills)

-- In a session of version 1 a line is what its two limits leave.
abbrev pub LinesArePlain : Type 0
LinesArePlain =
    (h : Header) (S : State) (i j : ℕ) → h.version ≡ 1 → IsSound h S → line h S i j ≡ left_of_limits h S i j

-- Two sound states that a bank sees alike tell it the same of each of its commands.
abbrev pub ViewsTellAll : Type 0
ViewsTellAll =
    (h : Header) (S T : State) (bank : ℕ) (command : Command) (one other : Outcome) → IsSession h → IsSound h S → IsSound h T →
    bank < bank_count h → IsCommand h bank command → view h S bank ≡ view h T bank →
    IsOutcome h S bank command one → IsOutcome h T bank command other → told one ≡ told other

-- Two sound states that a bank sees alike have the same local books of it.
abbrev pub ViewsShowAll : Type 0
ViewsShowAll =
    (h : Header) (S T : State) (bank pair : ℕ) (bids asks bids' asks' : List Level) → IsSession h → IsSound h S → IsSound h T →
    bank < bank_count h → pair < pair_count h → view h S bank ≡ view h T bank →
    IsDepth h S bank pair bids asks → IsDepth h T bank pair bids' asks' → (bids ≡ bids') × (asks ≡ asks')

-- Two sound states without crossed orders that a bank sees alike once it has set a limit make the same fills by it, but for
-- the numbers of the other bank's orders.
abbrev pub ViewsFillAll : Type 0
ViewsFillAll =
    (h : Header) (S T : State) (bank other asked limit : ℕ) (fills others : List Fill) → IsSession h → IsSound h S → IsSound h T →
    NoCross h S → NoCross h T → IsCommand h bank (Line other asked) →
    view h (limited bank other limit S) bank ≡ view h (limited bank other limit T) bank →
    IsOutcome h S bank (Line other asked) (LineSet limit fills) → IsOutcome h T bank (Line other asked) (LineSet limit others) →
    map (fill_seen bank) fills ≡ map (fill_seen bank) others

-- And likewise once it has set a total.
abbrev pub ViewsFillTotals : Type 0
ViewsFillTotals =
    (h : Header) (S T : State) (bank asked most : ℕ) (fills others : List Fill) → IsSession h → IsSound h S → IsSound h T →
    NoCross h S → NoCross h T → IsCommand h bank (Total asked) →
    view h (totalled bank most S) bank ≡ view h (totalled bank most T) bank →
    IsOutcome h S bank (Total asked) (TotalSet most fills) → IsOutcome h T bank (Total asked) (TotalSet most others) →
    map (fill_seen bank) fills ≡ map (fill_seen bank) others
