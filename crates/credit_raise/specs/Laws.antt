-- Laws on a line that is raised between two banks.
use Rattle.std.specs.Prelude.{ℕ, ◌≡◌, ◌≢◌, ◌≤◌, ◌<◌, ◌-◌, ◌*◌, List, filter}
use Rattle.fx_amounts.specs.Quantity.{IsUnits}
use Rattle.fx_rules.specs.declared.orders.Resting.{Resting}
use Rattle.fx_rules.specs.declared.orders.Fill.{Fill}
use Rattle.fx_rules.specs.declared.outcome.Entry.{Entry}
use Rattle.fx_rules.specs.Lists.{Each}
use Rattle.fx_rules.specs.Session.{Header, bank_count, weight_of}
use Rattle.fx_rules.specs.State.{State, orders_in, line}
use Rattle.fx_rules.specs.Sweep.{filled_all}
use Rattle.fx_rules.specs.Raise.{Turned, limit_set, limited}
use Rattle.fx_rules.specs.History.{IsLegal, state}
use Rattle.fx_rules.specs.Sound.{IsSound}
use Rattle.fx_rules.specs.NoCross.{NoCross}
use Rattle.global_book.specs.Book.{Book}
use Rattle.credit_raise.specs.Two.{is_of_two, NoCrossBut, IsRaised, IsFillOf, lots_of}

-- Where nothing rests crossed in a pair but between two banks, the turns of their orders alone are the turns of all.
abbrev pub TwoBanksTurn : Type 0
TwoBanksTurn =
    (h : Header) (S : State) (pair i j : ℕ) (orders : List Resting) (fills : List Fill) → 0 < weight_of h pair → IsSound h S →
    NoCrossBut h S pair i j → Turned h pair S (filter (is_of_two i j) orders) fills → Turned h pair S orders fills

-- Where nothing rested crossed before a limit was set, nothing rests crossed behind it but between the two banks.
abbrev pub LimitsSetOthersApart : Type 0
LimitsSetOthersApart = (h : Header) (S : State) (pair i j limit : ℕ) → NoCross h S → NoCrossBut h (limited i j limit S) pair i j

-- In the state of a legal history, once a bank has set a limit that it asked for, each pair's turn can come.
abbrev pub RaisesBegin : Type 0
RaisesBegin =
    (h : Header) (entries : List Entry) (book : Book) (weight i j asked eff : ℕ) → IsLegal h entries → i < bank_count h → j < bank_count h →
    j ≢ i → IsUnits asked → orders_in book.pair (state h entries).orders ≡ book.orders → weight_of h book.pair ≡ weight →
    line h (limited i j (limit_set h (state h entries) i j asked) (state h entries)) i j ≡ eff →
    IsRaised h (limited i j (limit_set h (state h entries) i j asked) (state h entries)) book weight i j eff

-- With the fills of one pair added, the state is one in which the next pair's turn comes, with what they leave of the line.
abbrev pub RaisesGoOn : Type 0
RaisesGoOn =
    (h : Header) (S : State) (book next : Book) (weight next_weight i j eff : ℕ) (fills : List Fill) → i < bank_count h → j < bank_count h →
    i ≢ j → book.pair ≢ next.pair → 1 ≤ weight → 1 ≤ next_weight → IsRaised h S book weight i j eff → Turned h book.pair S book.orders fills →
    Each (IsFillOf book.pair i j) fills → orders_in next.pair S.orders ≡ next.orders → weight_of h next.pair ≡ next_weight →
    NoCrossBut h S next.pair i j → IsRaised h (filled_all S fills) next next_weight i j (eff - lots_of fills * weight)
