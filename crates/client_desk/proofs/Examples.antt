-- The definitions tried on a small day, worked by hand. Two banks trade one pair at 100 credit units a lot on a line of 200, and
-- bank 0 has two clients: 0 with a limit of 600, and 1 with 300.
use Rattle.std.proofs.Common.{ℕ, ◌≡◌, List, [], ◌∷◌, ◌++◌, Option, Some, None, refl}
use Rattle.fx_amounts.specs.declared.side.Side.TheVariants.{Buy, Sell}
use Rattle.fx_rules.specs.declared.orders.Fill.{Fill}
use Rattle.fx_rules.specs.declared.command.Command.{Command}
use Rattle.fx_rules.specs.declared.command.Command.TheVariants.{Order, Cancel, Reduce, Pull, Line, Total, Settle, Show, Book, Bad}
use Rattle.fx_rules.specs.declared.command.Reject.TheVariants as reject
use Rattle.fx_rules.specs.declared.command.Life.TheVariants.{Day, Ioc}
use Rattle.fx_rules.specs.declared.outcome.Outcome.{Outcome}
use Rattle.fx_rules.specs.declared.outcome.Outcome.TheVariants.{Ordered, Pulled, LineSet}
use Rattle.fx_rules.specs.Session.{Header}
use Rattle.fx_rules.specs.declared.session.PairRule.{PairRule}
use Rattle.client_desk.specs.declared.client.Client.{Client}
use Rattle.client_desk.specs.declared.ask.Ask.TheVariants.{Pass, Short, Barred}
use Rattle.client_desk.specs.Clients.{Tagged, owner_in, filled_by, reserved_by, free_of, ask_of}

abbrev pair : PairRule
pair = record { base = []; quote = []; decimals = 5; lot = 1000000; weight = 100 }

abbrev header : Header
header = record { version = 1; banks = [] ∷ [] ∷ []; pairs = pair ∷ []; limits = 0 ∷ 200 ∷ 200 ∷ 0 ∷ []; totals = [] }

abbrev client : ℕ → ℕ → Client
client bank limit = record { bank = bank; name = []; limit = limit }

abbrev clients : List Client
clients = client 0 600 ∷ client 0 300 ∷ []

abbrev sent : Option ℕ → ℕ → ℕ → Command → Outcome → Tagged
sent client bank number command outcome = record {
  who = client;
  entry = record { bank = bank; number = number; command = command; outcome = outcome };
}

-- client 0 takes so many lots of bank 1 at 20
abbrev filled : ℕ → Fill
filled lots = record {
  pair = 0;
  taker = 0;
  taker_number = 1;
  taker_side = Buy;
  maker = 1;
  maker_number = 1;
  price = 20;
  lots = lots;
}

-- bank 1 sells 3 lots at 20. Client 0 buys 4 at 20: the line lets it have 2, and 2 rest, crossed.
abbrev morning : List Tagged
morning =
    sent None 1 1 (Order Sell 0 20 3 Day) (Ordered 0 3 [])
    ∷ sent (Some 0) 0 1 (Order Buy 0 20 4 Day) (Ordered 2 2 (filled 2 ∷ []))
    ∷ []

owners : (owner_in morning 0 1 ≡ Some 0) × (owner_in morning 1 1 ≡ None) × (owner_in morning 0 2 ≡ None)
owners = (refl, refl, refl)

-- The two lots that are filled count, and so do the two that rest. The other client has none of it.
has : (filled_by header morning 0 ≡ 200) × (reserved_by header morning 0 ≡ 200) × (free_of header clients morning 0 ≡ 200)
has = (refl, refl, refl)

other_has : (filled_by header morning 1 ≡ 0) × (reserved_by header morning 1 ≡ 0) × (free_of header clients morning 1 ≡ 300)
other_has = (refl, refl, refl)

-- An order may cost all that is free, and no more.
just_free : ask_of header clients morning 0 (Order Sell 0 30 2 Day) ≡ Pass
just_free = refl

too_much : ask_of header clients morning 0 (Order Sell 0 30 3 Ioc) ≡ Short 200
too_much = refl

-- A client takes its own order out, and no other.
own_order : ask_of header clients morning 0 (Cancel 0 1) ≡ Pass
own_order = refl

others_order : (ask_of header clients morning 1 (Cancel 0 1) ≡ Barred) × (ask_of header clients morning 1 (Reduce 0 1 1) ≡ Barred)
others_order = (refl, refl)

no_order : ask_of header clients morning 0 (Cancel 0 2) ≡ Barred
no_order = refl

barred : (ask_of header clients morning 0 (Pull 0) ≡ Barred) × (ask_of header clients morning 0 (Line 1 5) ≡ Barred) × (ask_of header clients morning 0 (Show 1) ≡ Barred)
barred = (refl, refl, refl)

barred_later : (ask_of header clients morning 0 (Total 5) ≡ Barred) × (ask_of header clients morning 0 (Settle 0 1 5) ≡ Barred)
barred_later = (refl, refl)

passes : (ask_of header clients morning 0 (Book 0) ≡ Pass) × (ask_of header clients morning 0 (Bad reject.Word) ≡ Pass)
passes = (refl, refl)

-- Both banks raise their limits, and the one lot that bank 1 has left fills with what rests of client 0: its lot moves from
-- reserved to filled, though it is no new order.
abbrev noon : List Tagged
noon =
    morning
    ++ sent None 0 2 (Line 1 500) (LineSet 500 [])
    ∷ sent None 1 2 (Line 0 500) (LineSet 500 (filled 1 ∷ []))
    ∷ []

moved : (filled_by header noon 0 ≡ 300) × (reserved_by header noon 0 ≡ 100) × (free_of header clients noon 0 ≡ 200)
moved = (refl, refl, refl)

-- A pull of the bank takes the client's order out too: what was filled still counts, and its number is no order's now.
abbrev evening : List Tagged
evening = noon ++ sent None 0 3 (Pull 0) (Pulled 1) ∷ []

pulled : (filled_by header evening 0 ≡ 300) × (reserved_by header evening 0 ≡ 0) × (ask_of header clients evening 0 (Cancel 0 1) ≡ Barred)
pulled = (refl, refl, refl)
