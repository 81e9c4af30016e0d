-- Keys: who has to learn of an entry of the history before the next one may come. A key below 64 is the bank of that
-- number, 64 is the operator, and 65 and above are the pairs in the session's order.
use Rattle.std.specs.Prelude.{ℕ, ◌+◌, ◌==◌, ◌||◌, nat_le, Bool, false}
use Rattle.fx_rules.specs.declared.command.Command.{Command}
use Rattle.fx_rules.specs.declared.command.Command.TheVariants.{Order, Cancel, Reduce, Pull, Line, Total, Settle, Show, Book, Bad}
use Rattle.fx_rules.specs.declared.outcome.Entry.{Entry}

abbrev pub bank_key : ℕ → ℕ
bank_key bank = bank

abbrev pub pair_key : ℕ → ℕ
pair_key pair = 65 + pair

-- the key is of a pair that the command is about: a credit change is about every pair, a show and a bad line about none
abbrev pub is_about : Command → ℕ → Bool
is_about (Order side pair price lots life) key = key == pair_key pair
is_about (Cancel pair number) key = key == pair_key pair
is_about (Reduce pair number lots) key = key == pair_key pair
is_about (Pull pair) key = key == pair_key pair
is_about (Line bank limit) key = nat_le (pair_key 0) key
is_about (Total limit) key = nat_le (pair_key 0) key
is_about (Settle a b units) key = nat_le (pair_key 0) key
is_about (Show bank) key = false
is_about (Book pair) key = key == pair_key pair
is_about (Bad reason) key = false

-- an entry touches its sender, and the pairs that its command is about
abbrev pub touches_key : Entry → ℕ → Bool
touches_key e key = (key == bank_key e.bank) || is_about e.command key
