-- What the fields of a command line say: the command, or the first fault from the left.
use Rattle.std.specs.Prelude.{ℕ, ◌==◌, Result, Ok, Err, ok_or, List, length, if◌then◌else◌}
use Rattle.fx_amounts.specs.PriceText.{price_of}
use Rattle.fx_amounts.specs.declared.price_text.PriceFault.{PriceFault}
use Rattle.fx_amounts.specs.declared.price_text.PriceFault.TheVariants.{Form, Range}
use Rattle.fx_amounts.specs.declared.side.Side.{Side}
use Rattle.fx_amounts.specs.declared.side.Side.TheVariants as side
use Rattle.fx_text.specs.Faults.{◌>>=◌}
use Rattle.fx_text.specs.Fields.{field_at}
use Rattle.fx_text.specs.Number.{number_of}
use Rattle.fx_rules.specs.Session.{Header, bank_named, pair_named, decimals_of}
use Rattle.fx_rules.specs.declared.command.Command.{Command}
use Rattle.fx_rules.specs.declared.command.Command.TheVariants as command
use Rattle.fx_rules.specs.declared.command.Life.{Life}
use Rattle.fx_rules.specs.declared.command.Reject.{Reject}
use Rattle.fx_rules.specs.declared.command.Reject.TheVariants as reject
use Rattle.order_lines.specs.Words.{word_of, has_word, field_count, life_of}
use Rattle.order_lines.specs.declared.word.Word.{Word}
use Rattle.order_lines.specs.declared.word.Word.TheVariants.{Buy, Sell, Cancel, Reduce, Pull, Line, Show, Book, Total, Settle}

-- a field that names a pair
unfoldable pub pair_said : Header → List ℕ → Result ℕ Reject
pair_said h text = ok_or (pair_named h text) reject.Pair

-- a field that is the price of a pair
abbrev pub price_or_fault : Result ℕ PriceFault → Result ℕ Reject
price_or_fault (Ok price) = Ok price
price_or_fault (Err Form) = Err reject.PriceForm
price_or_fault (Err Range) = Err reject.PriceRange

unfoldable pub price_said : Header → ℕ → List ℕ → Result ℕ Reject
price_said h pair text = price_or_fault (price_of (decimals_of h pair) text)

-- a field that is a number of lots
unfoldable pub lots_said : List ℕ → Result ℕ Reject
lots_said text = ok_or (number_of 1 1000000 text) reject.Lots

-- a field that is an order's life
unfoldable pub life_said : List ℕ → Result Life Reject
life_said text = ok_or (life_of text) reject.Life

-- a field that is the number of a command
unfoldable pub number_said : List ℕ → Result ℕ Reject
number_said text = ok_or (number_of 1 4294967295 text) reject.Number

-- a field that names a bank
unfoldable pub bank_said : Header → List ℕ → Result ℕ Reject
bank_said h text = ok_or (bank_named h.banks text) reject.Bank

-- a field that names another bank than this one, as the sender or the first bank of a settlement
unfoldable pub other_said : Header → ℕ → List ℕ → Result ℕ Reject
other_said h bank text = bank_said h text >>= (λ other. if other == bank then Err reject.Bank else Ok other)

-- a field that is a limit in credit units
unfoldable pub limit_said : List ℕ → Result ℕ Reject
limit_said text = ok_or (number_of 0 1000000000000000 text) reject.Limit

-- a field that is a number of credit units to be given back
unfoldable pub units_said : List ℕ → Result ℕ Reject
units_said text = ok_or (number_of 1 1000000000000000 text) reject.Units

-- the longer commands by their fields, of which there are as many as the word asks for
unfoldable pub order_said : Header → Side → List (List ℕ) → Result Command Reject
order_said h side fields =
    pair_said h (field_at fields 2) >>= (λ pair. price_said h pair (field_at fields 3) >>= (λ price.
    lots_said (field_at fields 4) >>= (λ lots. life_said (field_at fields 5) >>= (λ life. Ok (command.Order side pair price lots life)))))

unfoldable pub cancel_said : Header → List (List ℕ) → Result Command Reject
cancel_said h fields =
    pair_said h (field_at fields 2) >>= (λ pair. number_said (field_at fields 3) >>= (λ number. Ok (command.Cancel pair number)))

unfoldable pub reduce_said : Header → List (List ℕ) → Result Command Reject
reduce_said h fields =
    pair_said h (field_at fields 2) >>= (λ pair. number_said (field_at fields 3) >>= (λ number.
    lots_said (field_at fields 4) >>= (λ lots. Ok (command.Reduce pair number lots))))

unfoldable pub line_said : Header → ℕ → List (List ℕ) → Result Command Reject
line_said h sender fields =
    other_said h sender (field_at fields 2) >>= (λ other. limit_said (field_at fields 3) >>= (λ limit. Ok (command.Line other limit)))

unfoldable pub settle_said : Header → List (List ℕ) → Result Command Reject
settle_said h fields =
    bank_said h (field_at fields 2) >>= (λ a. other_said h a (field_at fields 3) >>= (λ b.
    units_said (field_at fields 4) >>= (λ units. Ok (command.Settle a b units))))

-- what the fields behind a word say
abbrev pub said_after : Header → ℕ → Word → List (List ℕ) → Result Command Reject
said_after h sender Buy fields = order_said h side.Buy fields
said_after h sender Sell fields = order_said h side.Sell fields
said_after h sender Cancel fields = cancel_said h fields
said_after h sender Reduce fields = reduce_said h fields
said_after h sender Pull fields = pair_said h (field_at fields 2) >>= (λ pair. Ok (command.Pull pair))
said_after h sender Line fields = line_said h sender fields
said_after h sender Show fields = other_said h sender (field_at fields 2) >>= (λ other. Ok (command.Show other))
said_after h sender Book fields = pair_said h (field_at fields 2) >>= (λ pair. Ok (command.Book pair))
said_after h sender Total fields = limit_said (field_at fields 2) >>= (λ limit. Ok (command.Total limit))
said_after h sender Settle fields = settle_said h fields

-- the second field as a word that the sender has; a line of one field has none
unfoldable pub word_said : Header → ℕ → List (List ℕ) → Result Word Reject
word_said h sender fields = ok_or (word_of (field_at fields 1)) reject.Word >>= (λ word. if has_word h sender word then Ok word else Err reject.Word)

-- a command line: first its word, then the number of its fields, then the fields from left to right
unfoldable pub command_said : Header → ℕ → List (List ℕ) → Result Command Reject
command_said h sender fields = do
  word ← word_said h sender fields
  if length fields == field_count word then said_after h sender word fields else Err reject.Count
