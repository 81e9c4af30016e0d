-- The words of command lines, and the names of those who send them: one spelling each.
use Rattle.std.specs.Prelude.{ℕ, ◌==◌, ◌&&◌, Bool, not, if◌then◌else◌, Option, Some, List, [], ◌∷◌, codes, bytes_eq, find}
use Rattle.fx_amounts.specs.declared.side.Side.{Side}
use Rattle.fx_amounts.specs.declared.side.Side.TheVariants as side
use Rattle.fx_rules.specs.declared.command.Life.{Life}
use Rattle.fx_rules.specs.declared.command.Life.TheVariants.{Day, Ioc, Fok}
use Rattle.fx_rules.specs.declared.command.Reject.{Reject}
use Rattle.fx_rules.specs.declared.command.Reject.TheVariants as reject
use Rattle.fx_rules.specs.Reject.{code_of}
use Rattle.fx_rules.specs.Session.{Header, host, bank_name, bank_named}
use Rattle.order_lines.specs.declared.word.Word.{Word}
use Rattle.order_lines.specs.declared.word.Word.TheVariants.{Buy, Sell, Cancel, Reduce, Pull, Line, Show, Book, Total, Settle}

-- the second field of a command line
abbrev pub word_text : Word → List ℕ
word_text Buy = codes "BUY"
word_text Sell = codes "SELL"
word_text Cancel = codes "CANCEL"
word_text Reduce = codes "REDUCE"
word_text Pull = codes "PULL"
word_text Line = codes "LINE"
word_text Show = codes "SHOW"
word_text Book = codes "BOOK"
word_text Total = codes "TOTAL"
word_text Settle = codes "SETTLE"

-- the word that is spelled so
abbrev pub word_of : List ℕ → Option Word
word_of text = find (λ word. bytes_eq (word_text word) text) (Buy ∷ Sell ∷ Cancel ∷ Reduce ∷ Pull ∷ Line ∷ Show ∷ Book ∷ Total ∷ Settle ∷ [])

-- whether a sender is the operator, whom version 2 alone has
abbrev pub is_operator : Header → ℕ → Bool
is_operator h sender = h.version == 2 && sender == host

-- whether a sender has a word: the operator that of a settlement alone, and a bank all others, but that of a total in version 2 alone
abbrev pub has_word : Header → ℕ → Word → Bool
has_word h sender Settle = is_operator h sender
has_word h sender Total = h.version == 2 && not (is_operator h sender)
has_word h sender _ = not (is_operator h sender)

-- how many fields a line with that word has, the sender's name and the word counted
abbrev pub field_count : Word → ℕ
field_count Buy = 6
field_count Sell = 6
field_count Cancel = 4
field_count Reduce = 5
field_count Line = 4
field_count Settle = 5
field_count _ = 3

-- the word of an order
abbrev pub side_word : Side → Word
side_word side.Buy = Buy
side_word side.Sell = Sell

-- the last field of an order
abbrev pub life_text : Life → List ℕ
life_text Day = codes "DAY"
life_text Ioc = codes "IOC"
life_text Fok = codes "FOK"

-- the life that is spelled so
abbrev pub life_of : List ℕ → Option Life
life_of text = find (λ life. bytes_eq (life_text life) text) (Day ∷ Ioc ∷ Fok ∷ [])

-- the faults of command lines
abbrev pub faults : List Reject
faults = reject.Word ∷ reject.Count ∷ reject.Pair ∷ reject.PriceForm ∷ reject.PriceRange ∷ reject.Lots ∷ reject.Bank ∷ reject.Limit ∷ reject.Number ∷ reject.Life ∷ reject.Long ∷ reject.Units ∷ []

-- the fault of that number
abbrev pub fault_of : ℕ → Option Reject
fault_of number = find (λ fault. code_of fault == number) faults

-- the highest number of a fault of a sender's lines: the last fault is the operator's alone
abbrev pub last_fault : Header → ℕ → ℕ
last_fault h sender = if is_operator h sender then 12 else 11

-- the operator's name, which is no bank's
abbrev pub host_name : List ℕ
host_name = codes "HOST"

-- a sender's name: a bank's own, or the operator's
abbrev pub sender_name : Header → ℕ → List ℕ
sender_name h sender = if is_operator h sender then host_name else bank_name h sender

-- the sender of that name: in version 2 the operator, else a bank
abbrev pub sender_named : Header → List ℕ → Option ℕ
sender_named h text = if h.version == 2 && bytes_eq text host_name then Some host else bank_named h.banks text

-- the word of a bad line in a journal
abbrev pub bad_word : List ℕ
bad_word = codes "BAD"
