-- The fields of a line that is to be written.
use Rattle.std.specs.Prelude.{ℕ, ◌<◌, List, [], ◌∷◌}
use Rattle.fx_amounts.specs.Numeral.{numeral}
use Rattle.fx_amounts.specs.PriceText.{price_text}
use Rattle.fx_rules.specs.Reject.{code_of}
use Rattle.fx_rules.specs.Session.{Header, bank_count, pair_count, bank_name, decimals_of, pair_name}
use Rattle.fx_rules.specs.declared.command.Command.{Command}
use Rattle.fx_rules.specs.declared.command.Command.TheVariants.{Order, Cancel, Reduce, Pull, Line, Total, Settle, Show, Book, Bad}
use Rattle.order_lines.specs.Words.{word_text, side_word, life_text, bad_word}
use Rattle.order_lines.specs.declared.word.Word.TheVariants as word

-- a price of a pair, in its one spelling
abbrev pub price_spelled : Header → ℕ → ℕ → List ℕ
price_spelled h pair price = price_text (decimals_of h pair) price

-- the field behind the sender's name: the command's word
abbrev pub word_field : Command → List ℕ
word_field (Order side pair price lots life) = word_text (side_word side)
word_field (Cancel pair number) = word_text word.Cancel
word_field (Reduce pair number lots) = word_text word.Reduce
word_field (Pull pair) = word_text word.Pull
word_field (Line other limit) = word_text word.Line
word_field (Total limit) = word_text word.Total
word_field (Settle a b units) = word_text word.Settle
word_field (Show other) = word_text word.Show
word_field (Book pair) = word_text word.Book
word_field (Bad fault) = bad_word

-- the field behind the word: the pair, the bank, the total or the fault that the command is about
abbrev pub subject_field : Header → Command → List ℕ
subject_field h (Order side pair price lots life) = pair_name h pair
subject_field h (Cancel pair number) = pair_name h pair
subject_field h (Reduce pair number lots) = pair_name h pair
subject_field h (Pull pair) = pair_name h pair
subject_field h (Line other limit) = bank_name h other
subject_field h (Total limit) = numeral limit
subject_field h (Settle a b units) = bank_name h a
subject_field h (Show other) = bank_name h other
subject_field h (Book pair) = pair_name h pair
subject_field h (Bad fault) = numeral (code_of fault)

-- that pair or bank is the session's
abbrev pub IsSubjectOf : Header → Command → Type 0
IsSubjectOf h (Order side pair price lots life) = pair < pair_count h
IsSubjectOf h (Cancel pair number) = pair < pair_count h
IsSubjectOf h (Reduce pair number lots) = pair < pair_count h
IsSubjectOf h (Pull pair) = pair < pair_count h
IsSubjectOf h (Line other limit) = other < bank_count h
IsSubjectOf h (Total limit) = Unit {0}
IsSubjectOf h (Settle a b units) = (a < bank_count h) × (b < bank_count h)
IsSubjectOf h (Show other) = other < bank_count h
IsSubjectOf h (Book pair) = pair < pair_count h
IsSubjectOf h (Bad fault) = Unit {0}

-- the fields behind it
abbrev pub details : Header → Command → List (List ℕ)
details h (Order side pair price lots life) = price_spelled h pair price ∷ numeral lots ∷ life_text life ∷ []
details h (Cancel pair number) = numeral number ∷ []
details h (Reduce pair number lots) = numeral number ∷ numeral lots ∷ []
details h (Pull pair) = []
details h (Line other limit) = numeral limit ∷ []
details h (Total limit) = []
details h (Settle a b units) = bank_name h b ∷ numeral units ∷ []
details h (Show other) = []
details h (Book pair) = []
details h (Bad fault) = []
