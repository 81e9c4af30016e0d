-- The one spelling of a sender's command, as a journal writes it.
use Rattle.std.specs.Prelude.{◌≡◌, ℕ, List, [], ◌∷◌}
use Rattle.std.specs.List.{join_with_byte}
use Rattle.fx_amounts.specs.Numeral.{numeral}
use Rattle.fx_amounts.specs.PriceText.{price_text}
use Rattle.fx_text.specs.Fields.{fields_of}
use Rattle.fx_text.specs.declared.line.Line as lines
use Rattle.fx_text.specs.declared.line.Line.TheVariants.{Whole, Long}
use Rattle.fx_rules.specs.Reject.{code_of}
use Rattle.fx_rules.specs.Session.{Header, bank_name, pair_name, decimals_of}
use Rattle.fx_rules.specs.declared.command.Command.{Command}
use Rattle.fx_rules.specs.declared.command.Command.TheVariants.{Order, Cancel, Reduce, Pull, Line, Total, Settle, Show, Book, Bad}
use Rattle.order_lines.specs.Words.{word_text, side_word, life_text, sender_name, bad_word}
use Rattle.order_lines.specs.declared.word.Word.TheVariants as word

-- the fields of a command's line
abbrev pub command_fields : Header → ℕ → Command → List (List ℕ)
command_fields h sender (Order side pair price lots life) =
    sender_name h sender ∷ word_text (side_word side) ∷ pair_name h pair ∷ price_text (decimals_of h pair) price ∷ numeral lots ∷ life_text life ∷ []
command_fields h sender (Cancel pair number) = sender_name h sender ∷ word_text word.Cancel ∷ pair_name h pair ∷ numeral number ∷ []
command_fields h sender (Reduce pair number lots) = sender_name h sender ∷ word_text word.Reduce ∷ pair_name h pair ∷ numeral number ∷ numeral lots ∷ []
command_fields h sender (Pull pair) = sender_name h sender ∷ word_text word.Pull ∷ pair_name h pair ∷ []
command_fields h sender (Line other limit) = sender_name h sender ∷ word_text word.Line ∷ bank_name h other ∷ numeral limit ∷ []
command_fields h sender (Total limit) = sender_name h sender ∷ word_text word.Total ∷ numeral limit ∷ []
command_fields h sender (Settle a b units) = sender_name h sender ∷ word_text word.Settle ∷ bank_name h a ∷ bank_name h b ∷ numeral units ∷ []
command_fields h sender (Show other) = sender_name h sender ∷ word_text word.Show ∷ bank_name h other ∷ []
command_fields h sender (Book pair) = sender_name h sender ∷ word_text word.Book ∷ pair_name h pair ∷ []
command_fields h sender (Bad fault) = sender_name h sender ∷ bad_word ∷ numeral (code_of fault) ∷ []

-- the line: its fields with one space between each two
unfoldable pub command_text_of : Header → ℕ → Command → List ℕ
command_text_of h sender command = join_with_byte 32 (command_fields h sender command)

-- a line has the fields of that command of that sender
abbrev pub IsSpelled : Header → lines.Line → ℕ → Command → Type 0
IsSpelled h (Whole text) sender command = fields_of text ≡ command_fields h sender command
IsSpelled h (Long first) sender command = ⊥
