-- A command's line in its one spelling, as it is read from its front, field by field.
use Rattle.std.proofs.Common.{◌≡◌, ◌≢◌, ℕ, ◌+◌, ◌<◌, List, ◌∷◌, ◌++◌, length, take, drop, get_or, refl, sym, ap, ap₂, ◌∙◌, arith, append_assoc, length-append}
use Rattle.std.proofs.lemmas.List.{take-append-drop, drop_more}
use Rattle.std.specs.List.{join_with_byte}
use Rattle.fx_amounts.specs.Numeral.{numeral}
use Rattle.fx_amounts.specs.Price.{IsPrice}
use Rattle.fx_amounts.specs.Quantity.{IsLots, IsUnits}
use Rattle.fx_amounts.specs.declared.side.Side.{Side}
use Rattle.fx_text.specs.Lines.{lines_of, rest_of, IsFirstLine}
use Rattle.fx_text.specs.declared.line.Line.{Line}
use Rattle.fx_text.specs.declared.line.Line.TheVariants.{Whole}
use Rattle.fx_text.proofs.JoinedFields.{lines_of-line, rest_of-line}
use Rattle.fx_rules.specs.Session.{Header, IsSession, bank_count, pair_count, bank_name, pair_name}
use Rattle.fx_rules.specs.Step.{IsCommand, IsNumber}
use Rattle.fx_rules.specs.declared.command.Command.{Command}
use Rattle.fx_rules.specs.declared.command.Command.TheVariants as command
use Rattle.fx_rules.specs.declared.command.Life.{Life}
use Rattle.order_lines.specs.Grammar.{command_line}
use Rattle.order_lines.specs.Spelling.{command_text_of}
use Rattle.order_lines.specs.Words.{word_text, side_word, life_text, sender_name}
use Rattle.order_lines.specs.declared.spoken.Spoken.TheVariants.{Of}
use Rattle.order_lines.specs.declared.word.Word.{Word}
use Rattle.order_lines.specs.declared.word.Word.TheVariants.{Cancel, Reduce, Pull, Line as LineWord, Show, Book}
use Rattle.order_lines.specs.inside.Printing.{price_spelled, word_field, subject_field, details}
use Rattle.order_lines.specs.inside.Spelled.{EndsWith}
use Rattle.order_lines.proofs.Printed.{command_fields-named}
use Rattle.order_lines.proofs.SaidLines.{command_line-spelled}
use Rattle.order_lines.proofs.SenderNames.{bank-operates_not, bank-name}
use Rattle.order_lines.proofs.WrittenCommands.{IsWritten, IsWritten-command}

-- a text around one of its bytes
pub text_around : (text field behind : List ℕ) (at end : ℕ) → at < length text → get_or text at 0 ≡ end → field ≡ take at text → behind ≡ drop (at + 1) text → text ≡ field ++ end ∷ behind
text_around text field behind at end within is front back =
    sym (take-append-drop at text)
    ∙ ap (λ (more : List ℕ). take at text ++ more) (drop_more text at 0 within ∙ ap₂ (λ (byte : ℕ) (more : List ℕ). byte ∷ more) is (sym back))
    ∙ ap (λ (first : List ℕ). first ++ end ∷ behind) (sym front)

-- a field, a space, and what goes on to the line feed
pub field_onto : (text field more rest behind : List ℕ) → text ≡ field ++ 32 ∷ more → more ≡ rest ++ 10 ∷ behind → text ≡ (field ++ 32 ∷ rest) ++ 10 ∷ behind
field_onto text field more rest behind is on = is ∙ ap (λ (all : List ℕ). field ++ 32 ∷ all) on ∙ sym (append_assoc field (32 ∷ rest) (10 ∷ behind))

-- the commands by the fields behind their word
pub EndsWith-order : (h : Header) (sender : ℕ) (side : Side) (pair price lots : ℕ) (life : Life) (text one two three behind : List ℕ)
    → (pair < pair_count h) × (text ≡ pair_name h pair ++ 32 ∷ one) → IsPrice price × (one ≡ price_spelled h pair price ++ 32 ∷ two) → IsLots lots × (two ≡ numeral lots ++ 32 ∷ three) → three ≡ life_text life ++ 10 ∷ behind
    → EndsWith h sender (side_word side) text (command.Order side pair price lots life) behind
EndsWith-order h sender side pair price lots life text one two three behind first second third last = record {
  spelled = field_onto text (pair_name h pair) one _ behind first.1 (field_onto one (price_spelled h pair price) two _ behind second.1 (field_onto two (numeral lots) three (life_text life) behind third.1 last));
  is_word = refl;
  sends = λ within. within;
  values = (first.0, second.0, third.0);
  good = refl;
}

pub EndsWith-cancel : (h : Header) (sender pair number : ℕ) (text one behind : List ℕ)
    → (pair < pair_count h) × (text ≡ pair_name h pair ++ 32 ∷ one) → IsNumber number × (one ≡ numeral number ++ 10 ∷ behind) → EndsWith h sender Cancel text (command.Cancel pair number) behind
EndsWith-cancel h sender pair number text one behind first last = record {
  spelled = field_onto text (pair_name h pair) one (numeral number) behind first.1 last.1;
  is_word = refl;
  sends = λ within. within;
  values = (first.0, last.0);
  good = refl;
}

pub EndsWith-reduce : (h : Header) (sender pair number lots : ℕ) (text one two behind : List ℕ)
    → (pair < pair_count h) × (text ≡ pair_name h pair ++ 32 ∷ one) → IsNumber number × (one ≡ numeral number ++ 32 ∷ two) → IsLots lots × (two ≡ numeral lots ++ 10 ∷ behind) → EndsWith h sender Reduce text (command.Reduce pair number lots) behind
EndsWith-reduce h sender pair number lots text one two behind first second last = record {
  spelled = field_onto text (pair_name h pair) one _ behind first.1 (field_onto one (numeral number) two (numeral lots) behind second.1 last.1);
  is_word = refl;
  sends = λ within. within;
  values = (first.0, second.0, last.0);
  good = refl;
}

pub EndsWith-line : (h : Header) (sender other limit : ℕ) (text one behind : List ℕ)
    → (other < bank_count h) × (other ≢ sender) × (text ≡ bank_name h other ++ 32 ∷ one) → IsUnits limit × (one ≡ numeral limit ++ 10 ∷ behind) → EndsWith h sender LineWord text (command.Line other limit) behind
EndsWith-line h sender other limit text one behind first last = record {
  spelled = field_onto text (bank_name h other) one (numeral limit) behind first.2 last.1;
  is_word = refl;
  sends = λ within. within;
  values = (first.0, first.1, last.0);
  good = refl;
}

pub EndsWith-pull : (h : Header) (sender pair : ℕ) (text behind : List ℕ) → (pair < pair_count h) × (text ≡ pair_name h pair ++ 10 ∷ behind) → EndsWith h sender Pull text (command.Pull pair) behind
EndsWith-pull h sender pair text behind says = record { spelled = says.1; is_word = refl; sends = λ within. within; values = says.0; good = refl }

pub EndsWith-book : (h : Header) (sender pair : ℕ) (text behind : List ℕ) → (pair < pair_count h) × (text ≡ pair_name h pair ++ 10 ∷ behind) → EndsWith h sender Book text (command.Book pair) behind
EndsWith-book h sender pair text behind says = record { spelled = says.1; is_word = refl; sends = λ within. within; values = says.0; good = refl }

pub EndsWith-show : (h : Header) (sender other : ℕ) (text behind : List ℕ) → (other < bank_count h) × (other ≢ sender) × (text ≡ bank_name h other ++ 10 ∷ behind) → EndsWith h sender Show text (command.Show other) behind
EndsWith-show h sender other text behind says = record { spelled = says.2; is_word = refl; sends = λ within. within; values = (says.0, says.1); good = refl }

-- a text begins with the line of a command of a bank in its one spelling: it is the text's first line, and says that command
pub record BeginsWith (h : Header) (text : List ℕ) (bank : ℕ) (said : Command) (behind : List ℕ) : Type 0 where
  pub spelled : text ≡ command_text_of h bank said ++ 10 ∷ behind
  pub line : IsFirstLine text (Whole (command_text_of h bank said)) behind
  pub reads : command_line h (Whole (command_text_of h bank said)) ≡ Of bank said
  pub valid : IsCommand h bank said
  pub shorter : length behind < length text

begins : (h : Header) (text : List ℕ) (bank : ℕ) (said : Command) (behind : List ℕ) → IsSession h → text ≡ command_text_of h bank said ++ 10 ∷ behind → IsWritten h bank said
    → command_line h (Whole (command_text_of h bank said)) ≡ Of bank said → IsCommand h bank said → BeginsWith h text bank said behind
begins h text bank said behind session is written reads valid =
    let line : List ℕ = command_text_of h bank said in
    record {
      spelled = is;
      line = record {
        lines = ap lines_of is ∙ lines_of-line line behind written.visible ∙ ap (λ (first : Line). first ∷ lines_of behind) written.whole;
        rest = ap rest_of is ∙ rest_of-line line behind written.visible;
      };
      reads = reads;
      valid = valid;
      shorter = omega (arith, ap (λ (xs : List ℕ). length xs) is, length-append line (10 ∷ behind));
    }

spelled_whole : (h : Header) (bank : ℕ) (word : Word) (text one two : List ℕ) (said : Command) (behind : List ℕ) → text ≡ sender_name h bank ++ 32 ∷ one → one ≡ word_text word ++ 32 ∷ two → EndsWith h bank word two said behind
    → text ≡ command_text_of h bank said ++ 10 ∷ behind
unfolding command_text_of
spelled_whole h bank word text one two said behind first second ends =
    field_onto text (sender_name h bank) one _ behind first
    (field_onto one (word_field said) two (join_with_byte 32 (subject_field h said ∷ details h said)) behind (second ∙ ap (λ (w : List ℕ). w ++ 32 ∷ two) (sym ends.is_word)) ends.spelled)
    ∙ ap (λ (fields : List (List ℕ)). join_with_byte 32 fields ++ 10 ∷ behind) (sym (command_fields-named h bank said))

pub BeginsWith-fields : (h : Header) (bank : ℕ) (word : Word) (text one two : List ℕ) (said : Command) (behind : List ℕ) → IsSession h → bank < bank_count h
    → text ≡ bank_name h bank ++ 32 ∷ one → one ≡ word_text word ++ 32 ∷ two → EndsWith h bank word two said behind → BeginsWith h text bank said behind
BeginsWith-fields h bank word text one two said behind session within first second ends =
    let valid : IsCommand h bank said = record { sends = ends.sends within; values = ends.values } in
    let written : IsWritten h bank said = IsWritten-command h bank said session valid in
    let named : text ≡ sender_name h bank ++ 32 ∷ one = first ∙ ap (λ (name : List ℕ). name ++ 32 ∷ one) (sym (bank-name h bank (bank-operates_not h bank session within))) in
    begins h text bank said behind session (spelled_whole h bank word text one two said behind named second ends) written
    (command_line-spelled h (Whole (command_text_of h bank said)) bank said session valid ends.good written.fields) valid
