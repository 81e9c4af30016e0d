-- The line of a command is one whole line, and is read back.
use Rattle.std.proofs.Common.{◌≡◌, ℕ, ◌^◌, ◌<◌, ◌≤◌, length, get_or, ap, ◌∙◌, arith, All, Some}
use Rattle.std.proofs.lemmas.List.{get_or-map}
use Rattle.std.specs.List.{AllByRecursion}
use Rattle.fx_text.specs.Fields.{fields_of}
use Rattle.fx_text.specs.Lines.{line_of}
use Rattle.fx_text.specs.declared.line.Line.TheVariants.{Whole}
use Rattle.fx_rules.specs.Reject.{code_of}
use Rattle.fx_rules.specs.Session.{Header, IsSession, IsSender, pair_count, decimals_of}
use Rattle.fx_rules.specs.Step.{IsCommand}
use Rattle.fx_rules.specs.declared.command.Command.{Command}
use Rattle.fx_rules.specs.declared.command.Command.TheVariants as command
use Rattle.order_lines.specs.Grammar.{journal_line}
use Rattle.order_lines.specs.inside.Printing.{price_spelled}
use Rattle.order_lines.specs.Spelling.{command_fields, command_text_of}
use Rattle.order_lines.specs.Words.{side_word}
use Rattle.order_lines.specs.declared.word.Word.TheVariants as word
use Rattle.fx_text.proofs.FieldTexts.{IsField-numeral, IsField-price_text}
use Rattle.fx_text.proofs.JoinedFields.{IsField, fields_of-join, join-visible, length-join, line_of-join}
use Rattle.order_lines.proofs.FieldTexts.{IsField-bank, IsField-pair, IsField-word, IsField-life, IsField-bad, no_rule}
use Rattle.order_lines.proofs.SaidFaults.{code_within, last_fault-most}
use Rattle.order_lines.proofs.SaidLines.{journal_line-spelled}
use Rattle.order_lines.proofs.SenderNames.{IsField-sender}
use Rattle.fx_rules.proofs.Senders.{suits-sender}

IsField-price : (h : Header) (pair price : ℕ) → IsSession h → pair < pair_count h → price ≤ 10 ^ 9 → IsField (price_spelled h pair price)
IsField-price h pair price session within most =
    let is : decimals_of h pair ≡ (get_or h.pairs pair no_rule).decimals = get_or-map (λ rule. rule.decimals) h.pairs pair no_rule 0 within in
    let few : decimals_of h pair ≤ 6 = omega (arith, (session.rules pair no_rule within).decimals) in
    IsField-price_text (decimals_of h pair) price few (omega arith)

are_fields : (h : Header) (sender : ℕ) (said : Command) → IsSession h → IsSender h sender → IsCommand h sender said → AllByRecursion IsField (command_fields h sender said)
are_fields h sender (command.Order side pair price lots life) session sends is =
    (IsField-sender h sender session sends, (IsField-word (side_word side), (IsField-pair h pair session is.values.0, (IsField-price h pair price session is.values.0 is.values.1.1, (IsField-numeral lots (omega (arith, is.values.2.1)), (IsField-life life, tt))))))
are_fields h sender (command.Cancel pair number) session sends is =
    (IsField-sender h sender session sends, (IsField-word word.Cancel, (IsField-pair h pair session is.values.0, (IsField-numeral number (omega (arith, is.values.1.1)), tt))))
are_fields h sender (command.Reduce pair number lots) session sends is =
    (IsField-sender h sender session sends, (IsField-word word.Reduce, (IsField-pair h pair session is.values.0, (IsField-numeral number (omega (arith, is.values.1.1)), (IsField-numeral lots (omega (arith, is.values.2.1)), tt)))))
are_fields h sender (command.Pull pair) session sends is = (IsField-sender h sender session sends, (IsField-word word.Pull, (IsField-pair h pair session is.values, tt)))
are_fields h sender (command.Line other limit) session sends is =
    (IsField-sender h sender session sends, (IsField-word word.Line, (IsField-bank h other session is.values.0, (IsField-numeral limit (omega (arith, is.values.2)), tt))))
are_fields h sender (command.Total limit) session sends is = (IsField-sender h sender session sends, (IsField-word word.Total, (IsField-numeral limit (omega (arith, is.values)), tt)))
are_fields h sender (command.Settle a b units) session sends is =
    (IsField-sender h sender session sends, (IsField-word word.Settle, (IsField-bank h a session is.values.0, (IsField-bank h b session is.values.1, (IsField-numeral units (omega (arith, is.values.4)), tt)))))
are_fields h sender (command.Show other) session sends is = (IsField-sender h sender session sends, (IsField-word word.Show, (IsField-bank h other session is.values.0, tt)))
are_fields h sender (command.Book pair) session sends is = (IsField-sender h sender session sends, (IsField-word word.Book, (IsField-pair h pair session is.values, tt)))
are_fields h sender (command.Bad fault) session sends is =
    (IsField-sender h sender session sends, (IsField-bad, (IsField-numeral (code_of fault) (omega (arith, (code_within h sender fault is.sends).1, last_fault-most h sender)), tt)))

few_fields : (h : Header) (sender : ℕ) (said : Command) → (0 < length (command_fields h sender said)) × (length (command_fields h sender said) ≤ 6)
few_fields h sender (command.Order side pair price lots life) = (omega arith, omega arith)
few_fields h sender (command.Cancel pair number) = (omega arith, omega arith)
few_fields h sender (command.Reduce pair number lots) = (omega arith, omega arith)
few_fields h sender (command.Pull pair) = (omega arith, omega arith)
few_fields h sender (command.Line other limit) = (omega arith, omega arith)
few_fields h sender (command.Total limit) = (omega arith, omega arith)
few_fields h sender (command.Settle a b units) = (omega arith, omega arith)
few_fields h sender (command.Show other) = (omega arith, omega arith)
few_fields h sender (command.Book pair) = (omega arith, omega arith)
few_fields h sender (command.Bad fault) = (omega arith, omega arith)

-- the line of a command has its fields, no byte below the space and at most 246 bytes, and cut out of a text it is whole and read back
pub record IsWritten (h : Header) (sender : ℕ) (said : Command) : Type 0 where
  pub fields : fields_of (command_text_of h sender said) ≡ command_fields h sender said
  pub visible : All (λ byte. 32 ≤ byte) (command_text_of h sender said)
  pub short : length (command_text_of h sender said) ≤ 246
  pub whole : line_of (command_text_of h sender said) ≡ Whole (command_text_of h sender said)
  pub read_back : journal_line h (line_of (command_text_of h sender said)) ≡ Some (sender, said)

pub IsWritten-command : (h : Header) (sender : ℕ) (said : Command) → IsSession h → IsCommand h sender said → IsWritten h sender said
unfolding command_text_of
IsWritten-command h sender said session is =
    let all : AllByRecursion IsField (command_fields h sender said) = are_fields h sender said session (suits-sender h sender said is.sends) is in
    let few = few_fields h sender said in
    let fields : fields_of (command_text_of h sender said) ≡ command_fields h sender said = fields_of-join (command_fields h sender said) few.0 all in
    let whole : line_of (command_text_of h sender said) ≡ Whole (command_text_of h sender said) = line_of-join (command_fields h sender said) few.1 all in
    record {
      fields = fields;
      visible = join-visible (command_fields h sender said) all;
      short = omega (arith, few.1, length-join (command_fields h sender said) all);
      whole = whole;
      read_back = ap (journal_line h) whole ∙ journal_line-spelled h (Whole (command_text_of h sender said)) sender said session is fields;
    }
