-- What is left of a command's line where its front was read.
use Rattle.std.specs.Prelude.{ℕ, ◌≡◌, ◌<◌, false, List, ◌∷◌, ◌++◌}
use Rattle.std.specs.List.{join_with_byte}
use Rattle.fx_rules.specs.Session.{Header, bank_count}
use Rattle.fx_rules.specs.Step.{AreValues, Suits}
use Rattle.fx_rules.specs.declared.command.Command.{Command}
use Rattle.order_lines.specs.Grammar.{is_bad}
use Rattle.order_lines.specs.Words.{word_text}
use Rattle.order_lines.specs.declared.word.Word.{Word}
use Rattle.order_lines.specs.inside.Printing.{word_field, subject_field, details}

-- behind its sender's name and this word a command's line goes on with this text, up to its line feed and what stands behind it
pub record EndsWith (h : Header) (sender : ℕ) (word : Word) (text : List ℕ) (command : Command) (behind : List ℕ) : Type 0 where
  pub spelled : text ≡ join_with_byte 32 (subject_field h command ∷ details h command) ++ 10 ∷ behind
  pub is_word : word_field command ≡ word_text word
  pub sends : sender < bank_count h → Suits h sender command
  pub values : AreValues h sender command
  pub good : is_bad command ≡ false
