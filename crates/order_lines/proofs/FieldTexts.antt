-- The words, names and pairs of a command line are the texts of fields.
use Rattle.std.proofs.Common.{◌≡◌, ℕ, ◌<◌, List, [], get_or, refl, sym, arith, IsTrue, subst}
use Rattle.std.proofs.lemmas.List.{get_or-map}
use Rattle.fx_text.proofs.FieldTexts.{IsField-tested}
use Rattle.fx_text.proofs.JoinedFields.{IsField}
use Rattle.fx_rules.specs.Names.{is_name}
use Rattle.fx_rules.specs.Session.{Header, IsSession, IsPairRule, bank_count, pair_count, pair_text, bank_name, pair_name}
use Rattle.fx_rules.specs.declared.session.PairRule.{PairRule}
use Rattle.fx_rules.specs.declared.command.Life.{Life}
use Rattle.fx_rules.specs.declared.command.Life.TheVariants.{Day, Ioc, Fok}
use Rattle.fx_rules.proofs.NameTexts.{HasNameBytes-name, HasPairBytes-pair_text}
use Rattle.order_lines.specs.Words.{word_text, life_text, bad_word}
use Rattle.order_lines.specs.declared.word.Word.{Word}
use Rattle.order_lines.specs.declared.word.Word.TheVariants.{Buy, Sell, Cancel, Reduce, Pull, Line, Show, Book, Total, Settle}

-- words
pub IsField-word : (word : Word) → IsField (word_text word)
IsField-word Buy = IsField-tested (word_text Buy) refl
IsField-word Sell = IsField-tested (word_text Sell) refl
IsField-word Cancel = IsField-tested (word_text Cancel) refl
IsField-word Reduce = IsField-tested (word_text Reduce) refl
IsField-word Pull = IsField-tested (word_text Pull) refl
IsField-word Line = IsField-tested (word_text Line) refl
IsField-word Show = IsField-tested (word_text Show) refl
IsField-word Book = IsField-tested (word_text Book) refl
IsField-word Total = IsField-tested (word_text Total) refl
IsField-word Settle = IsField-tested (word_text Settle) refl

pub IsField-life : (life : Life) → IsField (life_text life)
IsField-life Day = IsField-tested (life_text Day) refl
IsField-life Ioc = IsField-tested (life_text Ioc) refl
IsField-life Fok = IsField-tested (life_text Fok) refl

pub IsField-bad : IsField bad_word
IsField-bad = IsField-tested bad_word refl

-- names
pub IsField-name : (text : List ℕ) → IsTrue (is_name text) → IsField text
IsField-name text is = let bytes = HasNameBytes-name text is in record { some = omega (arith, bytes.least); short = omega (arith, bytes.most); visible = bytes.visible }

pub IsField-bank : (h : Header) (bank : ℕ) → IsSession h → bank < bank_count h → IsField (bank_name h bank)
IsField-bank h bank session within = IsField-name (bank_name h bank) (session.names bank [] within)

-- a bank's name begins with a letter, and so begins no comment
pub bank_name-letter : (h : Header) (bank : ℕ) → IsSession h → bank < bank_count h → 64 < get_or (bank_name h bank) 0 0
bank_name-letter h bank session within = (HasNameBytes-name (bank_name h bank) (session.names bank [] within)).letter

-- pairs
pub IsField-pair_text : (rule : PairRule) → IsPairRule rule → IsField (pair_text rule)
IsField-pair_text rule valid = let bytes = HasPairBytes-pair_text rule valid in record { some = omega (arith, bytes.size); short = omega (arith, bytes.size); visible = bytes.visible }

-- any pair, for a place past the end
pub no_rule : PairRule
no_rule = record { base = []; quote = []; decimals = 0; lot = 0; weight = 0 }

pub pair_name-is : (h : Header) (pair : ℕ) → pair < pair_count h → pair_name h pair ≡ pair_text (get_or h.pairs pair no_rule)
pair_name-is h pair within = get_or-map pair_text h.pairs pair no_rule [] within

pub IsField-pair : (h : Header) (pair : ℕ) → IsSession h → pair < pair_count h → IsField (pair_name h pair)
IsField-pair h pair session within =
    let is : pair_name h pair ≡ pair_text (get_or h.pairs pair no_rule) = pair_name-is h pair within in
    subst IsField (sym is) (IsField-pair_text (get_or h.pairs pair no_rule) (session.rules pair no_rule within))
