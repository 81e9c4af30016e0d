-- Lines of totals and settlements, and what each says in a small session of either version.
use Rattle.std.proofs.Common.{◌≡◌, ℕ, List, [], ◌∷◌, codes, refl, Some, None}
use Rattle.fx_text.specs.Fields.{fields_of}
use Rattle.fx_text.specs.Number.{number_of}
use Rattle.fx_text.specs.declared.line.Line.TheVariants.{Whole, Long}
use Rattle.fx_amounts.specs.Numeral.{numeral, is_numeral}
use Rattle.fx_rules.specs.Session.{Header, host}
use Rattle.fx_rules.specs.declared.command.Command.TheVariants.{Total, Settle, Bad}
use Rattle.fx_rules.specs.declared.command.Reject.TheVariants as reject
use Rattle.order_lines.specs.Grammar.{command_line, journal_line}
use Rattle.order_lines.specs.Reading.{command_said, word_said, bank_said, other_said, limit_said, units_said, settle_said}
use Rattle.order_lines.specs.Spelling.{command_text_of}
use Rattle.order_lines.specs.declared.spoken.Spoken.{Spoken}
use Rattle.order_lines.specs.declared.spoken.Spoken.TheVariants.{Of, Stray}

abbrev session : ℕ → Header
session version = record { version = version; banks = codes "ALFA" ∷ codes "BETA" ∷ []; pairs = []; limits = []; totals = [] }

abbrev said : ℕ → List ℕ → Spoken
said version text = command_line (session version) (Whole text)

-- in version 2 a bank sets its total, and the operator gives credit back
total_set : said 2 (codes "BETA TOTAL 400") ≡ Of 1 (Total 400)
unfolding command_line command_said word_said limit_said fields_of number_of is_numeral
total_set = refl

given_back : said 2 (codes "HOST SETTLE BETA ALFA 1000") ≡ Of host (Settle 1 0 1000)
unfolding command_line command_said word_said settle_said bank_said other_said units_said fields_of number_of is_numeral
given_back = refl

-- the operator's bad lines, and a bank's that has the operator's word
of_one_bank : said 2 (codes "HOST SETTLE ALFA ALFA 5") ≡ Of host (Bad reject.Bank)
unfolding command_line command_said word_said settle_said bank_said other_said units_said fields_of number_of is_numeral
of_one_bank = refl

of_no_bank : said 2 (codes "HOST SETTLE ALFA HOST 0") ≡ Of host (Bad reject.Bank)
unfolding command_line command_said word_said settle_said bank_said other_said units_said fields_of number_of is_numeral
of_no_bank = refl

of_nothing : said 2 (codes "HOST SETTLE ALFA BETA 0") ≡ Of host (Bad reject.Units)
unfolding command_line command_said word_said settle_said bank_said other_said units_said fields_of number_of is_numeral
of_nothing = refl

too_few : said 2 (codes "HOST SETTLE ALFA BETA") ≡ Of host (Bad reject.Count)
unfolding command_line command_said word_said fields_of
too_few = refl

not_its_word : said 2 (codes "HOST BUY") ≡ Of host (Bad reject.Word)
unfolding command_line command_said word_said fields_of
not_its_word = refl

no_word : said 2 (codes "HOST") ≡ Of host (Bad reject.Word)
unfolding command_line command_said word_said fields_of
no_word = refl

long_line : command_line (session 2) (Long (codes "HOST")) ≡ Of host (Bad reject.Long)
unfolding command_line
long_line = refl

not_a_banks : said 2 (codes "ALFA SETTLE ALFA BETA 5") ≡ Of 0 (Bad reject.Word)
unfolding command_line command_said word_said fields_of
not_a_banks = refl

-- in version 1 both words are unknown, and the operator's line is a stray
first_total : said 1 (codes "BETA TOTAL 400") ≡ Of 1 (Bad reject.Word)
unfolding command_line command_said word_said fields_of
first_total = refl

first_settle : said 1 (codes "ALFA SETTLE ALFA BETA 5") ≡ Of 0 (Bad reject.Word)
unfolding command_line command_said word_said fields_of
first_settle = refl

first_operator : said 1 (codes "HOST SETTLE ALFA BETA 5") ≡ Stray
unfolding command_line fields_of
first_operator = refl

-- a journal's line can have the last fault of the operator alone
fault_of_operator : journal_line (session 2) (Whole (codes "HOST BAD 12")) ≡ Some (host, Bad reject.Units)
unfolding journal_line command_line command_said word_said fields_of number_of is_numeral
fault_of_operator = refl

no_banks_fault : journal_line (session 2) (Whole (codes "ALFA BAD 12")) ≡ None
unfolding journal_line command_line command_said word_said fields_of number_of is_numeral
no_banks_fault = refl

-- as a journal writes them
spelled_total : command_text_of (session 2) 1 (Total 400) ≡ codes "BETA TOTAL 400"
unfolding command_text_of numeral
spelled_total = refl

spelled_settle : command_text_of (session 2) host (Settle 1 0 1000) ≡ codes "HOST SETTLE BETA ALFA 1000"
unfolding command_text_of numeral
spelled_settle = refl
