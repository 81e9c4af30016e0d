-- What a line of a header says, by its fields and what was declared above it: a statement, or the line's first fault.
use Rattle.std.specs.Prelude.{ℕ, ◌%◌, ◌^◌, Bool, not, ◌&&◌, ◌||◌, ◌==◌, nat_lt, nat_le, is_none, if◌then◌else◌, List, [], ◌∷◌, ◌++◌, length, take, drop, slice_index, slice_set, position, codes, bytes_eq, Option, Some, None, ok_or, option_and_then, Result, Ok, Err}
use Rattle.fx_amounts.specs.Numeral.{numeral}
use Rattle.fx_text.specs.Faults.{◌>>=◌}
use Rattle.fx_text.specs.Fields.{field_at}
use Rattle.fx_text.specs.Number.{number_of}
use Rattle.fx_rules.specs.Names.{is_name, is_code}
use Rattle.fx_rules.specs.Session.{bank_named, newest, pair_text}
use Rattle.fx_rules.specs.declared.session.PairRule.{PairRule}
use Rattle.session_head.specs.Draft.{Draft, limit_place}
use Rattle.session_head.specs.declared.reason.HeadReason.{HeadReason}
use Rattle.session_head.specs.declared.reason.HeadReason.TheVariants as reasons
use Rattle.session_head.specs.declared.statement.Statement.{Statement}
use Rattle.session_head.specs.declared.statement.Statement.TheVariants as statements

-- the version that the first line's fields name, where there is such a version
unfoldable pub version_of : List (List ℕ) → Option ℕ
version_of fields = if (length fields == 2) && bytes_eq (field_at fields 0) (codes "FXBOOK") then number_of 1 newest (field_at fields 1) else None

-- the fields of the first line, in their one spelling
abbrev pub version_fields : ℕ → List (List ℕ)
version_fields version = codes "FXBOOK" ∷ numeral version ∷ []

-- the text as a name that no bank has
unfoldable pub new_name : List (List ℕ) → List ℕ → Option (List ℕ)
new_name banks text = if is_name text && is_none (bank_named banks text) then Some text else None

-- the two codes of a text `BASE/QUOTE`
unfoldable pub pair_codes : List ℕ → Option (List ℕ × List ℕ)
pair_codes text = if (length text == 7) && (slice_index text 3 == 47) && is_code (take 3 text) && is_code (drop 4 text)
    then Some (take 3 text, drop 4 text) else None

-- whether the codes differ and no declared pair is of the same two, in the same order
abbrev pub is_new_pair : List PairRule → List ℕ → List ℕ → Bool
is_new_pair pairs base quote = not (bytes_eq base quote)
    && is_none (position (λ rule. bytes_eq rule.base base && bytes_eq rule.quote quote) pairs)

-- the two codes of a text that can be a further pair
unfoldable pub new_pair : List PairRule → List ℕ → Option (List ℕ × List ℕ)
new_pair pairs text = option_and_then (λ both. if is_new_pair pairs both.0 both.1 then Some both else None) (pair_codes text)

-- the lot that a text writes: 1 to 10^9, and a multiple of 10^decimals
unfoldable pub lot_said : ℕ → List ℕ → Option ℕ
lot_said decimals text = option_and_then (λ lot. if lot % 10 ^ decimals == 0 then Some lot else None) (number_of 1 1000000000 text)

-- a BANK line; after the number of fields and the room for a bank comes the name
unfoldable pub bank_statement : Draft → List (List ℕ) → Result Statement HeadReason
bank_statement draft fields =
    if not (length fields == 2) then Err reasons.Count else if nat_le 64 (length draft.banks) then Err reasons.Many
    else ok_or (new_name draft.banks (field_at fields 1)) reasons.Name >>= (λ name. Ok (statements.Bank name))

-- a PAIR line
unfoldable pub pair_statement : Draft → List (List ℕ) → Result Statement HeadReason
pair_statement draft fields =
    if not (length fields == 5) then Err reasons.Count else if nat_le 32 (length draft.pairs) then Err reasons.Many else do
      both ← ok_or (new_pair draft.pairs (field_at fields 1)) reasons.Pair
      decimals ← ok_or (number_of 0 6 (field_at fields 2)) reasons.Decimals
      lot ← ok_or (lot_said decimals (field_at fields 3)) reasons.Lot
      weight ← ok_or (number_of 1 1000000 (field_at fields 4)) reasons.Weight
      Ok (statements.Pair (record { base = both.0; quote = both.1; decimals = decimals; lot = lot; weight = weight }))

-- a LINE line
unfoldable pub line_statement : Draft → List (List ℕ) → Result Statement HeadReason
line_statement draft fields =
    if not (length fields == 4) then Err reasons.Count else do
      from ← ok_or (bank_named draft.banks (field_at fields 1)) reasons.Banks
      to ← ok_or (bank_named draft.banks (field_at fields 2)) reasons.Banks
      limit ← (if from == to then Err reasons.Banks else ok_or (number_of 0 1000000000000000 (field_at fields 3)) reasons.Limit)
      Ok (statements.Line from to limit)

-- a TOTAL line
unfoldable pub total_statement : Draft → List (List ℕ) → Result Statement HeadReason
total_statement draft fields =
    if not (length fields == 3) then Err reasons.Count else do
      bank ← ok_or (bank_named draft.banks (field_at fields 1)) reasons.Banks
      limit ← ok_or (number_of 0 1000000000000000 (field_at fields 2)) reasons.Limit
      Ok (statements.Total bank limit)

-- a START line
unfoldable pub start_statement : Draft → List (List ℕ) → Result Statement HeadReason
start_statement draft fields =
    if not (length fields == 1) then Err reasons.Count
    else if nat_lt (length draft.banks) 2 || nat_lt (length draft.pairs) 1 then Err reasons.Start
    else Ok statements.Start

-- what a line behind the first says. Version 1 has no word TOTAL
unfoldable pub statement_of : Draft → List (List ℕ) → Result Statement HeadReason
statement_of draft fields =
    if bytes_eq (field_at fields 0) (codes "BANK") then bank_statement draft fields
    else if bytes_eq (field_at fields 0) (codes "PAIR") then pair_statement draft fields
    else if bytes_eq (field_at fields 0) (codes "LINE") then line_statement draft fields
    else if bytes_eq (field_at fields 0) (codes "START") then start_statement draft fields
    else if draft.version == 2 && bytes_eq (field_at fields 0) (codes "TOTAL") then total_statement draft fields
    else Err reasons.Word

-- the fields of a statement in their one spelling, where these banks are declared
abbrev pub spelling : List (List ℕ) → Statement → List (List ℕ)
spelling banks (statements.Bank name) = codes "BANK" ∷ name ∷ []
spelling banks (statements.Pair rule) = codes "PAIR" ∷ pair_text rule ∷ numeral rule.decimals ∷ numeral rule.lot ∷ numeral rule.weight ∷ []
spelling banks (statements.Line from to limit) = codes "LINE" ∷ field_at banks from ∷ field_at banks to ∷ numeral limit ∷ []
spelling banks (statements.Total bank limit) = codes "TOTAL" ∷ field_at banks bank ∷ numeral limit ∷ []
spelling banks statements.Start = codes "START" ∷ []

-- the draft with what a statement declares. A later limit of the same two banks stands in place of the former, and so does a later
-- total of the same bank
abbrev pub with_statement : Draft → Statement → Draft
with_statement draft (statements.Bank name) = record draft { banks = draft.banks ++ name ∷ [] }
with_statement draft (statements.Pair rule) = record draft { pairs = draft.pairs ++ rule ∷ [] }
with_statement draft (statements.Line from to limit) = record draft { limits = slice_set draft.limits (limit_place from to) limit }
with_statement draft (statements.Total bank limit) = record draft { totals = slice_set draft.totals bank (Some limit) }
with_statement draft statements.Start = draft
