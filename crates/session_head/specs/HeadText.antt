-- The text of a header, in its one spelling.
use Rattle.std.specs.Prelude.{ℕ, nat_lt, if◌then◌else◌, Option, Some, None, List, [], ◌∷◌, ◌++◌, map, flat_map}
use Rattle.std.specs.List.{join_with_byte}
use Rattle.fx_rules.specs.Lists.{below}
use Rattle.fx_rules.specs.Session.{Header, bank_count, opening_limit, opening_total}
use Rattle.session_head.specs.Statement.{spelling, version_fields}
use Rattle.session_head.specs.declared.statement.Statement.{Statement}
use Rattle.session_head.specs.declared.statement.Statement.TheVariants as statements

-- the statement of a limit, where it is above 0
abbrev pub limit_statement : Header → ℕ → ℕ → List Statement
limit_statement h from to = if nat_lt 0 (opening_limit h from to) then statements.Line from to (opening_limit h from to) ∷ [] else []

-- the statement of a bank's total, where it has one
abbrev pub total_stated : ℕ → Option ℕ → List Statement
total_stated bank (Some limit) = statements.Total bank limit ∷ []
total_stated bank None = []

abbrev pub totals_of : Header → ℕ → List Statement
totals_of h count = flat_map (λ bank. total_stated bank (opening_total h bank)) (below count)

-- the statements of a header: its banks, its pairs, its limits above 0 by the bank that sets them and then the other, its totals,
-- and START
abbrev pub statements_of : Header → List Statement
statements_of h = map statements.Bank h.banks ++ map statements.Pair h.pairs
    ++ flat_map (λ from. flat_map (limit_statement h from) (below (bank_count h))) (below (bank_count h))
    ++ totals_of h (bank_count h) ++ statements.Start ∷ []

-- a line: its fields with a space between each two, and a line feed
abbrev pub line_text : List (List ℕ) → List ℕ
line_text fields = join_with_byte 32 fields ++ 10 ∷ []

-- the lines of statements, where these banks are declared
abbrev pub lines_text : List (List ℕ) → List Statement → List ℕ
lines_text banks stated = flat_map (λ statement. line_text (spelling banks statement)) stated

-- the text of a header
abbrev pub head_text_of : Header → List ℕ
head_text_of h = line_text (version_fields h.version) ++ lines_text h.banks (statements_of h)
