-- What private functions and proofs alone say of a journal.
use Rattle.std.specs.Prelude.{ℕ, List, [], ◌∷◌, codes}
use Rattle.fx_amounts.specs.Numeral.{numeral}
use Rattle.reply_lines.specs.Rows.{row}

-- the line that begins a journal of so many entries
unfoldable pub count_line : ℕ → List ℕ
count_line count = row (codes "JOURNAL") (numeral count ∷ [])
