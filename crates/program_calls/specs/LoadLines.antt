-- The three lines of a summary.
use Rattle.std.specs.Prelude.{ℕ, List, [], ◌∷◌, ◌++◌, map, codes}
use Rattle.fx_amounts.specs.Numeral.{numeral}
use Rattle.reply_lines.specs.Rows.{row}
use Rattle.journal_check.specs.declared.check.Verdict.{Verdict}
use Rattle.journal_check.specs.declared.check.Verdict.TheVariants.{Yes, No}
use Rattle.program_calls.specs.declared.loading.serial.SerialTotals.{SerialTotals}
use Rattle.program_calls.specs.declared.loading.summary.Summary.{Summary}

-- a word, and counts
unfoldable pub counts_line : List ℕ → List ℕ → List ℕ
counts_line word counts = row word (map numeral counts)

-- the word of a verdict, and where it is no, the offset
unfoldable pub verdict_word : Verdict → List ℕ
verdict_word (Yes passed) = codes "YES"
verdict_word (No offset) = codes "NO " ++ numeral offset

-- how many entries the history of the threads has, and what the check said of its output
unfoldable pub threads_line : ℕ → Verdict → List ℕ
threads_line entries verdict = row (codes "THREADS") (numeral entries ∷ verdict_word verdict ∷ [])

-- the counts of a run in order, as they are told
abbrev pub counts_of : SerialTotals → List ℕ
counts_of serial = serial.commands ∷ serial.fills ∷ serial.lots ∷ serial.resting ∷ []

-- what a load was made from, what its commands came to in order, and how they came out on threads
unfoldable pub three_lines : List ℕ → List ℕ → ℕ → Verdict → List ℕ
three_lines made_from came_to entries verdict =
    counts_line (codes "LOAD") made_from ++ (counts_line (codes "SERIAL") came_to ++ threads_line entries verdict)

-- the text of a summary
abbrev pub text_of : Summary → List ℕ
text_of summary = three_lines summary.made_from (counts_of summary.serial) summary.threaded.entries summary.threaded.verdict
