-- The summary of a small load, in its bytes.
use Rattle.std.proofs.Common.{◌≡◌, codes, refl}
use Rattle.fx_amounts.specs.Numeral.{numeral}
use Rattle.program_calls.specs.LoadLines.{counts_line, verdict_word, threads_line, three_lines}
use Rattle.program_calls.specs.LoadSummary.{load_text}

-- Of seed 1, with two banks, one pair and two commands: one fill of 8 lots, and one order that rests.
small : load_text 1 2 1 2 1 8 1 ≡ codes "LOAD 1 2 1 2\nSERIAL 2 1 8 1\nTHREADS 2 YES\n"
unfolding numeral three_lines counts_line threads_line verdict_word
small = refl
