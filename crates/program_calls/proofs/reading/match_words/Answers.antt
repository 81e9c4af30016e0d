use Rattle.std.proofs.Common.{◌≡◌, ◌∙◌, ap, map, string_bytes, true}
use Rattle.clap.specs.Words.{App, takes}
use Rattle.fx_amounts.specs.OutOfMemory.{refused}
use Rattle.program_calls.specs.Refused.{fault_at}
use Rattle.program_calls.specs.inside.Tool.{tool}
use Rattle.program_calls.specs.declared.reading.WordsFault.{WordsFault}
use Rattle.program_calls.specs.declared.reading.WordsFault.TheVariants.{Memory}
use Rattle.program_calls.proofs.MatchedLemmas.{passed}
use Rattle.program_calls.proofs.reading.match_words.Goals as goal

pub returns-in_err-matches-clause-usage : goal.returns-in_err-matches-clause-usage
returns-in_err-matches-clause-usage c =
    passed c.from_residual-in_err-matches.result _ (λ (fault : WordsFault). takes tool (map string_bytes c.args.words.now) ≡ true → fault ≡ Memory refused) c.from_residual-in_err-matches.ensures.1
    (λ fault gives taken. gives ∙ ap fault_at (c.in_err-matches.ensures.passes (ap (λ (a : App). takes a (map string_bytes c.args.words.now)) c.in_ok-command_line.ensures ∙ taken)))
