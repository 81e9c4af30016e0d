use Rattle.std.proofs.Common.{◌≡◌, ◌∙◌, ap, sym, map, string_bytes, None, List, ℕ, Bor}
use Rattle.clap.specs.Words.{subcommand_rows_of}
use Rattle.program_calls.specs.Forms.{task_of}
use Rattle.program_calls.specs.declared.reading.WordsFault.{WordsFault}
use Rattle.program_calls.specs.declared.reading.WordsFault.TheVariants.{Usage}
use Rattle.program_calls.proofs.MatchedLemmas.{passed}
use Rattle.program_calls.proofs.Complete.{not_taken, unlike_said}
use Rattle.program_calls.proofs.reading.read_words.Goals as goal

pub returns-in_err-matches-clause-usage : goal.returns-in_err-matches-clause-usage
returns-in_err-matches-clause-usage c =
    passed c.from_residual.result _ (λ (fault : WordsFault). fault ≡ Usage → task_of (map string_bytes c.args.words.now) ≡ None) c.from_residual.ensures.1
    (λ fault is usage. not_taken (map string_bytes c.args.words.now) c.in_err-matches.field-0.0 c.in_err-matches.ensures.usage (sym is ∙ usage))

pub returns-then-not-are_same-clause-usage : goal.returns-then-not-are_same-clause-usage
returns-then-not-are_same-clause-usage c usage =
    unlike_said (map string_bytes c.args.words.now) (subcommand_rows_of c.in_ok-matches.matches) c.of.result c.in-Some.matched
    (map (λ (word : Bor (List ℕ)). word.now) c.deref.result.now) c.are_same.result
    c.in_ok-matches.ensures.matches c.of.ensures c.in-Some.is
    (ap (map (λ (word : Bor (List ℕ)). word.now)) c.deref.ensures.value ∙ c.in_ok-back.ensures) c.are_same.ensures c.if-not-are_same.true
