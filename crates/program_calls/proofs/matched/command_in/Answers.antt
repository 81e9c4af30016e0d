use Rattle.std.proofs.Common.{◌∙◌}
use Rattle.clap.specs.Words.{found_of, rows_of, subcommand_rows_of}
use Rattle.program_calls.proofs.MatchedLemmas.{both_parts, name_by_rows}
use Rattle.program_calls.proofs.matched.command_in.Goals as goal

pub returns : goal.returns
returns c =
    both_parts (λ command. command.0.now) (λ command. rows_of (found_of command.1.now)) c.subcommand.result (subcommand_rows_of c.args.matches.now)
    (c.subcommand.ensures.name ∙ name_by_rows c.args.matches.now) c.subcommand.ensures.rows
