use Rattle.std.proofs.Common.{◌∙◌, ap₂}
use Rattle.clap.specs.Words.{with_rule}
use Rattle.program_calls.proofs.line.load_command.Goals as goal

pub returns-clause-app : goal.returns-clause-app
returns-clause-app c =
    let seed = c.in_ok-arg.ensures.shape c.word.ensures.local ∙ ap₂ with_rule c.new.ensures.app c.word.ensures.rule in
    let banks = c.in_ok-arg-2.ensures.shape c.word-2.ensures.local ∙ ap₂ with_rule seed c.word-2.ensures.rule in
    let pairs = c.in_ok-arg-3.ensures.shape c.word-3.ensures.local ∙ ap₂ with_rule banks c.word-3.ensures.rule in
    let commands = c.in_ok-arg-4.ensures.shape c.word-4.ensures.local ∙ ap₂ with_rule pairs c.word-4.ensures.rule in
    c.in_ok-load.ensures.shape c.workers.ensures.local ∙ ap₂ with_rule commands c.workers.ensures.rule
