use Rattle.std.proofs.Common.{ap, ◌∙◌}
use Rattle.session_head.specs.Statement.{statement_of}
use Rattle.session_head.proofs.AgainLemmas.{statement_again}
use Rattle.session_head.proofs.StatementLemmas.{if_found}
use Rattle.session_head.proofs.statement.statement_from.Goals as goal

pub returns-clause-found : goal.returns-clause-found
returns-clause-found c = if_found c.args.draft.now c.args.fields.now c.statement_by_word.result c.statement_by_word.ensures

pub returns-clause-again : goal.returns-clause-again
returns-clause-again c = λ statement valid can spelled.
    c.statement_by_word.ensures ∙ ap (statement_of c.args.draft.now) spelled ∙ statement_again c.args.draft.now statement valid can
