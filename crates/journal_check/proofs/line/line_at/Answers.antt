use Rattle.journal_check.proofs.LineLemmas.{line_found, line_missing}
use Rattle.journal_check.proofs.line.line_at.Goals as goal

pub returns-in-Some : goal.returns-in-Some
returns-in-Some c = line_found c.args.text.now c.split_at.result.1.now c.split_at-in-Some.result.0.now c.args.at c.in-Some.count c.requires c.split_at.ensures.back c.in-Some.ensures c.split_at-in-Some.ensures.front

pub returns-in-None : goal.returns-in-None
returns-in-None c = line_missing c.args.text.now c.split_at.result.1.now c.args.at c.split_at.ensures.back c.in-None.ensures
