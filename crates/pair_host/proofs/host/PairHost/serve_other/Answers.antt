-- What is neither about one pair nor a credit change is told by the table.
use Rattle.std.proofs.Common.{rules}
use Rattle.pair_host.proofs.Sending.{told_by-table}
use Rattle.pair_host.proofs.host.PairHost.serve_other.Goals as goal

pub tell-requires-clause-no_pair : goal.tell-requires-clause-no_pair
tell-requires-clause-no_pair c = told_by-table c.args.command.now (search rules) (search rules)
