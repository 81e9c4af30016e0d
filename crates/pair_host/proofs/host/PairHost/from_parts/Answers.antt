use Rattle.pair_host.proofs.Holding.{stands-of}
use Rattle.pair_host.proofs.host.PairHost.from_parts.Goals as goal

pub returns : goal.returns
returns c = record { stands = λ h S books_are stands. stands-of h S c.args.books.items c.args.table books_are stands }
