-- The book was made for the banks of the session, and so for those of a change that is under way there.
use Rattle.std.proofs.Common.{ap, ◌∙◌}
use Rattle.fx_rules.specs.Session.{bank_count}
use Rattle.global_book.specs.Book.{Book}
use Rattle.credit_raise.proofs.Changes.{among-has}
use Rattle.pair_shards.proofs.shard.Shard.turn.Goals as goal

pub pair-requires-2-clause-banks : goal.pair-requires-2-clause-banks
pair-requires-2-clause-banks g c =
    among-has (bank_count g.N.Naming.session) c.args.change.now.sender c.book.result.now.banks c.args.change.now.course c.requires.under_way.banks
    (ap (λ (b : Book). b.banks) c.book.ensures.value ∙ c.book.ensures.kept.banks)
