use Rattle.std.proofs.Common.{refl}
use Rattle.journal_check.proofs.JournalWalk.{spelled_says}
use Rattle.journal_check.proofs.journal.read_sent.Goals as goal

pub returns-clause-reads : goal.returns-clause-reads
returns-clause-reads c =
    spelled_says c.args.session.now c.args.text.now c.split_at.result.1.now c.in-Some.behind.now c.args.at _ _ c.banks-banks.ensures.valid c.in-Some.ensures.valid c.requires c.split_at.ensures.back
    c.in-Some.ensures.spelled refl c.split_at-2.ensures.front
