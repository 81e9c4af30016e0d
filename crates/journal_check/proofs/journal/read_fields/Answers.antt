use Rattle.std.proofs.Common.{arith, refl}
use Rattle.journal_check.proofs.JournalLemmas.{commands_wrong, fields_say, sent_stopped}
use Rattle.journal_check.proofs.journal.read_fields.Goals as goal

pub returns-in-Err-clause-reads : goal.returns-in-Err-clause-reads
returns-in-Err-clause-reads c = sent_stopped c.args.session.now c.args.text.now c.args.at c.in-Err.stop c.in-Err.ensures

pub returns-in_default-clause-reads : goal.returns-in_default-clause-reads
returns-in_default-clause-reads c = λ before count. commands_wrong c.args.session.now c.args.text.now c.args.at before _ c.in-Ok.read (omega arith) c.in-Ok.ensures c.in_default.ensures.reads

pub returns-clause-reads : goal.returns-clause-reads
returns-clause-reads c =
    fields_say c.args.session.now c.args.text.now c.split_at.result.1.now c.args.at _ c.in-Ok.read _ _ c.requires c.in-Ok.ensures c.in-Some.ensures.reads c.split_at.ensures.back refl c.split_at-2.ensures.front refl refl

pub returns-clause-valid : goal.returns-clause-valid
returns-clause-valid c = record { command = c.in-Some.ensures.range }
