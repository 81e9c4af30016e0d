use Rattle.std.proofs.Common.{ℕ, ◌≡◌, ◌∙◌, List, Result, refl, sym, subst}
use Rattle.market_run.proofs.Serving.{of-parts}
use Rattle.pair_host.specs.Standing.{stands}
use Rattle.fx_rules.specs.Session.{Header}
use Rattle.fx_rules.specs.declared.outcome.Entry.{Entry}
use Rattle.reply_lines.specs.Day.{AreLinesOf, AreNoticesOf}
use Rattle.reply_lines.specs.declared.journal.JournalLines.{JournalLines}
use Rattle.journal_check.specs.inside.Stops.{HasServedJournal, IsComparedWith, lines_of}
use Rattle.journal_check.specs.declared.journal.ServedJournal.{ServedJournal}
use Rattle.journal_check.specs.declared.stop.Stop.{Stop}
use Rattle.journal_check.proofs.CompareLemmas.{compared_whole, compared_part}
use Rattle.journal_check.proofs.compare.compare_day.Goals as goal

-- the lines that were read are those of the journal
lines_served : (h : Header) (entries : List Entry) (served : ServedJournal) {journal : JournalLines} → HasServedJournal h entries served → journal.count ≡ served.count → journal.lines.now ≡ lines_of served.lines → AreLinesOf h entries journal
lines_served h entries served has count lines = record { count = count ∙ has.count; lines = lines ∙ has.lines.are }

pub as_slice-requires : goal.as_slice-requires
as_slice-requires c = c.requires.served.1.lines.within

pub write_day-requires : goal.write_day-requires
write_day-requires c =
    let served = c.requires.served in
    let parts = of-parts stands AreNoticesOf c.args.session.now c.args.served.run _ _ served.0 c.into_parts-host.ensures.market c.into_parts-host.ensures.observer served.1.run in
    record { told = (served.0, parts.0, lines_served c.args.session.now served.0 c.args.served served.1 refl c.as_slice.ensures, parts.1, parts.2) }

pub returns-in-Ok-clause-compared : goal.returns-in-Ok-clause-compared
returns-in-Ok-clause-compared c = λ entries has.
    let parts = of-parts stands AreNoticesOf c.args.session.now c.args.served.run _ _ entries c.into_parts-host.ensures.market c.into_parts-host.ensures.observer has.run in
    subst (λ (result : Result ℕ Stop). IsComparedWith c.args.session.now entries c.args.text.now result) (sym c.end.ensures.end)
    (compared_whole c.args.session.now entries c.args.text.now c.new-comparison.result c.write_day.new.out c.in-Ok.field-0 c.new-comparison.ensures c.end.ensures.valid (c.in-Ok.ensures.wrote entries parts.0 (lines_served c.args.session.now entries c.args.served has refl c.as_slice.ensures) parts.1 parts.2))

pub returns-in-Err-Write-clause-compared : goal.returns-in-Err-Write-clause-compared
returns-in-Err-Write-clause-compared c = λ entries has.
    let parts = of-parts stands AreNoticesOf c.args.session.now c.args.served.run _ _ entries c.into_parts-host.ensures.market c.into_parts-host.ensures.observer has.run in
    subst (λ (result : Result ℕ Stop). IsComparedWith c.args.session.now entries c.args.text.now result) (sym c.end-in-Err-Write.ensures.end)
    (compared_part c.args.session.now entries c.args.text.now c.new-comparison.result c.write_day.new.out c.new-comparison.ensures c.end-in-Err-Write.ensures.valid ((rw c.in-Err-Write.field-0-is at c.in-Err-Write.ensures.wrote) entries parts.0 (lines_served c.args.session.now entries c.args.served has refl c.as_slice.ensures) parts.1 parts.2))

pub returns-clause-compared : goal.returns-clause-compared
returns-clause-compared c = λ entries has.
    let parts = of-parts stands AreNoticesOf c.args.session.now c.args.served.run _ _ entries c.into_parts-host.ensures.market c.into_parts-host.ensures.observer has.run in
    let wrote = (rw c.in-Err-Memory.field-0-is at c.in-Err-Memory.ensures.wrote) entries parts.0 (lines_served c.args.session.now entries c.args.served has refl c.as_slice.ensures) parts.1 parts.2 in
    record { day = wrote.text; is_day = wrote.is_text; compared = tt }
