use Rattle.std.proofs.Common.{sym, ◌∙◌}
use Rattle.journal_check.specs.inside.Comparing.{Comparing}
use Rattle.journal_check.proofs.CompareLemmas.{appended_more}
use Rattle.journal_check.proofs.compare.ComparisonSink.write.Goals as goal

pub returns-clause-ok : goal.returns-clause-ok
returns-clause-ok c =
    let inside : Comparing = record { text = c.self.inside.text.now; at = c.self.inside.at; wrong = c.self.inside.wrong; faults = c.self.inside.faults } in
    appended_more c.args.self.now inside c.split_at.result.1.now c.args.piece.now c.agreeing-count.result c.self.view_is (sym c.is_some.ensures ∙ c.if-is_some.false) c.split_at.ensures.back c.agreeing-count.ensures.same
