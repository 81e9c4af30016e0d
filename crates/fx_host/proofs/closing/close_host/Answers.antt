use Rattle.std.proofs.Common.{ap, sym, subst, ◌∙◌}
use Rattle.fx_rules.specs.declared.outcome.Entry.{Entry}
use Rattle.fx_rules.specs.History.{own}
use Rattle.fx_chronicle.specs.Faces.{Chronicle}
use Rattle.fx_chronicle.specs.Submitting.{IsWholeOf}
use Rattle.credit_book.specs.Recorded.{Recorded}
use Rattle.fx_host.proofs.closing.close_host.Goals as goal

pub returns-clause-passes : goal.returns-clause-passes
returns-clause-passes g c = λ pass among.
    subst (IsWholeOf pass.key pass.seen (own pass.key pass.met))
    (sym (c.close.ensures.entries ∙ ap (λ (w : Chronicle Entry). w.entries) c.into_parts-table.ensures.history ∙ ap (λ (b : Recorded). b.history.entries) (c.taken_out-shards.ensures.same ∙ c.meet_passes.ensures.same)))
    (c.meet_passes.ensures.passes pass among)
