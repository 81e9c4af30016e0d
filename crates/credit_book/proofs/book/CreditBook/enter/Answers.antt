use Rattle.std.proofs.Common.{ap, sym, ◌∙◌}
use Rattle.fx_rules.specs.declared.outcome.Entry.{Entry}
use Rattle.fx_chronicle.specs.Faces.{Witness}
use Rattle.credit_book.proofs.Entering.{sender_pends}
use Rattle.credit_book.proofs.book.CreditBook.enter.Goals as goal

pub sign_pass-requires : goal.sign_pass-requires
sign_pass-requires g c = record {
  pends = sender_pends _ _ _ _ _ _ c.catch_up_pass.ensures.same c.catch_up_pass.ensures.kept c.record.ensures.value
      (ap (λ (w : Witness Entry). w.key) c.catch_up_pass.ensures.pass ∙ sym c.requires.sender) c.requires.legal;
}
