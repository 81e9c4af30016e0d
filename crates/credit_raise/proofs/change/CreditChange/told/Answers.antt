-- The pairs behind the plans make no fills.
use Rattle.std.proofs.Common.{ap, sym, ◌∙◌}
use Rattle.credit_raise.specs.UnderWay.{answer_of, fills_of_all, outcome_of, set_of}
use Rattle.credit_raise.proofs.Idling.{idle-fills}
use Rattle.credit_raise.proofs.change.CreditChange.told.Goals as goal

pub returns : goal.returns
returns c = record {
  value = c.answer.ensures.value
      ∙ ap (answer_of c.self.inside.command (set_of c.self.inside.course))
      (c.from_vec.ensures.items ∙ c.in_ok-fills.ensures.fills ∙ ap fills_of_all c.deref.ensures.value ∙ sym (idle-fills c.self.inside.plans.items c.self.inside.idle))
      ∙ ap outcome_of c.self.view_is;
}
