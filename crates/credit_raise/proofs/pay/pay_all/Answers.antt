-- One fill more is paid for.
use Rattle.std.proofs.Common.{List, ◌≡◌, ◌+◌, ◌++◌, ◌∷◌, [], ap, sym, take, ◌∙◌}
use Rattle.std.proofs.lemmas.List.{take_more}
use Rattle.fx_rules.specs.declared.orders.Fill.{Fill}
use Rattle.credit_lines.specs.Credit.{Credit}
use Rattle.credit_raise.specs.inside.Paying.{paid_all, paid_by}
use Rattle.credit_raise.proofs.Turning.{paid_all-push, paid_by-banks}
use Rattle.credit_raise.proofs.pay.pay_all.Goals as goal

pub loop-fill-preserved : goal.loop-fill-preserved
loop-fill-preserved c =
    let was = c.loop-fill.invariant in
    let f : Fill = c.fill-item.result in
    let k = c.loop-fill.fill-index in
    let fills : List Fill = c.args.fills.now in
    let next : take (k + 1) fills ≡ take k fills ++ f ∷ [] =
    take_more fills k f c.loop-fill-test.true ∙ ap (λ (x : Fill). take k fills ++ x ∷ []) (sym c.fill-item.is) in
    record {
      value = c.pay.ensures.value ∙ ap (λ (l : Credit). paid_by c.args.weight l f) was.value
          ∙ sym (ap (paid_all c.args.weight c.args.lines.now) next ∙ paid_all-push c.args.weight c.args.lines.now (take k fills) f);
      banks = was.banks ∙ sym (ap (λ (l : Credit). l.banks) c.pay.ensures.value ∙ paid_by-banks c.args.weight c.loop-fill.lines f);
      valid = c.pay.ensures.valid;
    }
