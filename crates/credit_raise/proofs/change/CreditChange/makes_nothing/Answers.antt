-- Where no pair has a plan of its own, each is as it was.
use Rattle.std.proofs.Common.{◌≡◌, ◌<◌, [], length, arith, subst, sym}
use Rattle.std.proofs.lemmas.Grind.{common_steps}
use Rattle.credit_raise.specs.UnderWay.{Change, EachMakes, reached}
use Rattle.credit_raise.proofs.Idling.{idle-stays}
use Rattle.credit_raise.proofs.change.CreditChange.makes_nothing.Goals as goal

pub returns : goal.returns
returns c = record {
  none = λ is h S pair under below.
      let empty : c.self.inside.plans.items ≡ [] = grind (arith, common_steps, is, c.is_empty.ensures) in
      idle-stays S (reached c.args.self.now S) c.self.inside.plans.items c.self.inside.idle pair empty
      (subst (λ (change : Change). pair < length change.plans) (sym c.self.view_is) below)
      (subst (λ (change : Change). EachMakes S (reached c.args.self.now S) 0 change.plans) (sym c.self.view_is) under.makes);
}
