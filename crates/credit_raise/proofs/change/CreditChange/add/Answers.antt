-- Fills that are paid for leave the banks.
use Rattle.std.proofs.Common.{subst, sym}
use Rattle.credit_raise.specs.declared.course.Course.{Course}
use Rattle.credit_raise.specs.UnderWay.{Change, HasBanks}
use Rattle.credit_raise.proofs.Changes.{behind-has}
use Rattle.credit_raise.proofs.change.CreditChange.add.Goals as goal

pub returns-clause-has : goal.returns-clause-has
returns-clause-has c banks has =
    subst (λ (course : Course). HasBanks course banks) (sym c.follow.ensures.value)
    (behind-has banks _ _ _ (subst (λ (change : Change). HasBanks change.course banks) (sym c.self.view_is) has))
