use Rattle.std.proofs.Common.{sym, subst}
use Rattle.fx_rules.specs.History.{own}
use Rattle.fx_chronicle.specs.Submitting.{IsWholeOf}
use Rattle.flat_host.proofs.one_lock.close_one.Goals as goal

pub returns-clause-passes : goal.returns-clause-passes
returns-clause-passes g c = λ pass among.
    subst (IsWholeOf pass.key pass.seen (own pass.key pass.met)) (sym c.close.ensures.entries) (c.close.ensures.passes pass among)
