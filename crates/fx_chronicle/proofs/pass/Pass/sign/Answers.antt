use Rattle.fx_chronicle.proofs.Owning.{own-met}
use Rattle.fx_chronicle.proofs.pass.Pass.sign.Goals as goal

pub returns-clause-own : goal.returns-clause-own
returns-clause-own g c = rw (← c.self.view_is) (own-met _ _ _ c.sign.ensures.missed)
