-- The keys of a blank are those below the pairs', and the pairs'.
use Rattle.std.proofs.Common.{sym, subst, arith}
use Rattle.fx_chronicle.specs.Faces.{AreNew}
use Rattle.fx_chronicle.proofs.Sending.{new-senders}
use Rattle.fx_host.specs.inside.Opening.{ArePairFronts}
use Rattle.fx_host.proofs.Fronts.{sender-fronts, pair-fronts}
use Rattle.fx_host.proofs.opening.open_host.Goals as goal

pub locks_of-requires-clause-fronts : goal.locks_of-requires-clause-fronts
locks_of-requires-clause-fronts g c = subst (ArePairFronts 0) (sym c.in_ok-pair_fronts.ensures.tail) (pair-fronts _ _ c.in_ok-writer.ensures.fronts)

pub open_passes-requires-clause-fronts : goal.open_passes-requires-clause-fronts
open_passes-requires-clause-fronts g c = subst (AreNew 65) (sym c.in_ok-pair_fronts.ensures.items) (sender-fronts _ _ (omega (arith, c.requires.keys)) c.in_ok-writer.ensures.fronts)

pub returns-clause-senders : goal.returns-clause-senders
returns-clause-senders g c = new-senders g.N.Naming.session _ c.in_ok-passes.ensures.passes
