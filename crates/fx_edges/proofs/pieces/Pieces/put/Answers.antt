-- A text that is a piece by itself follows what was held.
use Rattle.std.proofs.Common.{rules}
use Rattle.fx_edges.proofs.Gathering.{Gathered-failed, Gathered-of_both, Gathered-of_held}
use Rattle.fx_edges.proofs.pieces.Pieces.put.Goals as goal

pub returns-in-Err-clause-gathered : goal.returns-in-Err-clause-gathered
returns-in-Err-clause-gathered g c = rw (← c.self.view_is, ← c.deref.ensures.value) (Gathered-of_held c.deref.result.now c.args.text.now c.in-Err.ensures.wrote)

pub returns-then-is_ok-clause-gathered : goal.returns-then-is_ok-clause-gathered
returns-then-is_ok-clause-gathered g c =
    rw (← c.self.view_is, ← c.deref.ensures.value)
    (Gathered-of_both c.write_all-wrote.result c.clear.ensures.items c.in_default.ensures.wrote c.write_all-wrote.ensures.wrote)

pub returns-else-is_ok-clause-gathered : goal.returns-else-is_ok-clause-gathered
returns-else-is_ok-clause-gathered g c =
    rw (← c.self.view_is, ← c.deref.ensures.value)
    (Gathered-failed c.write_all-wrote.result c.deref.result.now (search rules) c.in_default.ensures.wrote c.write_all-wrote.ensures.wrote)
