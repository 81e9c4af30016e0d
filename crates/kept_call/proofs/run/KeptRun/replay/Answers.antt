use Rattle.std.proofs.Common.{[]}
use Rattle.kept_call.proofs.run.KeptRun.replay.Goals as goal

pub returns-clause-stands : goal.returns-clause-stands
returns-clause-stands g c = record {
  has_gathered = c.in_ok-replay.ensures.replayed;
  counted = c.count.ensures.counted g.N.Naming.session [] c.requires.stands.counted;
}
