use Rattle.std.proofs.Common.{sym, subst}
use Rattle.fx_rules.specs.Session.{Header}
use Rattle.fx_rules.specs.History.{IsLegal}
use Rattle.kept_call.proofs.RunEnding.{unwritten}
use Rattle.kept_call.proofs.run.KeptRun.finish.Goals as goal

pub returns-in-Err : goal.returns-in-Err
returns-in-Err g c = record {
  wrote = λ sent entries stands.
      unwritten g.K.Sink.written g.K.Sink.faults c.args.out.now c.args.session.now entries c.args.strays c.args.ending c.in-Err.memory
      (subst (λ (h : Header). IsLegal h entries) (sym c.requires.session) stands.has_gathered.legal);
}
