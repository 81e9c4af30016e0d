use Rattle.std.proofs.Common.{inr, refl}
use Rattle.program_calls.proofs.Answering.{not_begun}
use Rattle.program_calls.proofs.checking.write_no.Goals as goal

pub returns-in-Err : goal.returns-in-Err
returns-in-Err g c = inr (inr (refl, not_begun g.K.Sink.written g.K.Sink.faults c.args.out.now _))
