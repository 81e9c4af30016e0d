use Rattle.std.proofs.Common.{refl}
use Rattle.session_script.proofs.ScriptReading.{HasRead-resumed}
use Rattle.session_script.proofs.reading.Reading.resume.Goals as goal

pub returns-clause-resumed : goal.returns-clause-resumed
returns-clause-resumed g c =
    let intake = c.resume.ensures in
    HasRead-resumed g.S.Source.left g.S.Source.faults c.args.source.now c.resume.result _ c.args.session intake.front intake.goes_on intake.stands intake.session intake.sent intake.none refl refl
