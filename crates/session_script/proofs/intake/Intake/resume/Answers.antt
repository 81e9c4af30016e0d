-- Nothing is held behind a header's text.
use Rattle.std.proofs.Common.{◌∙◌, take, sym, ap}
use Rattle.session_script.proofs.intake.Intake.resume.Goals as goal

pub returns-clause-stands : goal.returns-clause-stands
returns-clause-stands c = record { held = c.new.ensures ∙ sym (ap (take 258) c.resume.ensures.front.whole); stage = c.resume.ensures.stands }
