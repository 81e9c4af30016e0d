use Rattle.std.proofs.Common.{◌∙◌, ap}
use Rattle.fx_text.specs.Lines.{is_end_rest}
use Rattle.fx_text.proofs.LinesLemmas.{is_end_rest-held}
use Rattle.fx_text.proofs.cutter.LineCutter.rest_is_end.Goals as goal

pub returns-clause-rest : goal.returns-clause-rest
returns-clause-rest c = λ text is. c.holds_end.ensures ∙ ap is_end_rest is ∙ is_end_rest-held text
