use Rattle.std.proofs.Common.{◌∙◌, ap, sym, not, get_or}
use Rattle.std.proofs.lemmas.Bool.{eq-eqb, false≢true}
use Rattle.session_script.proofs.Colons.{stray-colon}
use Rattle.session_script.proofs.aside.has_colon.Goals as goal

pub returns-then-text-at-eq58 : goal.returns-then-text-at-eq58
returns-then-text-at-eq58 c = record {
  stray = λ plain h session.
      stray-colon h c.args.text.now c.in-Some.at session (sym c.place_of_colon.ensures.value ∙ c.in-Some.is) c.if-text-at-eq58.true
      (λ comment. false≢true (sym (ap not (eq-eqb (get_or c.args.text.now 0 0) 35 comment)) ∙ plain));
}
