use Rattle.std.proofs.Common.{◌≡◌, ◌∙◌, Some, None, position, bytes_eq, slice_get, arith, subst, sym}
use Rattle.std.proofs.lemmas.Grind.{common_steps}
use Rattle.fx_rules.proofs.SessionLemmas.{found_from_place, missing_from_place, option_map-same}
use Rattle.fx_rules.proofs.session.Session.bank_sought.Goals as goal

pub returns-in_err-place-clause-none : goal.returns-in_err-place-clause-none
returns-in_err-place-clause-none c =
    let missing : position (λ name. bytes_eq name c.args.sought.now) c.args.self.now.banks ≡ None = grind (arith, common_steps) in
    rw c.from_residual.ensures (λ at. missing_from_place (λ name. name) c.args.sought.now c.args.self.now.banks missing at.0 c.args.sought.now at.1 at.2)

pub returns-clause-named : goal.returns-clause-named
returns-clause-named c =
    let place : position (λ name. bytes_eq name c.args.sought.now) c.args.self.now.banks ≡ Some c.in_ok-place.place = grind (arith, common_steps) in
    let found = found_from_place (λ name. name) c.args.sought.now c.args.self.now.banks c.in_ok-place.place place in
    subst (λ bank. slice_get c.args.self.now.banks bank ≡ Some c.args.sought.now) (sym c.at.ensures.value) (option_map-same _ ∙ found)
