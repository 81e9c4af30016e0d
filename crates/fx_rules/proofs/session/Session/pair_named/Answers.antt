use Rattle.std.proofs.Common.{◌≡◌, Some, None, position, bytes_eq, option_map, slice_get, arith, subst, sym}
use Rattle.std.proofs.lemmas.Grind.{common_steps}
use Rattle.fx_rules.specs.Session.{pair_text}
use Rattle.fx_rules.proofs.SessionLemmas.{found_from_place, missing_from_place}
use Rattle.fx_rules.proofs.session.Session.pair_named.Goals as goal

pub returns-in_err-place-clause-none : goal.returns-in_err-place-clause-none
returns-in_err-place-clause-none c =
    let missing : position (λ rule. bytes_eq (pair_text rule) c.args.text.now) c.args.self.now.pairs ≡ None = grind (arith, common_steps) in
    rw c.from_residual.ensures (missing_from_place pair_text c.args.text.now c.args.self.now.pairs missing)

pub returns-clause-named : goal.returns-clause-named
returns-clause-named c =
    let place : position (λ rule. bytes_eq (pair_text rule) c.args.text.now) c.args.self.now.pairs ≡ Some c.in_ok-place.place = grind (arith, common_steps) in
    let found = found_from_place pair_text c.args.text.now c.args.self.now.pairs c.in_ok-place.place place in
    subst (λ pair. option_map pair_text (slice_get c.args.self.now.pairs pair) ≡ Some c.args.text.now) (sym c.at.ensures.value) found
