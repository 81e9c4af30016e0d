use Rattle.std.proofs.Common.{◌≡◌, Some, position, bytes_eq, option_map, slice_get, take, arith, subst, sym}
use Rattle.std.proofs.lemmas.Grind.{common_steps}
use Rattle.fx_rules.specs.Session.{pair_text}
use Rattle.fx_rules.proofs.SessionLemmas.{found_from_place}
use Rattle.fx_rules.proofs.session.Session.pair_in_front.Goals as goal

pub returns-clause-named : goal.returns-clause-named
returns-clause-named c =
    let place : position (λ rule. bytes_eq (pair_text rule) (take 7 c.args.text.now)) c.args.self.now.pairs ≡ Some c.in_ok-place.place = grind (arith, common_steps) in
    let found = found_from_place pair_text (take 7 c.args.text.now) c.args.self.now.pairs c.in_ok-place.place place in
    subst (λ pair. option_map pair_text (slice_get c.args.self.now.pairs pair) ≡ Some (take 7 c.args.text.now)) (sym c.at.ensures.value) found
