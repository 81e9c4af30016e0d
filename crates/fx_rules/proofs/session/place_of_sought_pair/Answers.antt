use Rattle.std.proofs.Common.{rules, ◌≡◌, bytes_eq, sym, true}
use Rattle.std.proofs.lemmas.Bool.{ltb-true}
use Rattle.fx_rules.specs.Session.{pair_text}
use Rattle.fx_rules.proofs.Sought.{place_alone}
use Rattle.fx_rules.proofs.session.place_of_sought_pair.Goals as goal

pub returns-in-Some : goal.returns-in-Some
returns-in-Some c =
    let passes : bytes_eq (pair_text c.in-Some.rule.now) c.args.sought.now ≡ true = search rules in
    record {
      value = place_alone c.args.pairs.now c.args.sought.now c.place-guess.result c.in-Some.rule.now c.requires.valid c.requires.differ
          (ltb-true _ _ (sym c.in-Some.ensures.lookup.0)) (sym c.in-Some.ensures.lookup.1) passes;
    }
