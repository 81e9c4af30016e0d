use Rattle.std.proofs.Common.{rules, ◌≡◌, ◌≢◌, ◌∙◌, bytes_eq, sym, true}
use Rattle.std.proofs.lemmas.Bool.{ltb-true}
use Rattle.std.specs.Cmp.Lexicographic.{bytes_decides}
use Rattle.fx_rules.proofs.Sought.{position_alone}
use Rattle.fx_rules.proofs.session.place_of_bank_by.Goals as goal

pub returns-in-Some : goal.returns-in-Some
returns-in-Some c =
    let passes : bytes_eq c.in-Some.name.now c.args.sought.now ≡ true = search rules in
    record {
      value = position_alone (λ a b. a ≢ b) (λ name. bytes_eq name c.args.sought.now) c.args.banks.now c.place-guess.result c.in-Some.name.now c.requires
          (λ name same differ. differ ((bytes_decides name c.args.sought.now).0 same ∙ sym ((bytes_decides c.in-Some.name.now c.args.sought.now).0 passes)))
          (ltb-true _ _ (sym c.in-Some.ensures.lookup.0)) (sym c.in-Some.ensures.lookup.1) passes;
    }
