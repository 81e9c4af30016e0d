use Rattle.std.proofs.Common.{rules, ◌≡◌, ◌∙◌, ◌&&◌, bytes_eq, sym, true}
use Rattle.std.proofs.lemmas.Bool.{ltb-true, and_parts}
use Rattle.std.specs.Cmp.Lexicographic.{bytes_decides}
use Rattle.fx_rules.specs.Session.{AreSamePair}
use Rattle.fx_rules.proofs.Sought.{position_alone}
use Rattle.fx_rules.proofs.session.place_of_pair_by.Goals as goal

pub returns-in-Some : goal.returns-in-Some
returns-in-Some c =
    let passes : (bytes_eq c.in-Some.rule.now.base c.args.base.now && bytes_eq c.in-Some.rule.now.quote c.args.quote.now) ≡ true = search rules in
    let own = and_parts _ _ passes in
    record {
      value = position_alone (λ a b. ¬ (AreSamePair a b)) (λ rule. bytes_eq rule.base c.args.base.now && bytes_eq rule.quote c.args.quote.now) c.args.pairs.now c.args.guess c.in-Some.rule.now c.requires
          (λ rule same differ.
          let parts = and_parts (bytes_eq rule.base c.args.base.now) (bytes_eq rule.quote c.args.quote.now) same in
          differ (
            (bytes_decides rule.base c.args.base.now).0 parts.0 ∙ sym ((bytes_decides c.in-Some.rule.now.base c.args.base.now).0 own.0),
            (bytes_decides rule.quote c.args.quote.now).0 parts.1 ∙ sym ((bytes_decides c.in-Some.rule.now.quote c.args.quote.now).0 own.1),
          ))
          (ltb-true _ _ (sym c.in-Some.ensures.lookup.0)) (sym c.in-Some.ensures.lookup.1) passes;
    }
