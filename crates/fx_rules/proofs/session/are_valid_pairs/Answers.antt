use Rattle.std.proofs.Common.{◌≡◌, ◌&&◌, true, false, take, position, is_some, bytes_eq, arith}
use Rattle.std.proofs.lemmas.Bool.{false≢true}
use Rattle.std.proofs.lemmas.Grind.{common_steps}
use Rattle.std.proofs.lemmas.List.Elements.{AllWithin-more, at_read}
use Rattle.fx_rules.specs.Session.{IsPairRule}
use Rattle.fx_rules.proofs.SessionLemmas.{pairs_differ-more, pairs_differ-fails}
use Rattle.fx_rules.proofs.session.are_valid_pairs.Goals as goal

pub returns-then-is_some : goal.returns-then-is_some
returns-then-is_some c =
    let some : is_some (position (λ y. bytes_eq y.base c.as_bytes-base.result.now && bytes_eq y.quote c.as_bytes-quote.result.now) (take c.loop-at.at c.args.pairs.now)) ≡ true = grind (arith, common_steps) in
    record {
      valid = (λ valid. absurd (false≢true valid), λ valid. absurd (pairs_differ-fails c.args.pairs.now c.loop-at.at _ _ _ c.as_bytes-base.ensures.text c.as_bytes-quote.ensures.text c.loop-at-test.true c.index-pairs-at.is some valid.3));
    }

pub loop-at-preserved : goal.loop-at-preserved
loop-at-preserved c =
    let pairs = c.args.pairs.now in
    let none : is_some (position (λ y. bytes_eq y.base c.as_bytes-base.result.now && bytes_eq y.quote c.as_bytes-quote.result.now) (take c.loop-at.at c.args.pairs.now)) ≡ false = grind (arith, common_steps) in
    let in_range = at_read pairs IsPairRule c.loop-at.at _ c.loop-at-test.true c.index-pairs-at.is (c.is_valid_rule.ensures.valid.0 c.if-not-is_valid_rule.false) in (
      AllWithin-more IsPairRule pairs 0 c.loop-at.at c.loop-at.invariant.0 in_range,
      pairs_differ-more pairs c.loop-at.at _ _ _ c.as_bytes-base.ensures.text c.as_bytes-quote.ensures.text c.loop-at-test.true c.index-pairs-at.is none c.loop-at.invariant.1,
    )
