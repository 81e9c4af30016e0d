use Rattle.std.proofs.Common.{◌≡◌, IsTrue, true, false, take, position, is_some, bytes_eq, arith}
use Rattle.std.proofs.lemmas.Bool.{false≢true}
use Rattle.std.proofs.lemmas.Grind.{common_steps}
use Rattle.std.proofs.lemmas.List.Elements.{AllWithin-more, at_read}
use Rattle.fx_rules.specs.Names.{is_name}
use Rattle.fx_rules.proofs.SessionLemmas.{banks_differ-more, banks_differ-fails}
use Rattle.fx_rules.proofs.session.are_valid_banks.Goals as goal

pub returns-then-is_some-clause-valid : goal.returns-then-is_some-clause-valid
returns-then-is_some-clause-valid c =
    let some : is_some (position (λ y. bytes_eq y c.as_bytes.result.now) (take c.loop-at.at c.args.banks.now)) ≡ true = grind (arith, common_steps) in
    (λ valid. absurd (false≢true valid), λ valid. absurd (banks_differ-fails c.args.banks.now c.loop-at.at _ _ c.as_bytes.ensures.text c.loop-at-test.true c.index-banks-at.is some valid.2))

pub loop-at-preserved : goal.loop-at-preserved
loop-at-preserved c =
    let banks = c.args.banks.now in
    let none : is_some (position (λ y. bytes_eq y c.as_bytes.result.now) (take c.loop-at.at c.args.banks.now)) ≡ false = grind (arith, common_steps) in
    let named = at_read banks (λ name. IsTrue (is_name name)) c.loop-at.at _ c.loop-at-test.true c.index-banks-at.is c.as_bytes.ensures.valid in (
      AllWithin-more (λ name. IsTrue (is_name name)) banks 0 c.loop-at.at c.loop-at.invariant.0 named,
      banks_differ-more banks c.loop-at.at _ _ c.as_bytes.ensures.text c.loop-at-test.true c.index-banks-at.is none c.loop-at.invariant.1,
    )
