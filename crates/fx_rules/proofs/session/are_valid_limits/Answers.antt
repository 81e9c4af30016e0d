use Rattle.std.proofs.Common.{◌≤◌, arith, refl}
use Rattle.std.proofs.lemmas.Bool.{false≢true}
use Rattle.std.proofs.lemmas.List.{get_or_read}
use Rattle.std.proofs.lemmas.List.Elements.{All-from_get_or}
use Rattle.fx_rules.proofs.SessionLemmas.{own_limit_at, own_limit_of}
use Rattle.fx_rules.proofs.session.are_valid_limits.Goals as goal

pub returns-then-is_own-clause-valid : goal.returns-then-is_own-clause-valid
returns-then-is_own-clause-valid c =
    let limits = c.args.limits.now in
    let read = get_or_read limits c.loop-at.at _ c.loop-at-test.true c.index-limits-at.is 0 in (
      λ valid. absurd (false≢true valid),
      λ valid. absurd (omega (arith, own_limit_of limits c.args.banks c.loop-at.at c.if-limits-banks.false c.loop-at-test.true c.if-is_own.true valid.1, read, c.get.ensures.value)),
    )

pub returns-clause-valid : goal.returns-clause-valid
returns-clause-valid c =
    let limits = c.args.limits.now in (
      λ valid. (c.if-limits-banks.false, λ i within. own_limit_at limits c.args.banks i c.if-limits-banks.false (λ k below. (c.loop-at.invariant k (omega arith)).1) within),
      λ valid. refl,
    )

pub returns-clause-most : goal.returns-clause-most
returns-clause-most c = λ valid. All-from_get_or (λ limit. limit ≤ 1000000000000000) c.args.limits.now 0 (λ k within. (c.loop-at.invariant k (omega arith)).0)
