use Rattle.std.proofs.Common.{◌≡◌, ap, subst, ◌∙◌, arith}
use Rattle.fx_rules.specs.Session.{pair_count}
use Rattle.fx_rules.specs.Keyed.{pair_key}
use Rattle.credit_book.specs.Recorded.{Recorded, signed_by}
use Rattle.pair_shards.specs.inside.Shards.{PairsPend}
use Rattle.pair_shards.proofs.Lines.{all_signed}
use Rattle.fx_host.proofs.Changing.{signs-pair}
use Rattle.fx_host.proofs.change.carry_all.Goals as goal

pub loop-place-preserved : goal.loop-place-preserved
loop-place-preserved g c = record {
  entries = ap (λ (b : Recorded). b.history.entries) c.carry_pair.ensures.value ∙ c.loop-place.invariant.entries;
  pend = signs-pair _ _ c.loop-place.credit _ c.loop-place.invariant.pend (c.carry_pair.ensures.value ∙ ap (λ pair. signed_by (pair_key pair) c.loop-place.credit) c.at.ensures.value);
}

pub returns-clause-signed : goal.returns-clause-signed
returns-clause-signed g c =
    let end : c.loop-place.place ≡ pair_count g.N.Naming.session = omega (arith, c.loop-place-test.false, c.loop-place.auto.place-end, c.count-place-end.ensures.count) in
    all_signed _ _ (subst (λ pair. PairsPend g.N.Naming.session pair c.loop-place.credit.history.pending) end c.loop-place.invariant.pend)
