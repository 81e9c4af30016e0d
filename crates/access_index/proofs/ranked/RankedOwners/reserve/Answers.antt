use Rattle.std.proofs.Common.{ℕ, List, refl, ap, sym, ◌∙◌}
use Rattle.std.proofs.lemmas.Result.{on_ok_weaker}
use Rattle.indexmap.specs.IndexMap.{with_value_at}
use Rattle.price_levels.specs.Rungs.{Rungs}
use Rattle.access_index.specs.Ranked.{bank_holds}
use Rattle.access_index.proofs.Numbering.{Writes, holds_here, key_within, numbered_written, writes as written}
use Rattle.access_index.proofs.Ranking.{other_holds, ranked_same, same_written}
use Rattle.access_index.proofs.ranked.RankedOwners.reserve.Goals.{After-reserve}
use Rattle.access_index.proofs.ranked.RankedOwners.reserve.Goals as goal

pub index_mut-ladder-requires : goal.index_mut-ladder-requires
index_mut-ladder-requires c =
    key_within c.self.inside.numbers c.self.inside.ladders c.self.invariant.numbered c.index.result c.args.bank c.in-Some.number c.from.result c.index.ensures.value c.index.ensures.most c.in-Some.is c.from.ensures

writes : (c : After-reserve) → Writes c.self.inside.ladders.entries (with_value_at c.self.inside.ladders c.from.result c.reserve.new.self).entries c.args.bank c.index_mut-ladder.result.now c.reserve.new.self
writes c =
    written c.self.inside.numbers c.self.inside.ladders c.self.invariant.numbered c.index.result c.args.bank c.in-Some.number c.from.result c.index.ensures.value c.index.ensures.most c.in-Some.is c.from.ensures
    c.index_mut-ladder.result.now c.reserve.new.self c.index_mut-ladder.ensures.value

pub returns-clause-holds : goal.returns-clause-holds
returns-clause-holds c =
    let now : List (ℕ × Rungs) = (with_value_at c.self.inside.ladders c.from.result c.reserve.new.self).entries in
    on_ok_weaker c.reserve.result
    (λ ready. sym (holds_here now now c.args.bank c.args.rank c.reserve.new.self refl (writes (goal.at.returns-clause-holds c).After-reserve).is) ∙ ready) c.reserve.ensures.holds

pub returns-clause-levels : goal.returns-clause-levels
returns-clause-levels c = same_written (writes (goal.at.returns-clause-levels c).After-reserve) c.args.self.now c.self.view_is c.reserve.ensures.levels

pub returns-clause-others : goal.returns-clause-others
returns-clause-others c = λ other at differ.
    other_holds (writes (goal.at.returns-clause-others c).After-reserve) other at differ ∙ ap (λ (os : List (ℕ × Rungs)). bank_holds os other at) c.self.view_is

pub invariant_of-self-2 : goal.invariant_of-self-2
invariant_of-self-2 c = record {
  numbered = numbered_written c.self.inside.numbers c.self.inside.ladders c.from.result c.reserve.new.self c.self.invariant.numbered;
  ranked = ranked_same c.self.inside.ladders.entries (with_value_at c.self.inside.ladders c.from.result c.reserve.new.self).entries c.self.inside.heads c.self.invariant.ranked
      (same_written (writes (goal.at.invariant_of-self-2 c).After-reserve) c.self.inside.ladders.entries refl c.reserve.ensures.levels);
}
