use Rattle.std.proofs.Common.{◌≤◌, nat_eq, ℕ, ◌≡◌, ◌≢◌, arith, Some, None, get_or, ap, sym, subst, ◌∙◌}
use Rattle.std.specs.Map.{lookup}
use Rattle.indexmap.specs.IndexMap.{with_value_at}
use Rattle.price_levels.specs.declared.level.Level.{Level}
use Rattle.price_levels.specs.Rungs.{level_at}
use Rattle.price_levels.specs.Ticks.{without_order}
use Rattle.access_index.specs.declared.words.Head.{Head}
use Rattle.access_index.specs.inside.Ranked.{AreRanked}
use Rattle.access_index.proofs.Numbering.{Writes, key_within, level_here, looked_up, numbered_written, owned_number, writes as written}
use Rattle.access_index.proofs.Ranking.{AreShort, had_head, had_some, head_is, holds_written, levels_written, none_before, ranked_set, short_left}
use Rattle.access_index.proofs.ranked.RankedOwners.remove.Goals.{After-index_mut-ladder, After-remove, in-Some, in-None}
use Rattle.access_index.proofs.ranked.RankedOwners.remove.Goals as goal

pub unwrap-number-requires : goal.unwrap-number-requires
unwrap-number-requires c =
    owned_number c.self.inside.numbers c.self.inside.ladders.entries c.args.self.now c.index.result c.args.bank c.args.rank c.self.view_is c.self.invariant.numbered c.index.ensures.value c.index.ensures.most
    (omega (arith, c.requires.has, c.count.ensures.value, c.count.ensures.least))

had : (c : After-index_mut-ladder) → lookup (nat_eq c.args.bank) c.self.inside.ladders.entries ≡ Some c.index_mut-ladder.result.now
had c =
    looked_up c.self.inside.numbers c.self.inside.ladders c.self.invariant.numbered c.index.result c.args.bank c.unwrap-number.result c.from.result c.index.ensures.value c.index.ensures.most c.unwrap-number.ensures c.from.ensures
    c.index_mut-ladder.result.now c.index_mut-ladder.ensures.value

pub remove-requires : goal.remove-requires
remove-requires c = record { has = subst (λ (l : Level). c.args.lots ≤ l.lots) (sym (level_here c.self.inside.ladders.entries c.args.self.now c.args.bank c.args.rank c.index_mut-ladder.result.now c.self.view_is (had (goal.at.remove-requires c).After-index_mut-ladder))) c.requires.has }

writes : (c : After-remove) → Writes c.self.inside.ladders.entries (with_value_at c.self.inside.ladders c.from.result c.remove.new.self).entries c.args.bank c.index_mut-ladder.result.now c.remove.new.self
writes c =
    written c.self.inside.numbers c.self.inside.ladders c.self.invariant.numbered c.index.result c.args.bank c.unwrap-number.result c.from.result c.index.ensures.value c.index.ensures.most c.unwrap-number.ensures c.from.ensures
    c.index_mut-ladder.result.now c.remove.new.self c.index_mut-ladder.ensures.value

pub index_mut-ladder-requires : goal.index_mut-ladder-requires
index_mut-ladder-requires c =
    key_within c.self.inside.numbers c.self.inside.ladders c.self.invariant.numbered c.index.result c.args.bank c.unwrap-number.result c.from.result c.index.ensures.value c.index.ensures.most c.unwrap-number.ensures c.from.ensures

some : (c : After-remove) → (level_at c.index_mut-ladder.result.now c.args.rank).lots ≢ 0
some c = had_some (writes c) c.args.self.now c.args.rank c.args.lots c.self.view_is (omega (arith, c.count.ensures.value, c.count.ensures.least)) c.requires.has

short : (c : After-remove) → AreShort (level_at c.remove.new.self)
short c = short_left c.self.inside.heads c.self.invariant.ranked c.requires.bank (writes c) c.args.rank c.args.lots c.args.before c.args.behind (some c) c.remove.ensures.levels c.requires.behind

pub returns-clause-levels : goal.returns-clause-levels
returns-clause-levels c =
    levels_written (writes (goal.at.returns-clause-levels c).After-remove) c.args.self.now c.args.rank (λ (l : Level). without_order l c.args.lots c.args.before c.args.behind) c.self.view_is c.remove.ensures.levels

pub returns-clause-holds : goal.returns-clause-holds
returns-clause-holds c = holds_written (writes (goal.at.returns-clause-holds c).After-remove) c.args.self.now c.self.view_is c.remove.ensures.holds

pub head_from-head-requires : goal.head_from-head-requires
head_from-head-requires c =
    let heads = c.self.inside.heads in
    let old : ℕ → Level = level_at c.index_mut-ladder.result.now in
    let from_is : (found : Head) → get_or heads c.args.bank None ≡ Some found → c.match-of.from ≡ found.rank = λ found is.
    elim c.match-of.branch [
      | in-Some w ↦ w.from-is ∙ ap (λ (h : Head). h.rank) (same_head w.in-Some.head found (sym w.in-Some.is ∙ c.of.ensures.head ∙ is))
      | in-None w ↦ absurd (no_head found (sym w.in-None.is ∙ c.of.ensures.head ∙ is))
    ] in
    record {
      none = none_before old (level_at c.remove.new.self) c.args.rank (without_order (old c.args.rank) c.args.lots c.args.before c.args.behind) (get_or heads c.args.bank None) c.match-of.from
          (some (goal.at.head_from-head-requires c).After-remove) (had_head heads c.self.invariant.ranked c.requires.bank (writes (goal.at.head_from-head-requires c).After-remove)) from_is c.remove.ensures.levels;
    }
  where
    same_head : (one found : Head) → Some one ≡ Some found → one ≡ found
    same_head one found same = cc

    no_head : (found : Head) → None ≡ Some found → ⊥
    no_head found same = cc

pub set-requires : goal.set-requires
set-requires c = record {
  bank = c.requires.bank;
  head = head_is (level_at c.remove.new.self) c.head_from-head.result (short (goal.at.set-requires c).After-remove) c.head_from-head.ensures;
}

pub invariant_of-self : goal.invariant_of-self
invariant_of-self c =
    let before = (goal.at.invariant_of-self c).After-remove in
    record {
      numbered = numbered_written c.self.inside.numbers c.self.inside.ladders c.from.result c.remove.new.self c.self.invariant.numbered;
      ranked = subst (AreRanked (with_value_at c.self.inside.ladders c.from.result c.remove.new.self).entries) (sym c.set.ensures)
          (ranked_set c.self.inside.heads c.self.invariant.ranked c.requires.bank (writes before) c.head_from-head.result c.of.ensures.count c.head_from-head.ensures (short before));
    }
