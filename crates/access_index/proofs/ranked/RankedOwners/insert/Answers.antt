use Rattle.std.proofs.Common.{ℕ, ◌≡◌, ◌+◌, ◌<◌, ◌^◌, arith, nat_eq, Some, None, get_or, ap, sym, subst, ◌∙◌}
use Rattle.std.specs.Map.{lookup}
use Rattle.indexmap.specs.IndexMap.{with_value_at}
use Rattle.price_levels.specs.declared.level.Level.{Level}
use Rattle.price_levels.specs.Rungs.{level_at, with_level_at}
use Rattle.price_levels.specs.Ticks.{last_of_level, with_order}
use Rattle.access_index.specs.inside.Ranked.{AreRanked}
use Rattle.access_index.specs.inside.Words.{head_with}
use Rattle.access_index.proofs.Numbering.{Writes, key_within, holds_here, level_here, looked_up, numbered_written, held_number, writes as written}
use Rattle.access_index.proofs.Ranking.{first_come, had_head, had_short, head_come, head_same, holds_written, levels_written, ranked_set, short_changed}
use Rattle.access_index.proofs.ranked.RankedOwners.insert.Goals.{After-index_mut-ladder, After-insert-before}
use Rattle.access_index.proofs.ranked.RankedOwners.insert.Goals as goal

pub unwrap-number-requires : goal.unwrap-number-requires
unwrap-number-requires c =
    held_number c.self.inside.numbers c.self.inside.ladders.entries c.args.self.now c.index.result c.args.bank c.args.rank c.self.view_is c.self.invariant.numbered c.index.ensures.value c.index.ensures.most c.requires.holds

had : (c : After-index_mut-ladder) → lookup (nat_eq c.args.bank) c.self.inside.ladders.entries ≡ Some c.index_mut-ladder.result.now
had c =
    looked_up c.self.inside.numbers c.self.inside.ladders c.self.invariant.numbered c.index.result c.args.bank c.unwrap-number.result c.from.result c.index.ensures.value c.index.ensures.most c.unwrap-number.ensures c.from.ensures
    c.index_mut-ladder.result.now c.index_mut-ladder.ensures.value

pub insert-before-requires-clause-holds : goal.insert-before-requires-clause-holds
insert-before-requires-clause-holds c =
    holds_here c.self.inside.ladders.entries c.args.self.now c.args.bank c.args.rank c.index_mut-ladder.result.now c.self.view_is (had (goal.at.insert-before-requires-clause-holds c).After-index_mut-ladder) ∙ c.requires.holds

pub insert-before-requires-clause-fits : goal.insert-before-requires-clause-fits
insert-before-requires-clause-fits c =
    subst (λ (l : Level). l.lots + c.args.lots < 2 ^ 64) (sym (level_here c.self.inside.ladders.entries c.args.self.now c.args.bank c.args.rank c.index_mut-ladder.result.now c.self.view_is (had (goal.at.insert-before-requires-clause-fits c).After-index_mut-ladder))) c.requires.fits

pub returns-clause-before : goal.returns-clause-before
returns-clause-before c = c.insert-before.ensures.before ∙ ap last_of_level (level_here c.self.inside.ladders.entries c.args.self.now c.args.bank c.args.rank c.index_mut-ladder.result.now c.self.view_is (had (goal.at.returns-clause-before c).After-index_mut-ladder))

writes : (c : After-insert-before) → Writes c.self.inside.ladders.entries (with_value_at c.self.inside.ladders c.from.result c.insert-before.new.self).entries c.args.bank c.index_mut-ladder.result.now c.insert-before.new.self
writes c =
    written c.self.inside.numbers c.self.inside.ladders c.self.invariant.numbered c.index.result c.args.bank c.unwrap-number.result c.from.result c.index.ensures.value c.index.ensures.most c.unwrap-number.ensures c.from.ensures
    c.index_mut-ladder.result.now c.insert-before.new.self c.index_mut-ladder.ensures.value

pub index_mut-ladder-requires : goal.index_mut-ladder-requires
index_mut-ladder-requires c =
    key_within c.self.inside.numbers c.self.inside.ladders c.self.invariant.numbered c.index.result c.args.bank c.unwrap-number.result c.from.result c.index.ensures.value c.index.ensures.most c.unwrap-number.ensures c.from.ensures

pub returns-clause-levels : goal.returns-clause-levels
returns-clause-levels c =
    levels_written (writes (goal.at.returns-clause-levels c).After-insert-before) c.args.self.now c.args.rank (λ (l : Level). with_order l c.args.place c.args.lots) c.self.view_is c.insert-before.ensures.levels

pub returns-clause-holds : goal.returns-clause-holds
returns-clause-holds c = holds_written (writes (goal.at.returns-clause-holds c).After-insert-before) c.args.self.now c.self.view_is c.insert-before.ensures.holds

pub invariant_of-self : goal.invariant_of-self
invariant_of-self c =
    let writes_here = writes (goal.at.invariant_of-self c).After-insert-before in
    let heads = c.self.inside.heads in
    let bank : ℕ = c.args.bank in
    let rank : ℕ = c.args.rank in
    let old : ℕ → Level = level_at c.index_mut-ladder.result.now in
    let level : Level = with_order (old rank) c.args.place c.args.lots in
    let some : 0 < c.args.lots = omega (arith, c.count.ensures.value, c.count.ensures.least) in
    let short = had_short heads c.self.invariant.ranked c.requires.bank writes_here in
    let head = had_head heads c.self.invariant.ranked c.requires.bank writes_here in
    record {
      numbered = numbered_written c.self.inside.numbers c.self.inside.ladders c.from.result c.insert-before.new.self c.self.invariant.numbered;
      ranked = subst (AreRanked (with_value_at c.self.inside.ladders c.from.result c.insert-before.new.self).entries) (sym c.add.ensures.added)
          (ranked_set heads c.self.invariant.ranked c.requires.bank writes_here (head_with (get_or heads bank None) (record { rank = rank; place = c.args.place })) c.add.ensures.count
          (head_same (with_level_at old rank level) (level_at c.insert-before.new.self) (head_with (get_or heads bank None) (record { rank = rank; place = c.args.place })) c.insert-before.ensures.levels
          (head_come old rank c.args.place c.args.lots (get_or heads bank None) some head))
          (short_changed old (level_at c.insert-before.new.self) rank level c.insert-before.ensures.levels short (λ has. c.requires.rank)
          (λ has. first_come (old rank) c.args.place c.args.lots c.requires.place (λ had. short.early rank had))));
    }
