use Rattle.std.proofs.Common.{ℕ, ◌≡◌, ◌≢◌, ◌-◌, ◌<◌, arith, nat_eq, List, Some, None, get_or, refl, sym, subst}
use Rattle.std.specs.Map.{lookup}
use Rattle.indexmap.specs.IndexMap.{with_value_at}
use Rattle.price_levels.specs.declared.level.Level.{Level}
use Rattle.price_levels.specs.Rungs.{Rungs, level_at, with_level_at}
use Rattle.access_index.specs.Ranked.{bank_level}
use Rattle.access_index.specs.inside.Ranked.{AreRanked}
use Rattle.access_index.proofs.Numbering.{Writes, key_within, level_here, looked_up, numbered_written, owned_number, writes as written}
use Rattle.access_index.proofs.Ranking.{had_head, had_level, had_short, head_kept, head_same, holds_written, levels_written, ranked_written, short_changed}
use Rattle.access_index.proofs.ranked.RankedOwners.lower.Goals.{After-index_mut-ladder}
use Rattle.access_index.proofs.ranked.RankedOwners.lower.Goals as goal

pub unwrap-number-requires : goal.unwrap-number-requires
unwrap-number-requires c =
    owned_number c.self.inside.numbers c.self.inside.ladders.entries c.args.self.now c.index.result c.args.bank c.args.rank c.self.view_is c.self.invariant.numbered c.index.ensures.value c.index.ensures.most
    (omega (arith, c.requires.above))

had : (c : After-index_mut-ladder) → lookup (nat_eq c.args.bank) c.self.inside.ladders.entries ≡ Some c.index_mut-ladder.result.now
had c =
    looked_up c.self.inside.numbers c.self.inside.ladders c.self.invariant.numbered c.index.result c.args.bank c.unwrap-number.result c.from.result c.index.ensures.value c.index.ensures.most c.unwrap-number.ensures c.from.ensures
    c.index_mut-ladder.result.now c.index_mut-ladder.ensures.value

pub lower-requires : goal.lower-requires
lower-requires c = record { above = subst (λ (l : Level). c.args.lots < l.lots) (sym (level_here c.self.inside.ladders.entries c.args.self.now c.args.bank c.args.rank c.index_mut-ladder.result.now c.self.view_is (had (goal.at.lower-requires c).After-index_mut-ladder))) c.requires.above }

writes : (c : goal.After-self-1) → Writes c.self.inside.ladders.entries (with_value_at c.self.inside.ladders c.from.result c.lower.new.self).entries c.args.bank c.index_mut-ladder.result.now c.lower.new.self
writes c =
    written c.self.inside.numbers c.self.inside.ladders c.self.invariant.numbered c.index.result c.args.bank c.unwrap-number.result c.from.result c.index.ensures.value c.index.ensures.most c.unwrap-number.ensures c.from.ensures
    c.index_mut-ladder.result.now c.lower.new.self c.index_mut-ladder.ensures.value

pub index_mut-ladder-requires : goal.index_mut-ladder-requires
index_mut-ladder-requires c =
    key_within c.self.inside.numbers c.self.inside.ladders c.self.invariant.numbered c.index.result c.args.bank c.unwrap-number.result c.from.result c.index.ensures.value c.index.ensures.most c.unwrap-number.ensures c.from.ensures

pub returns-clause-levels : goal.returns-clause-levels
returns-clause-levels c = levels_written (writes c) c.args.self.now c.args.rank (λ (l : Level). record l { lots = l.lots - c.args.lots }) c.self.view_is c.lower.ensures.levels

pub returns-clause-holds : goal.returns-clause-holds
returns-clause-holds c = holds_written (writes c) c.args.self.now c.self.view_is c.lower.ensures.holds

ranked : (c : goal.After-self-1) → AreRanked (with_value_at c.self.inside.ladders c.from.result c.lower.new.self).entries c.self.inside.heads
ranked c =
    let heads = c.self.inside.heads in
    let bank : ℕ = c.args.bank in
    let old : ℕ → Level = level_at c.index_mut-ladder.result.now in
    let level : Level = record (old c.args.rank) { lots = (old c.args.rank).lots - c.args.lots } in
    let above : c.args.lots < (old c.args.rank).lots =
    subst (λ (l : Level). c.args.lots < l.lots) (had_level (writes c) c.args.rank)
    (subst (λ (os : List (ℕ × Rungs)). c.args.lots < (bank_level os bank c.args.rank).lots) (sym c.self.view_is) c.requires.above) in
    let some : (old c.args.rank).lots ≢ 0 = λ none. omega (arith, none, above) in
    let short = had_short heads c.self.invariant.ranked c.requires.bank (writes c) in
    ranked_written heads c.self.invariant.ranked c.requires.bank (writes c) heads (λ other differ. refl)
    (head_same (with_level_at old c.args.rank level) (level_at c.lower.new.self) (get_or heads bank None) c.lower.ensures.levels
    (head_kept old c.args.rank level (get_or heads bank None) some (λ none. omega (arith, none, above)) refl (had_head heads c.self.invariant.ranked c.requires.bank (writes c))))
    (short_changed old (level_at c.lower.new.self) c.args.rank level c.lower.ensures.levels short (λ has. short.low c.args.rank some) (λ has. short.early c.args.rank some))

pub invariant_of-self : goal.invariant_of-self
invariant_of-self c = record {
  numbered = numbered_written c.self.inside.numbers c.self.inside.ladders c.from.result c.lower.new.self c.self.invariant.numbered;
  ranked = ranked c;
}
