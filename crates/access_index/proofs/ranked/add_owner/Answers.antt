use Rattle.std.proofs.Common.{◌≡◌, None, nat_eq, ◌∙◌, arith}
use Rattle.std.specs.Map.{lookup}
use Rattle.indexmap.proofs.CallerLemmas.{insert_entry-new}
use Rattle.access_index.proofs.Numbering.{fewer, numbered_added}
use Rattle.access_index.proofs.Ranking.{new_others, new_written}
use Rattle.access_index.proofs.ranked.add_owner.Goals as goal

pub overflow_cast-numbers : goal.overflow_cast-numbers
overflow_cast-numbers c = omega (arith, fewer c.args.numbers.now c.args.ladders.now.entries c.args.bank c.requires.numbered c.requires.bank c.requires.absent, c.len-number.ensures.len)

pub returns-clause-numbered : goal.returns-clause-numbered
returns-clause-numbered c =
    let absent : lookup (nat_eq c.args.bank) c.args.ladders.now.entries ≡ None = c.requires.numbered.unnamed c.args.bank c.requires.bank c.requires.absent in
    numbered_added c.args.numbers.now c.args.ladders.now.entries c.insert.new.self.entries c.args.bank c.reserve.new.self c.requires.numbered c.requires.bank c.requires.absent c.in_ok-insert.ensures.updates.0
    c.index.result c.len-number.result c.index.ensures.value c.len-number.ensures.len
    (c.in_ok-insert.ensures.entries ∙ insert_entry-new nat_eq c.args.ladders.now c.args.bank c.reserve.new.self absent) c.insert.ensures.unique

pub returns-clause-others : goal.returns-clause-others
returns-clause-others c =
    new_others c.args.ladders.now.entries c.insert.new.self.entries c.args.bank c.reserve.new.self (c.requires.numbered.unnamed c.args.bank c.requires.bank c.requires.absent) c.in_ok-insert.ensures.updates.0

pub returns-clause-levels : goal.returns-clause-levels
returns-clause-levels c =
    new_written c.args.ladders.now.entries c.insert.new.self.entries c.args.bank c.reserve.new.self (c.requires.numbered.unnamed c.args.bank c.requires.bank c.requires.absent) c.in_ok-insert.ensures.updates.0
    (λ at. c.reserve.ensures.levels at ∙ c.new-ladder.ensures at)
