use Rattle.std.proofs.Common.{◌≡◌, ◌-◌, ◌<◌, length, take, drop, get_or, rules, arith}
use Rattle.keep_disk.proofs.Reading.{none_closed, none_short, some_next, short_behind, match_none, tail_whole}
use Rattle.keep_disk.proofs.read.next_body.Goals as goal

pub returns-then-gate-ne-OPEN-clause-none : goal.returns-then-gate-ne-OPEN-clause-none
returns-then-gate-ne-OPEN-clause-none c = none_closed c.args.file.now c.in-len1-up.len_at_least (search rules)

pub returns-in_default-split_first_chunk-clause-none : goal.returns-in_default-split_first_chunk-clause-none
returns-in_default-split_first_chunk-clause-none c =
    let short : length (take (length c.args.file.now - 1) (drop 1 c.args.file.now)) < 8 = match_none _ _ _ c.in_default-split_first_chunk.is c.split_first_chunk.ensures.cases in
    none_short c.args.file.now (take (length c.args.file.now - 1) (drop 1 c.args.file.now)) c.in-len1-up.len_at_least (tail_whole 1 c.args.file.now) (omega (arith, short))

pub returns-then-size-behind-clause-none : goal.returns-then-size-behind-clause-none
returns-then-size-behind-clause-none c =
    none_short c.args.file.now (take (length c.args.file.now - 1) (drop 1 c.args.file.now)) c.in-len1-up.len_at_least (tail_whole 1 c.args.file.now)
    (short_behind (take (length c.args.file.now - 1) (drop 1 c.args.file.now)) c.in-Some.head.now c.in-Some.behind.now c.from_be_bytes-size.result
    c.in-Some.ensures.cases.0 c.in-Some.ensures.cases.1 c.from_be_bytes-size.ensures c.if-size-behind.true)

pub returns-clause-some : goal.returns-clause-some
returns-clause-some c =
    let one : get_or c.args.file.now 0 0 ≡ 1 = search rules in
    some_next c.args.file.now (take (length c.args.file.now - 1) (drop 1 c.args.file.now)) c.in-Some.head.now c.in-Some.behind.now c.from_be_bytes-size.result c.in-len1-up.len_at_least one (tail_whole 1 c.args.file.now)
    c.in-Some.ensures.cases.0 c.in-Some.ensures.cases.1 c.from_be_bytes-size.ensures c.if-size-behind.false
