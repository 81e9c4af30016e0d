use Rattle.std.proofs.Common.{◌≡◌, ◌+◌, ◌-◌, ◌^◌, ◌≤◌, ◌∙◌, min, length, ap, arith}
use Rattle.std.proofs.lemmas.Result.{on_ok_weaker}
use Rattle.disk_trials.specs.declared.numbers.Numbers.{Numbers}
use Rattle.disk_trials.specs.Numbered.{next_number}
use Rattle.disk_trials.proofs.Counting.{kept_unopened, kept_either, all_numbers}
use Rattle.disk_trials.proofs.keeping.append.Goals as goal

pub returns-in_err-keeper-clause-kept : goal.returns-in_err-keeper-clause-kept
returns-in_err-keeper-clause-kept g c = λ file told only.
    kept_unopened g.D.Disk.bytes g.D.Disk.may_leave g.D.Disk.moment g.D.Disk.left_since g.K.Sink.written g.K.Sink.faults c.args.dots c.args.count file
    c.args.disk.now c.open_keeper.new.disk c.args.out.now g.met.D.Disk.counts_now (c.open_keeper.ensures.every_moment file told only)

pub returns-clause-kept : goal.returns-clause-kept
returns-clause-kept g c = λ file told only.
    let long = ap length (c.bodies.ensures ∙ c.in_ok-keeper.ensures.bodies file told) in
    let from = ap (λ (n : Numbers). n.next) c.new-numbers.ensures in
    let to = ap (λ (n : Numbers). n.end) c.new-numbers.ensures in
    let next : c.new-numbers.result.next ≡ next_number file = omega (arith, from, long) in
    let end : c.new-numbers.result.end ≡ min (c.new-numbers.result.next + c.args.count) (2 ^ 64 - 1) = omega (arith, from, to, c.saturating_add.ensures) in
    let within : c.new-numbers.result.next ≤ c.new-numbers.result.end = omega (arith, end, from) in
    kept_either g.D.Disk.bytes g.D.Disk.may_leave g.D.Disk.moment g.D.Disk.left_since g.K.Sink.written g.K.Sink.faults c.args.dots c.args.count file
    c.args.disk.now c.open_keeper.new.disk c.keep_rounds.new.disk c.args.out.now c.keep_rounds.new.out c.new-numbers.result told c.in_ok-keeper.ensures.tells
    g.met.D.Disk.reads (c.in_ok-keeper.ensures.blocks file told) (ap (λ (n : Numbers). n.dots) c.new-numbers.ensures) next within end
    (c.open_keeper.ensures.every_moment file told only) c.keep_rounds.result c.keep_rounds.new.rounds c.keep_rounds.ensures.all c.keep_rounds.ensures.part

pub returns-clause-all : goal.returns-clause-all
returns-clause-all g c = on_ok_weaker c.keep_rounds.result
    (λ all file told.
    let long = ap length (c.bodies.ensures ∙ c.in_ok-keeper.ensures.bodies file told) in
    let from = ap (λ (n : Numbers). n.next) c.new-numbers.ensures in
    let to = ap (λ (n : Numbers). n.end) c.new-numbers.ensures in
    let next : c.new-numbers.result.next ≡ next_number file = omega (arith, from, long) in
    let end : c.new-numbers.result.end ≡ min (c.new-numbers.result.next + c.args.count) (2 ^ 64 - 1) = omega (arith, from, to, c.saturating_add.ensures) in
    let within : c.new-numbers.result.next ≤ c.new-numbers.result.end = omega (arith, end, from) in
    all_numbers g.D.Disk.bytes g.D.Disk.may_leave g.D.Disk.moment g.D.Disk.left_since g.K.Sink.written g.K.Sink.faults c.args.dots c.args.count file
    c.args.disk.now c.open_keeper.new.disk c.keep_rounds.new.disk c.args.out.now c.keep_rounds.new.out c.new-numbers.result told c.in_ok-keeper.ensures.tells
    g.met.D.Disk.reads (c.in_ok-keeper.ensures.blocks file told) (ap (λ (n : Numbers). n.dots) c.new-numbers.ensures) next within end
    all.0 c.keep_rounds.new.rounds all.1 all.2)
    c.keep_rounds.ensures.all
