-- The sweep by the lines of what the total pays for, and with it what the total does not pay for, are the sweep.
use Rattle.std.proofs.Common.{◌+◌, ◌-◌, ◌/◌, Result, Ok, Err, ap, refl, sym, arith}
use Rattle.std.specs.Result.{IfOk}
use Rattle.match_sweep.specs.Sweeps.{IsSweep, IsWithinLines}
use Rattle.match_sweep.specs.inside.Walks.{IsByLines}
use Rattle.match_sweep.specs.declared.sweeping.SweepPlan.{SweepPlan}
use Rattle.match_sweep.proofs.Planning.{bounded-sweep, unbounded-sweep}
use Rattle.match_sweep.proofs.Walking.{lots-within}
use Rattle.match_sweep.proofs.sweeping.sweep.Goals as goal

if_all : {T E : Type 0} (P Q : T → Type 0) (r : Result T E) → ((x : T) → P x → Q x) → IfOk r P → IfOk r Q
if_all P Q (Ok x) all holds = all x holds
if_all P Q (Err e) all holds = tt

pub returns-in_default-clause-sweep : goal.returns-in_default-clause-sweep
returns-in_default-clause-sweep g c =
    if_all (λ (sweep : SweepPlan). IsByLines c.args.book.now c.args.lines.now c.args.weight c.args.order.now sweep.fills sweep.left)
    (λ (sweep : SweepPlan). IsSweep c.args.book.now c.args.lines.now c.args.weight c.args.order.now sweep.fills sweep.left) c.sweep_by_lines.result
    (λ sweep planned. unbounded-sweep c.args.book.now c.args.lines.now c.args.weight c.args.order.now sweep.fills sweep.left c.sweep_by_lines.ensures.valid c.requires.banks c.requires.bank c.requires.pair
    (omega (arith, c.requires.weight.0)) (sym c.in_default.ensures.value) planned)
    c.sweep_by_lines.ensures.sweep

pub returns-clause-sweep : goal.returns-clause-sweep
returns-clause-sweep g c =
    bounded-sweep c.args.book.now c.args.lines.now c.args.weight c.args.order.now c.in_ok-sweep.sweep.fills c.in-Some.room c.min.result c.in_ok-sweep.sweep.left (c.in_ok-sweep.sweep.left + (c.args.order.now.left - c.min.result))
    c.sweep_by_lines-2.ensures.valid c.requires.banks c.requires.bank c.requires.pair (omega (arith, c.requires.weight.0)) (sym c.in-Some.ensures.value) (omega (arith, c.min.ensures, c.from-2.ensures, ap (λ n. c.in-Some.room / n) c.from.ensures)) c.in_ok-sweep.ensures.sweep refl

pub returns-in_default-clause-lots : goal.returns-in_default-clause-lots
returns-in_default-clause-lots g c =
    if_all (λ (sweep : SweepPlan). IsByLines c.args.book.now c.args.lines.now c.args.weight c.args.order.now sweep.fills sweep.left) IsWithinLines c.sweep_by_lines.result
    (λ sweep planned. lots-within c.args.book.now c.args.lines.now c.args.weight c.args.order.now sweep.fills sweep.left c.sweep_by_lines.ensures.valid c.requires.banks c.room.ensures.valid c.requires.bank
    (omega (arith, c.requires.weight.0)) planned)
    c.sweep_by_lines.ensures.sweep

pub returns-clause-lots : goal.returns-clause-lots
returns-clause-lots g c =
    lots-within c.args.book.now c.args.lines.now c.args.weight (record c.args.order.now { left = c.min.result }) c.in_ok-sweep.sweep.fills c.in_ok-sweep.sweep.left c.sweep_by_lines-2.ensures.valid c.requires.banks
    c.room.ensures.valid c.requires.bank (omega (arith, c.requires.weight.0)) c.in_ok-sweep.ensures.sweep
