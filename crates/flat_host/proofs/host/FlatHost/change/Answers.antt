-- What is made of an outcome leads to the state that the outcome makes.
use Rattle.std.proofs.Common.{◌≡◌, ◌≤◌, ◌^◌, max, min, Result, Ok, Err, OnOk, sym, ap, subst, ◌∙◌}
use Rattle.fx_amounts.specs.declared.memory.Memory.{Memory}
use Rattle.flat_host.specs.FlatState.{FlatState, use_in, spent_in}
use Rattle.flat_host.specs.Parts.{rests_of}
use Rattle.flat_host.proofs.Carrying.{banks-credit_after}
use Rattle.flat_host.specs.inside.Parts.{order_carried, limited_in, totalled_in, settled_in}
use Rattle.flat_host.specs.inside.Turns.{line_raised_in, total_raised_in, settled_raised_in}
use Rattle.flat_host.specs.inside.Steps.{ChangesEach}
use Rattle.flat_host.proofs.Stepping.{order-changes, line-changes, total-changes, settle-changes}
use Rattle.flat_host.proofs.host.FlatHost.change.Goals as goal

on_ok : (r : Result (Unit {0}) Memory) (P Q R : Type 0) → ((P → Q) → R) → (P → OnOk r Q) → OnOk r R
on_ok (Ok u) P Q R step h = step h
on_ok (Err e) P Q R step h = tt

pub returns-in-Order-clause-changes : goal.returns-in-Order-clause-changes
returns-in-Order-clause-changes c =
    on_ok c.carry.result (c.rests_of.result ≤ 10 ^ 6) (c.carry.new.self ≡ order_carried c.args.self.now c.incoming-incoming.result c.rests_of.result c.fills.result.now)
    (ChangesEach c.args.self.now c.carry.new.self c.args.bank c.args.command.now c.args.outcome.now)
    (λ made. order-changes c.args.self.now c.carry.new.self c.args.bank c.in-Order.side c.in-Order.pair c.in-Order.price c.in-Order.lots c.in-Order.life c.args.command.now
    c.incoming-incoming.result c.args.outcome.now c.carry.ensures.valid.uses_full c.in-Order.is c.incoming-incoming.ensures.taker c.requires.command
    (λ most. made (subst (λ n. n ≤ 10 ^ 6) (sym c.rests_of.ensures.rests) most)
    ∙ ap (λ n. order_carried c.args.self.now c.incoming-incoming.result n c.fills.result.now) c.rests_of.ensures.rests
    ∙ ap (order_carried c.args.self.now c.incoming-incoming.result (rests_of c.args.outcome.now)) c.fills.ensures.fills))
    c.carry.ensures.carried

pub returns-in-Line-clause-changes : goal.returns-in-Line-clause-changes
returns-in-Line-clause-changes c =
    line-changes c.args.self.now c.raise_line.new.self c.args.bank c.in-Line.other c.in-Line.limit c.args.command.now c.args.outcome.now c.raise_line.ensures.valid c.in-Line.is c.requires.command
    (c.raise_line.ensures.raised ∙ ap (line_raised_in c.args.self.now c.args.bank c.in-Line.other c.in-Line.limit) c.fills-in-Line.ensures.fills)

pub returns-in-Total-clause-changes : goal.returns-in-Total-clause-changes
returns-in-Total-clause-changes c =
    total-changes c.args.self.now c.raise_total.new.self c.args.bank c.in-Total.limit c.args.command.now c.args.outcome.now c.raise_total.ensures.valid c.in-Total.is c.requires.command
    (c.raise_total.ensures.raised ∙ ap (total_raised_in c.args.self.now c.args.bank c.in-Total.limit) c.fills-in-Total.ensures.fills)

pub returns-in-Settle-clause-changes : goal.returns-in-Settle-clause-changes
returns-in-Settle-clause-changes c =
    settle-changes c.args.self.now c.settle.new.self c.args.bank c.in-Settle.a c.in-Settle.b c.in-Settle.units c.args.command.now c.args.outcome.now c.settle.ensures.valid c.in-Settle.is c.requires.command
    (c.settle.ensures.raised ∙ ap (settled_raised_in c.args.self.now c.in-Settle.a c.in-Settle.b c.in-Settle.units) c.fills-in-Settle.ensures.fills)

-- there are as many banks as before
pub returns-in-Line-clause-banks : goal.returns-in-Line-clause-banks
returns-in-Line-clause-banks c =
    ap (λ (l : FlatState). l.credit.banks) c.raise_line.ensures.raised
    ∙ banks-credit_after c.args.self.now.weights (limited_in c.args.self.now.credit c.args.bank c.in-Line.other (max c.in-Line.limit (use_in c.args.self.now.credit.uses c.args.bank c.in-Line.other))) c.fills-in-Line.result.now

pub returns-in-Total-clause-banks : goal.returns-in-Total-clause-banks
returns-in-Total-clause-banks c =
    ap (λ (l : FlatState). l.credit.banks) c.raise_total.ensures.raised
    ∙ banks-credit_after c.args.self.now.weights (totalled_in c.args.self.now.credit c.args.bank (max c.in-Total.limit (spent_in c.args.self.now.credit c.args.bank))) c.fills-in-Total.result.now

pub returns-in-Settle-clause-banks : goal.returns-in-Settle-clause-banks
returns-in-Settle-clause-banks c =
    ap (λ (l : FlatState). l.credit.banks) c.settle.ensures.raised
    ∙ banks-credit_after c.args.self.now.weights (settled_in c.args.self.now.credit c.in-Settle.a c.in-Settle.b (min c.in-Settle.units (use_in c.args.self.now.credit.uses c.in-Settle.a c.in-Settle.b))) c.fills-in-Settle.result.now
