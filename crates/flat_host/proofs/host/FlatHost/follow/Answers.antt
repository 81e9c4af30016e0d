-- The entry that comes next is one that the host can carry.
use Rattle.std.proofs.Common.{ℕ, ◌≡◌, ◌+◌, List, Result, Ok, Err, OnOk, sym, ap, ◌∙◌, get_or}
use Rattle.std.proofs.Math.ListN.{set}
use Rattle.fx_amounts.specs.declared.memory.Memory.{Memory}
use Rattle.flat_host.specs.Steps.{FollowsOn}
use Rattle.flat_host.specs.inside.Steps.{FollowsEach}
use Rattle.flat_host.proofs.GoingOn.{due, follows-on}
use Rattle.flat_host.proofs.host.FlatHost.follow.Goals as goal

on_ok : (r : Result (Unit {0}) Memory) (P Q : Type 0) → (P → Q) → OnOk r P → OnOk r Q
on_ok (Ok u) P Q step h = step h
on_ok (Err e) P Q step h = tt

pub carry_out-requires-clause-sender : goal.carry_out-requires-clause-sender
carry_out-requires-clause-sender c = (due c.args.self.now c.args.entry.now c.requires.next).sender

pub carry_out-requires-clause-count : goal.carry_out-requires-clause-count
carry_out-requires-clause-count c = (due c.args.self.now c.args.entry.now c.requires.next).count

pub carry_out-requires-clause-command : goal.carry_out-requires-clause-command
carry_out-requires-clause-command c = (due c.args.self.now c.args.entry.now c.requires.next).command

pub returns-clause-follows : goal.returns-clause-follows
returns-clause-follows c =
    on_ok c.carry_out.result (FollowsEach c.args.self.now c.carry_out.new.self c.args.entry.now.bank c.args.entry.now.command c.args.entry.now.outcome)
    (FollowsOn c.args.self.now c.carry_out.new.self c.args.entry.now)
    (follows-on c.args.self.now c.carry_out.new.self c.args.entry.now) c.carry_out.ensures.follows

pub returns-clause-counts : goal.returns-clause-counts
returns-clause-counts c =
    let bank : ℕ = c.args.entry.now.bank in
    let counts : List ℕ = c.args.self.now.counts in
    on_ok c.carry_out.result (c.carry_out.new.self.counts ≡ set counts bank (get_or counts bank 0 + 1)) (c.carry_out.new.self.counts ≡ set counts bank c.args.entry.now.number)
    (λ is. is ∙ ap (set counts bank) (sym (due c.args.self.now c.args.entry.now c.requires.next).number)) c.carry_out.ensures.counts
