-- The sender has one notice more, and then the banks of the fills theirs.
use Rattle.std.proofs.Common.{◌∙◌, List, ℕ, ap₂, sym, subst}
use Rattle.std.specs.List.{flat_map}
use Rattle.fx_rules.specs.declared.orders.Fill.{Fill}
use Rattle.fx_rules.specs.Step.{fills_of}
use Rattle.reply_lines.specs.Notices.Notice.{Replied}
use Rattle.reply_lines.specs.Telling.{Addressed, addressed_to, fill_addressed}
use Rattle.reply_lines.specs.inside.Telling.{CanCount, counts_behind, with_one}
use Rattle.reply_lines.proofs.Counting.{can-behind_one, can-next}
use Rattle.reply_lines.proofs.telling.Telling.count_entry.Goals as goal

pub count_one-requires : goal.count_one-requires
count_one-requires c =
    let next = can-next (addressed_to c.args.entry.now.bank (Replied c.args.entry.now)) c.requires.can in
    record { sender = next.0; few = next.1 }

pub count_fills-requires : goal.count_fills-requires
count_fills-requires c =
    let e = c.args.entry.now in
    let fills : List Addressed = flat_map fill_addressed (fills_of e.outcome) in
    let rest : CanCount fills (with_one c.args.self.now.counts.items e.bank) = can-behind_one (addressed_to e.bank (Replied e)) fills c.requires.can in
    record {
      can = subst (λ (fs : List Fill). CanCount (flat_map fill_addressed fs) c.count_one.new.self.counts.items) (sym c.fills.ensures.fills)
          (subst (λ (cs : List ℕ). CanCount fills cs) (sym c.count_one.ensures.counted) rest);
    }

pub returns : goal.returns
returns c = record {
  counted = c.count_fills.ensures.counted
      ∙ ap₂ (λ (cs : List ℕ) (fs : List Fill). counts_behind cs (flat_map fill_addressed fs)) c.count_one.ensures.counted c.fills.ensures.fills;
}
