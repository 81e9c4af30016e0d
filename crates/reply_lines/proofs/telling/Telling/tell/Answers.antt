-- After a refusal the text is cut back to what it was.
use Rattle.std.proofs.Common.{◌∙◌, ◌++◌, List, ℕ, ap}
use Rattle.reply_lines.proofs.Counting.{can-count, counted-behind, lines-behind, next-print}
use Rattle.reply_lines.proofs.Outputs.{on_ok}
use Rattle.reply_lines.proofs.telling.Telling.tell.Goals as goal

pub tell_all-told-requires : goal.tell_all-told-requires
tell_all-told-requires c =
    let next = c.requires.next in
    record {
      entries = next-print c.args.session.now next.0 c.args.entries.now next.1;
      can = can-count c.args.session.now next.0 c.args.entries.now c.args.self.now.counts.items next.1 next.2;
    }

pub returns-else-is_err-clause-counted : goal.returns-else-is_err-clause-counted
returns-else-is_err-clause-counted c =
    let next = c.requires.next in
    let can = can-count c.args.session.now next.0 c.args.entries.now c.args.self.now.counts.items next.1 next.2 in
    on_ok c.tell_all-told.result
    (λ has before counted. counted-behind c.args.session.now before c.args.entries.now c.args.self.now.counts.items c.tell_all-told.new.self.counts.items can.senders has.counted counted)
    c.tell_all-told.ensures.ok

pub returns-else-is_err-clause-told : goal.returns-else-is_err-clause-told
returns-else-is_err-clause-told c =
    let next = c.requires.next in
    let can = can-count c.args.session.now next.0 c.args.entries.now c.args.self.now.counts.items next.1 next.2 in
    on_ok c.tell_all-told.result
    (λ has before counted. has.lines ∙ ap (λ (lines : List ℕ). c.args.text.now ++ lines) (lines-behind c.args.session.now before c.args.entries.now c.args.self.now.counts.items can.senders counted))
    c.tell_all-told.ensures.ok
