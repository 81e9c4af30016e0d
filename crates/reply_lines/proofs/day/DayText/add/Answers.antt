-- The entry has its line in the journal, and its notices are added.
use Rattle.std.proofs.Common.{◌∙◌, ◌+◌, ◌∷◌, [], ap, sym, arith, length, length-append}
use Rattle.reply_lines.proofs.Journals.{journal-more, lines-counted}
use Rattle.reply_lines.proofs.Outputs.{on_ok}
use Rattle.reply_lines.proofs.Printable.{last-prints}
use Rattle.reply_lines.proofs.day.DayText.add.Goals as goal

pub add-requires : goal.add-requires
add-requires c =
    let lines = c.args.self.now.journal.lines in
    let is = c.requires.next.2 in
    record {
      command = (last-prints c.args.session.now c.requires.next.0 c.args.entry.now c.requires.next.1).command;
      few = omega (arith, is.journal.count, lines-counted c.args.session.now c.requires.next.0, ap length is.journal.lines, lines.ok.0, lines.ok.1, lines.small);
    }

pub add-requires-2 : goal.add-requires-2
add-requires-2 c = record { next = (c.requires.next.0, c.requires.next.1, c.requires.next.2.notices) }

pub returns : goal.returns
returns c = record {
  added = on_ok c.add-2.result (λ added entries legal is. record {
    journal = record {
      count = c.in_ok-add.ensures.count ∙ ap (λ n. n + 1) is.journal.count ∙ sym (length-append entries (c.args.entry.now ∷ []));
      lines = journal-more c.args.session.now entries c.args.entry.now is.journal.lines c.in_ok-add.ensures.lines;
    };
    notices = added entries legal is.notices;
  }) c.add-2.ensures.added;
}
