-- The desks get the entry's notices, and the sums follow it.
use Rattle.std.proofs.Common.{arith}
use Rattle.fx_rules.proofs.Senders.{command-place}
use Rattle.reply_lines.specs.inside.Prints.{IsEntryOf}
use Rattle.reply_lines.proofs.Printable.{last-prints}
use Rattle.reply_lines.proofs.Placing.{banks-placed}
use Rattle.reply_lines.proofs.day_notices.DayNotices.add.Goals as goal

pub add_entry-requires : goal.add_entry-requires
add_entry-requires c =
    let h = c.args.session.now in
    let e = c.args.entry.now in
    let next = c.requires.next in
    let entry : IsEntryOf h e = last-prints h next.0 e next.1 in
    record {
      entry = entry;
      sender = omega (arith, next.2.desks.places, command-place h e.bank e.command next.1.session entry.command);
      banks = omega (arith, next.2.desks.places, banks-placed h next.1.session);
    }

pub follow-requires : goal.follow-requires
follow-requires c = record { next = (c.requires.next.0, c.requires.next.1, c.requires.next.2.sums) }

pub returns : goal.returns
returns c = record { added = λ entries legal are. c.follow.ensures.follows entries c.args.self.now.desks.items legal are.sums are.desks c.in_ok-add_entry.ensures.ok }
