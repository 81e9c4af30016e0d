-- The sender's desk gets the reply, and the client's too.
use Rattle.reply_lines.specs.Notices.Notice.{Replied}
use Rattle.reply_lines.proofs.Outputs.{on_ok}
use Rattle.client_day.specs.Notes.Note.{Told}
use Rattle.client_day.proofs.Noting.{noted-for, noted-none}
use Rattle.client_day.proofs.notes.note_reply.Goals as goal

pub returns-in-Some : goal.returns-in-Some
returns-in-Some c = record {
  got = c.reply_to_both.ensures.ok;
  noted = on_ok c.reply_to_both.result (λ given.
      noted-for c.args.session.now c.args.who.now c.in-Some.client c.index.result (Told (Replied c.args.entry.now)) c.args.desks.now.items c.in-Some.is c.index.ensures.value (c.requires.who c.in-Some.client c.in-Some.is) c.index_mut.ensures.value given)
      c.reply_to_both.ensures.other;
}

pub returns-in-None : goal.returns-in-None
returns-in-None c = record {
  got = c.reply.ensures.ok;
  noted = on_ok c.reply.result (λ given. noted-none c.args.session.now c.args.who.now (Told (Replied c.args.entry.now)) c.args.desks.now.items c.in-None.is) c.reply.ensures.ok;
}
