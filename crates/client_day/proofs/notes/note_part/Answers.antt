-- The bank's desk gets the fill, and the client's too.
use Rattle.reply_lines.specs.Fills.{notice_to}
use Rattle.reply_lines.proofs.Outputs.{on_ok}
use Rattle.client_day.specs.Notes.Note.{Told}
use Rattle.client_day.proofs.Noting.{noted-for, noted-none}
use Rattle.client_day.proofs.notes.note_part.Goals as goal

pub returns-in-Some : goal.returns-in-Some
returns-in-Some c = record {
  got = c.fill_to_both.ensures.ok;
  noted = on_ok c.fill_to_both.result (λ given.
      noted-for c.args.session.now c.args.who.now c.in-Some.client c.index.result (Told (notice_to c.args.part c.args.fill.now)) c.args.desks.now.items c.in-Some.is c.index.ensures.value (c.requires.who c.in-Some.client c.in-Some.is) c.index_mut.ensures.value given)
      c.fill_to_both.ensures.other;
  begun = c.fill_to_both.ensures.begun;
}

pub returns-in-None : goal.returns-in-None
returns-in-None c = record {
  got = c.fill.ensures.ok;
  noted = on_ok c.fill.result (λ given. noted-none c.args.session.now c.args.who.now (Told (notice_to c.args.part c.args.fill.now)) c.args.desks.now.items c.in-None.is) c.fill.ensures.ok;
  begun = c.fill.ensures.begun;
}
