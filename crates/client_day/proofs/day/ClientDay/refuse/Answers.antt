-- The client's desk gets the refusal.
use Rattle.std.proofs.Common.{refl}
use Rattle.client_day.specs.Notes.{refusal_notes}
use Rattle.reply_lines.proofs.Outputs.{on_ok}
use Rattle.client_day.proofs.Noting.{noted-at}
use Rattle.client_day.proofs.day.ClientDay.refuse.Goals as goal

pub returns : goal.returns
returns c = record {
  rest = (refl, refl, refl, refl, refl);
  trades = refl;
  noted = on_ok c.tell_refusal.result (λ given h.
      noted-at h c.args.client c.index.result (refusal_notes c.args.answer) c.args.self.now.desks.items c.index.ensures.value c.requires.client c.index_mut.ensures.value (given h))
      c.tell_refusal.ensures.ok;
}
