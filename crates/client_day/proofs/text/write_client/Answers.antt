-- The notes follow the client's line.
use Rattle.std.proofs.Common.{◌≡◌, ◌<◌, List, ℕ, length, ap, ap₂, sym, subst, ◌∙◌}
use Rattle.fx_edges.proofs.Gathering.{Gathered-then}
use Rattle.fx_rules.specs.Session.{Header}
use Rattle.reply_lines.specs.Desks.{DeskSoFar}
use Rattle.reply_lines.proofs.Outputs.{cut_short, of_text}
use Rattle.client_desk.specs.Standing.{Book}
use Rattle.client_day.specs.inside.Days.{IsToldOf}
use Rattle.client_day.specs.Events.{Event, tagged_in}
use Rattle.client_day.specs.Notes.{note_lines, notes_of}
use Rattle.client_day.specs.Text.{client_row}
use Rattle.client_day.proofs.Noting.{desk-of}
use Rattle.client_day.proofs.text.write_client.Goals as goal

-- a desk by its notes
count-is : (h : Header) (events : List Event) (book : Book) (c : ℕ) (desk : DeskSoFar) → IsToldOf h events book c desk → desk.count ≡ length (notes_of events c)
count-is h events book c desk told = ap (λ (d : DeskSoFar). d.count) (told.noted ∙ desk-of h (notes_of events c))

lines-are : (h : Header) (events : List Event) (book : Book) (c : ℕ) (desk : DeskSoFar) → IsToldOf h events book c desk → desk.lines ≡ note_lines h 0 (notes_of events c)
lines-are h events book c desk told = ap (λ (d : DeskSoFar). d.lines) (told.noted ∙ desk-of h (notes_of events c))

pub make_client-requires : goal.make_client-requires
make_client-requires g c = record { client = subst (λ n. n < length c.args.book.now.clients) (sym c.at.ensures.value) c.requires.client; clients = c.requires.told.1.clients }

pub returns-in_err-put : goal.returns-in_err-put
returns-in_err-put g c = record {
  wrote = λ events told.
      cut_short c.from_residual.result (note_lines c.args.session.now 0 (notes_of events c.args.place)) c.from_residual.ensures.1
      (of_text (c.as_slice.ensures.bytes ∙ c.make_client.ensures.made (tagged_in events) told.known ∙ ap₂ (client_row c.args.session.now c.args.book.now.clients (tagged_in events)) c.at.ensures.value (c.count.ensures ∙ count-is c.args.session.now events c.args.book.now c.args.place c.args.desk.now told)) c.in_err-put.ensures.gathered);
}

pub returns : goal.returns
returns g c = record {
  wrote = λ events told.
      Gathered-then c.put-2.result
      (of_text (c.as_slice.ensures.bytes ∙ c.make_client.ensures.made (tagged_in events) told.known ∙ ap₂ (client_row c.args.session.now c.args.book.now.clients (tagged_in events)) c.at.ensures.value (c.count.ensures ∙ count-is c.args.session.now events c.args.book.now c.args.place c.args.desk.now told)) c.in_ok-put.ensures.gathered)
      (of_text (c.lines.ensures ∙ lines-are c.args.session.now events c.args.book.now c.args.place c.args.desk.now told) c.put-2.ensures.gathered);
}
