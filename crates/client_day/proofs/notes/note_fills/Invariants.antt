use Rattle.std.proofs.Common.{◌≡◌, ◌≤◌, List, length, take, drop}
use Rattle.std.specs.List.{flat_map}
use Rattle.fx_rules.specs.Lists.{Each}
use Rattle.fx_rules.specs.Session.{Header, bank_count}
use Rattle.client_desk.specs.Clients.{Tagged, owner_in}
use Rattle.client_desk.specs.Standing.{StandsFor}
use Rattle.reply_lines.specs.Desks.{HaveGot}
use Rattle.reply_lines.specs.Notices.{fill_notices}
use Rattle.reply_lines.specs.Prints.{IsFillOf}
use Rattle.client_day.specs.inside.Desks.{HaveNoted}
use Rattle.client_day.specs.Notes.{fill_notes}
use Rattle.client_day.proofs.notes.note_fills.Given as goal

-- all desks got the fills so far
abbrev pub invariant-loop-fill : goal.invariant-loop-fill
invariant-loop-fill l = record {
  noted : (h : Header) (tagged : List Tagged) → StandsFor h tagged l.book → HaveNoted l.session (λ c. flat_map (fill_notes (owner_in tagged) c) (take l.fill-index l.fills)) l.initial.desks.items l.desks.items;
  got : HaveGot l.session (λ bank. flat_map (fill_notices bank) (take l.fill-index l.fills)) l.initial.senders.items l.senders.items;
  count : length l.desks.items ≡ length l.book.clients;
  banks : bank_count l.session ≤ length l.senders.items;
  fills : Each (IsFillOf l.session) (drop l.fill-index l.fills);
}
