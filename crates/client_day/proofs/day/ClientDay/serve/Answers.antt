-- The entry is made, recorded and told.
use Rattle.std.proofs.Common.{ℕ, List, ◌≡◌, ◌<◌, ◌++◌, ◌∷◌, [], refl, ap, sym, subst, ◌∙◌, arith, length}
use Rattle.fx_rules.specs.declared.command.Sent.{Sent}
use Rattle.fx_rules.specs.declared.outcome.Entry.{Entry}
use Rattle.fx_rules.specs.Sending.{sent_by}
use Rattle.client_desk.specs.Clients.{IsTagged, entries_of, tag}
use Rattle.client_desk.specs.Standing.{StandsFor}
use Rattle.market_run.specs.Running.{HasServed}
use Rattle.order_lines.specs.Spelling.{command_text_of}
use Rattle.pair_host.specs.Standing.{stands}
use Rattle.reply_lines.specs.Output.{entry_line}
use Rattle.client_day.specs.Days.{IsHanded}
use Rattle.client_day.specs.Events.{tagged_in}
use Rattle.client_day.proofs.Days.{behind-entered, goes-tagged, passed-of, takes-entered}
use Rattle.client_day.proofs.Events.{entries-few}
use Rattle.client_day.proofs.Noting.{both_ok}
use Rattle.client_day.proofs.day.ClientDay.serve.Goals as goal

pub serve_entry-requires : goal.serve_entry-requires
serve_entry-requires c =
    let next = c.requires.next in
    record {
      may_serve = record {
        entries = entries_of (tagged_in next.0);
        has_served = next.1.served;
        valid = (c.requires.sent, tt);
        few = omega (arith, entries-few next.0, next.2);
      };
    }

pub add_lines-requires : goal.add_lines-requires
add_lines-requires c =
    let next = c.requires.next in
    record { few = omega (arith, next.1.journal_is.count, entries-few next.0, next.2) }

pub record-requires : goal.record-requires
record-requires c =
    let next = c.requires.next in
    let made = c.in_ok-entry.ensures.served in
    let e : Entry = c.in_ok-entry.entry in
    let served : HasServed stands IsHanded c.args.session.now (entries_of (tagged_in next.0) ++ e ∷ []) c.serve_entry.new.self =
    subst (λ (e : Entry). HasServed stands IsHanded c.args.session.now (entries_of (tagged_in next.0) ++ e ∷ []) c.serve_entry.new.self) (sym made.left_is) (made.goes_on (entries_of (tagged_in next.0)) next.1.served) in
    record {
      next = (
        c.args.session.now,
        tagged_in next.0,
        next.1.known,
        goes-tagged c.args.session.now next.0 c.args.self.now c.args.who.now e c.args.sent c.serve_entry.new.self next.1 (ap sent_by made.left_is ∙ made.sent_is) served c.requires.client c.requires.passed,
      );
    }

pub note_entry-requires : goal.note_entry-requires
note_entry-requires c =
    let next = c.requires.next in
    let made = c.in_ok-entry.ensures.served in
    let e : Entry = c.in_ok-entry.entry in
    let served : HasServed stands IsHanded c.args.session.now (entries_of (tagged_in next.0) ++ e ∷ []) c.serve_entry.new.self =
    subst (λ (e : Entry). HasServed stands IsHanded c.args.session.now (entries_of (tagged_in next.0) ++ e ∷ []) c.serve_entry.new.self) (sym made.left_is) (made.goes_on (entries_of (tagged_in next.0)) next.1.served) in
    let tagged : IsTagged c.args.session.now c.args.self.now.book.clients (tagged_in next.0 ++ tag c.args.who.now e ∷ []) =
    goes-tagged c.args.session.now next.0 c.args.self.now c.args.who.now e c.args.sent c.serve_entry.new.self next.1 (ap sent_by made.left_is ∙ made.sent_is) served c.requires.client c.requires.passed in
    record {
      next = (entries_of (tagged_in next.0), served.legal, next.1.told);
      known = (c.args.session.now, tagged_in next.0 ++ tag c.args.who.now e ∷ [], c.in_ok-record.ensures.recorded c.args.session.now (tagged_in next.0) next.1.known tagged);
      who = λ k is. subst (λ n. k < n) (sym next.1.desks) (c.requires.client k is).0;
      desks = next.1.desks ∙ ap length (sym c.in_ok-record.ensures.clients);
    }

pub returns : goal.returns
returns c = record {
  taken = both_ok c.note_entry.result (λ told noted.
      let made = c.in_ok-entry.ensures.served in
      let e : Entry = c.in_ok-entry.entry in
      let named : sent_by e ≡ c.args.sent = ap sent_by made.left_is ∙ made.sent_is in
      let written : c.args.line.now ≡ entry_line c.args.session.now e = c.requires.line ∙ ap (λ (s : Sent). command_text_of c.args.session.now s.bank s.command ++ 10 ∷ []) (sym named) in
      takes-entered c.args.session.now c.args.self.now _ c.args.who.now c.args.sent e named c.in_ok-record.ensures.clients refl refl (λ events is.
      let served : HasServed stands IsHanded c.args.session.now (entries_of (tagged_in events) ++ e ∷ []) c.serve_entry.new.self =
      subst (λ (e : Entry). HasServed stands IsHanded c.args.session.now (entries_of (tagged_in events) ++ e ∷ []) c.serve_entry.new.self) (sym made.left_is) (made.goes_on (entries_of (tagged_in events)) is.served) in
      let known : StandsFor c.args.session.now (tagged_in events ++ tag c.args.who.now e ∷ []) c.record.new.book =
      c.in_ok-record.ensures.recorded c.args.session.now (tagged_in events) is.known (goes-tagged c.args.session.now events c.args.self.now c.args.who.now e c.args.sent c.serve_entry.new.self is named served c.requires.client c.requires.passed) in
      behind-entered c.args.session.now events c.args.self.now _ c.args.who.now e is (passed-of c.args.session.now events c.args.self.now c.args.who.now e c.args.sent is named c.requires.passed) served (told (entries_of (tagged_in events)) served.legal is.told)
      c.in_ok-add_lines.ensures.count (c.in_ok-add_lines.ensures.lines ∙ ap (λ (line : List ℕ). c.args.self.now.journal.lines.items ++ line) written) known c.in_ok-record.ensures.clients (noted c.args.session.now (tagged_in events ++ tag c.args.who.now e ∷ []) known)))
      c.note_entry.ensures.told c.note_entry.ensures.noted;
}
