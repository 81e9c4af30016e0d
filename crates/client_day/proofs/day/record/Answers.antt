-- The entry has a client or none.
use Rattle.std.proofs.Common.{◌++◌, ◌∷◌, [], ℕ, Option, sym, subst}
use Rattle.client_desk.specs.Clients.{IsTagged, tag}
use Rattle.client_desk.specs.Standing.{StandsFor}
use Rattle.reply_lines.proofs.Outputs.{on_ok}
use Rattle.client_day.proofs.day.record.Goals as goal

pub record-requires : goal.record-requires
record-requires c =
    let next = c.requires.next in
    record { next = (next.0, next.1, next.2, subst (λ (who : Option ℕ). IsTagged next.0 c.args.book.now.clients (next.1 ++ tag who c.args.entry.now ∷ [])) c.in-Some.is next.3) }

pub record-requires-in-None : goal.record-requires-in-None
record-requires-in-None c =
    let next = c.requires.next in
    record { next = (next.0, next.1, next.2, subst (λ (who : Option ℕ). IsTagged next.0 c.args.book.now.clients (next.1 ++ tag who c.args.entry.now ∷ [])) c.in-None.is next.3) }

pub returns-in-Some : goal.returns-in-Some
returns-in-Some c = record {
  recorded = on_ok c.record.result (λ given h tagged stands is.
      subst (λ (who : Option ℕ). StandsFor h (tagged ++ tag who c.args.entry.now ∷ []) c.record.new.self) (sym c.in-Some.is)
      (given h tagged stands (subst (λ (who : Option ℕ). IsTagged h c.args.book.now.clients (tagged ++ tag who c.args.entry.now ∷ [])) c.in-Some.is is)))
      c.record.ensures.recorded;
  clients = c.record.ensures.clients;
}

pub returns-in-None : goal.returns-in-None
returns-in-None c = record {
  recorded = on_ok c.record-in-None.result (λ given h tagged stands is.
      subst (λ (who : Option ℕ). StandsFor h (tagged ++ tag who c.args.entry.now ∷ []) c.record-in-None.new.self) (sym c.in-None.is)
      (given h tagged stands (subst (λ (who : Option ℕ). IsTagged h c.args.book.now.clients (tagged ++ tag who c.args.entry.now ∷ [])) c.in-None.is is)))
      c.record-in-None.ensures.recorded;
  clients = c.record-in-None.ensures.clients;
}
