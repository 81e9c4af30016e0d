use Rattle.std.proofs.Common.{◌≡◌, ◌<◌, List, get_or}
use Rattle.fx_rules.specs.declared.orders.ActiveOrder.{ActiveOrder}
use Rattle.fx_rules.specs.declared.orders.Fill.{Fill}
use Rattle.fx_rules.specs.Session.{Header, sender_places}
use Rattle.client_desk.specs.Clients.{Tagged}
use Rattle.client_desk.specs.Standing.{row_of}
use Rattle.client_desk.specs.inside.UnderWay.{IsUnderWay, counts_of}
use Rattle.client_desk.proofs.Pulling.{pulled_to}
use Rattle.client_desk.proofs.book.ClientBook.pull.Given as goal

-- the orders of the commands so far are taken out
abbrev pub invariant-loop-place : goal.invariant-loop-place
invariant-loop-place l = record {
  clients : l.self.clients ≡ l.initial.self.clients;
  swept : get_or (row_of l.self l.bank).swept l.pair 0 ≡ l.first;
  taken : (h : Header) (tagged : List Tagged) (t : Tagged) (orders : List ActiveOrder) (fills : List Fill) → IsUnderWay h tagged t orders fills l.initial.self → l.bank < sender_places h → l.last ≡ get_or (counts_of h tagged t) l.bank 0 →
      IsUnderWay h tagged t (pulled_to l.pair l.bank l.first l.place orders) fills l.self;
}
