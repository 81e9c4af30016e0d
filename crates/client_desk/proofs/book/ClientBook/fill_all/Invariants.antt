use Rattle.std.proofs.Common.{◌≡◌, List, [], take}
use Rattle.fx_rules.specs.declared.orders.ActiveOrder.{ActiveOrder}
use Rattle.fx_rules.specs.Session.{Header}
use Rattle.client_desk.specs.Clients.{Tagged}
use Rattle.client_desk.specs.Draws.{AreDrawn, drawn_all}
use Rattle.client_desk.specs.inside.UnderWay.{IsUnderWay}
use Rattle.client_desk.proofs.book.ClientBook.fill_all.Given as goal

-- the fills so far are made
abbrev pub invariant-loop-fill : goal.invariant-loop-fill
invariant-loop-fill l = record {
  way : (h : Header) (tagged : List Tagged) (t : Tagged) (orders : List ActiveOrder) → IsUnderWay h tagged t orders [] l.initial.self → AreDrawn orders l.fills →
      IsUnderWay h tagged t (drawn_all orders (take l.fill-index l.fills)) (take l.fill-index l.fills) l.self;
  clients : l.self.clients ≡ l.initial.self.clients;
}
