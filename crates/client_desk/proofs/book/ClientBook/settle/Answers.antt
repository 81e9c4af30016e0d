use Rattle.std.proofs.Common.{ℕ, ◌≡◌, List, ◌++◌, [], refl, ap, sym, subst, ◌∙◌, append-nil}
use Rattle.fx_rules.specs.declared.orders.ActiveOrder.{ActiveOrder}
use Rattle.fx_rules.specs.declared.command.Command.{Command}
use Rattle.fx_rules.specs.declared.command.Command.TheVariants.{Order, Cancel, Reduce, Pull}
use Rattle.fx_rules.specs.declared.command.Life.{Life}
use Rattle.fx_rules.specs.declared.command.Life.TheVariants.{Ioc, Fok}
use Rattle.fx_amounts.specs.declared.side.Side.{Side}
use Rattle.fx_rules.specs.declared.outcome.Entry.{Entry}
use Rattle.fx_rules.specs.declared.outcome.Outcome.{Outcome}
use Rattle.fx_rules.specs.declared.outcome.Outcome.TheVariants.{Cancelled, Reduced}
use Rattle.fx_rules.specs.Session.{Header}
use Rattle.fx_rules.specs.Step.{fills_of}
use Rattle.client_desk.specs.Clients.{Tagged, state_of}
use Rattle.client_desk.specs.Draws.{coming_in, drawn_all, settled, taken_out}
use Rattle.client_desk.specs.Standing.{Book}
use Rattle.client_desk.specs.inside.UnderWay.{CanSettle, CanTake, IsAbove, IsUnderWay, Settles, Takes, counts_of, drawn_here}
use Rattle.client_desk.specs.inside.Numbers.{IsKnown}
use Rattle.client_desk.proofs.Within.{reduced-of, reduced-some}
use Rattle.client_desk.proofs.Recording.{cancel-found, settling-command, settling-count, settling-found, settling-known, settling-outcome, settling-sound}
use Rattle.client_desk.proofs.book.ClientBook.settle.Goals as goal

module _ (old : Book) (e : Entry) where
  -- the rest of an order can be taken out
  can-take : CanSettle old e → (side : Side) (pair price lots : ℕ) (life : Life) → e.command ≡ Order side pair price lots life → CanTake old pair e.bank e.number
  can-take made side pair price lots life is =
      let h = made.0 in
      let tagged = made.1 in
      let t = made.2 in
      let orders = drawn_here h tagged e in
      let fills = fills_of e.outcome in (
        h,
        tagged,
        t,
        orders,
        fills,
        made.4,
        settling-known h tagged t e orders fills old made.3 made.4,
        (settling-command h tagged t e orders fills old made.3 made.4 (Order side pair price lots life) is).values.0,
      )

  -- and that is what the outcome of one that is not to stand does
  rest-settled : (new : Book) (pair : ℕ) (asks : Command) → e.command ≡ asks → ((orders : List ActiveOrder) → settled e.bank e.number asks e.outcome orders ≡ taken_out pair e.bank e.number orders) → Takes old new pair e.bank e.number → Settles old new e
  rest-settled new pair asks is goes takes h tagged t same way =
      let orders = drawn_here h tagged e in
      let fills = fills_of e.outcome in
      subst (λ (os : List ActiveOrder). IsUnderWay h tagged t os fills new)
      (sym (ap (λ (k : Command). settled e.bank e.number k e.outcome orders) is ∙ goes orders))
      (takes h tagged t orders fills way (settling-known h tagged t e orders fills old same way))

  -- a reduction finds an order that has more left
  above : (h : Header) (tagged : List Tagged) (t : Tagged) (same : t.entry ≡ e) → IsUnderWay h tagged t (drawn_here h tagged e) (fills_of e.outcome) old → (pair number lots left : ℕ) → e.command ≡ Reduce pair number lots → e.outcome ≡ Reduced left
      → IsAbove (drawn_here h tagged e) pair e.bank number left
  above h tagged t same way pair number lots left is told =
      let S = state_of h tagged in
      let orders = drawn_here h tagged e in
      let fills = fills_of e.outcome in
      let asks : Command = Reduce pair number lots in
      let outcome = settling-outcome h tagged t e orders fills old same way asks (Reduced left) is told in
      let found = reduced-of S pair e.bank number lots left outcome in
      let plain : orders ≡ S.orders =
      ap (λ (k : Command). drawn_all (S.orders ++ coming_in S e.bank k) fills) is
      ∙ ap (λ (o : Outcome). drawn_all (S.orders ++ []) (fills_of o)) told ∙ append-nil S.orders in
      subst (λ (os : List ActiveOrder). IsAbove os pair e.bank number left) (sym plain)
      (record {
        rising = (settling-sound h tagged t e orders fills old same way).rising;
        active = found.active;
        among = found.among;
        of_pair = found.of_pair;
        is = found.is;
        some = reduced-some h S e.bank pair number lots left (settling-command h tagged t e orders fills old same way asks is) outcome;
        less = found.less;
      })

  -- so its number is known
  above-known : (h : Header) (tagged : List Tagged) (t : Tagged) (same : t.entry ≡ e) → IsUnderWay h tagged t (drawn_here h tagged e) (fills_of e.outcome) old → (pair number lots left : ℕ) → e.command ≡ Reduce pair number lots → e.outcome ≡ Reduced left
      → IsKnown h (counts_of h tagged t) e.bank number
  above-known h tagged t same way pair number lots left is told =
      let orders = drawn_here h tagged e in
      let fills = fills_of e.outcome in
      let found = reduced-of (state_of h tagged) pair e.bank number lots left (settling-outcome h tagged t e orders fills old same way (Reduce pair number lots) (Reduced left) is told) in
      settling-found h tagged t e orders fills old same way e.bank number found.active found.among found.is

pub take_out-requires : goal.take_out-requires
take_out-requires c = record { rests = can-take c.args.self.now c.args.entry.now c.requires.made c.in-Order.side c.in-Order.pair c.in-Order.price c.in-Order.lots c.in-Order.life c.in-Order.is }

pub returns-in-Ioc : goal.returns-in-Ioc
returns-in-Ioc c = record {
  clients = c.take_out.ensures.clients;
  settled = rest-settled c.args.self.now c.args.entry.now c.take_out.new.self c.in-Order.pair (Order c.in-Order.side c.in-Order.pair c.in-Order.price c.in-Order.lots Ioc)
      (c.in-Order.is ∙ ap (Order c.in-Order.side c.in-Order.pair c.in-Order.price c.in-Order.lots) c.in-Ioc.is) (λ orders. refl) c.take_out.ensures.taken;
}

pub take_out-requires-in-Fok : goal.take_out-requires-in-Fok
take_out-requires-in-Fok c = record { rests = can-take c.args.self.now c.args.entry.now c.requires.made c.in-Order.side c.in-Order.pair c.in-Order.price c.in-Order.lots c.in-Order.life c.in-Order.is }

pub returns-in-Fok : goal.returns-in-Fok
returns-in-Fok c = record {
  clients = c.take_out-in-Fok.ensures.clients;
  settled = rest-settled c.args.self.now c.args.entry.now c.take_out-in-Fok.new.self c.in-Order.pair (Order c.in-Order.side c.in-Order.pair c.in-Order.price c.in-Order.lots Fok)
      (c.in-Order.is ∙ ap (Order c.in-Order.side c.in-Order.pair c.in-Order.price c.in-Order.lots) c.in-Fok.is) (λ orders. refl) c.take_out-in-Fok.ensures.taken;
}

pub take_out-requires-in-Cancelled : goal.take_out-requires-in-Cancelled
take_out-requires-in-Cancelled c =
    let found = cancel-found (state_of c.requires.made.0 c.requires.made.1) c.in-Cancel.pair c.args.entry.now.bank c.in-Cancel.number c.in-Cancelled.left (settling-outcome c.requires.made.0 c.requires.made.1 c.requires.made.2 c.args.entry.now (drawn_here c.requires.made.0 c.requires.made.1 c.args.entry.now) (fills_of c.args.entry.now.outcome) c.args.self.now c.requires.made.3 c.requires.made.4 (Cancel c.in-Cancel.pair c.in-Cancel.number) (Cancelled c.in-Cancelled.left) c.in-Cancel.is c.in-Cancelled.is) in
    record {
      rests = (
        c.requires.made.0,
        c.requires.made.1,
        c.requires.made.2,
        (drawn_here c.requires.made.0 c.requires.made.1 c.args.entry.now),
        (fills_of c.args.entry.now.outcome),
        c.requires.made.4,
        settling-found c.requires.made.0 c.requires.made.1 c.requires.made.2 c.args.entry.now (drawn_here c.requires.made.0 c.requires.made.1 c.args.entry.now) (fills_of c.args.entry.now.outcome) c.args.self.now c.requires.made.3 c.requires.made.4 c.args.entry.now.bank c.in-Cancel.number found.0 found.1 found.2,
        (settling-command c.requires.made.0 c.requires.made.1 c.requires.made.2 c.args.entry.now (drawn_here c.requires.made.0 c.requires.made.1 c.args.entry.now) (fills_of c.args.entry.now.outcome) c.args.self.now c.requires.made.3 c.requires.made.4 (Cancel c.in-Cancel.pair c.in-Cancel.number) c.in-Cancel.is).values.0,
      );
    }

pub returns-in-Cancelled : goal.returns-in-Cancelled
returns-in-Cancelled c = record {
  clients = c.take_out-in-Cancelled.ensures.clients;
  settled = λ h tagged t same way.
      let found = cancel-found (state_of h tagged) c.in-Cancel.pair c.args.entry.now.bank c.in-Cancel.number c.in-Cancelled.left (settling-outcome h tagged t c.args.entry.now (drawn_here h tagged c.args.entry.now) (fills_of c.args.entry.now.outcome) c.args.self.now same way (Cancel c.in-Cancel.pair c.in-Cancel.number) (Cancelled c.in-Cancelled.left) c.in-Cancel.is c.in-Cancelled.is) in
      subst (λ (os : List ActiveOrder). IsUnderWay h tagged t os (fills_of c.args.entry.now.outcome) c.take_out-in-Cancelled.new.self)
      (sym (ap (λ (k : Command). settled c.args.entry.now.bank c.args.entry.now.number k c.args.entry.now.outcome (drawn_here h tagged c.args.entry.now)) c.in-Cancel.is ∙ ap (λ (o : Outcome). settled c.args.entry.now.bank c.args.entry.now.number (Cancel c.in-Cancel.pair c.in-Cancel.number) o (drawn_here h tagged c.args.entry.now)) c.in-Cancelled.is))
      (c.take_out-in-Cancelled.ensures.taken h tagged t (drawn_here h tagged c.args.entry.now) (fills_of c.args.entry.now.outcome) way (settling-found h tagged t c.args.entry.now (drawn_here h tagged c.args.entry.now) (fills_of c.args.entry.now.outcome) c.args.self.now same way c.args.entry.now.bank c.in-Cancel.number found.0 found.1 found.2));
}

pub reduce-requires : goal.reduce-requires
reduce-requires c =
    let h = c.requires.made.0 in
    let tagged = c.requires.made.1 in
    let t = c.requires.made.2 in
    let e = c.args.entry.now in
    let same = c.requires.made.3 in
    let way = c.requires.made.4 in
    let pair = c.in-Reduce.pair in
    let number = c.in-Reduce.number in
    let lots = c.in-Reduce.lots in
    let left = c.in-Reduced.left in
    record {
      rests = (
        h,
        tagged,
        t,
        drawn_here h tagged e,
        fills_of e.outcome,
        way,
        above-known c.args.self.now e h tagged t same way pair number lots left c.in-Reduce.is c.in-Reduced.is,
        (settling-command h tagged t e (drawn_here h tagged e) (fills_of e.outcome) c.args.self.now same way (Reduce pair number lots) c.in-Reduce.is).values.0,
        above c.args.self.now e h tagged t same way pair number lots left c.in-Reduce.is c.in-Reduced.is,
      );
    }

pub returns-in-Reduced : goal.returns-in-Reduced
returns-in-Reduced c = record {
  clients = c.reduce.ensures.clients;
  settled = λ h tagged t same way.
      let e : Entry = c.args.entry.now in
      let orders : List ActiveOrder = drawn_here h tagged e in
      let pair : ℕ = c.in-Reduce.pair in
      let number : ℕ = c.in-Reduce.number in
      let lots : ℕ = c.in-Reduce.lots in
      let left : ℕ = c.in-Reduced.left in
      subst (λ (os : List ActiveOrder). IsUnderWay h tagged t os (fills_of e.outcome) c.reduce.new.self)
      (sym (ap (λ (k : Command). settled e.bank e.number k e.outcome orders) c.in-Reduce.is ∙ ap (λ (o : Outcome). settled e.bank e.number (Reduce pair number lots) o orders) c.in-Reduced.is))
      (c.reduce.ensures.reduced h tagged t orders (fills_of e.outcome) way
      (above-known c.args.self.now e h tagged t same way pair number lots left c.in-Reduce.is c.in-Reduced.is)
      (above c.args.self.now e h tagged t same way pair number lots left c.in-Reduce.is c.in-Reduced.is));
}

pub pull-requires : goal.pull-requires
pull-requires c = record {
  sender = (c.requires.made.0, c.requires.made.1, c.requires.made.2, (drawn_here c.requires.made.0 c.requires.made.1 c.args.entry.now), (fills_of c.args.entry.now.outcome), c.requires.made.4, (settling-known c.requires.made.0 c.requires.made.1 c.requires.made.2 c.args.entry.now (drawn_here c.requires.made.0 c.requires.made.1 c.args.entry.now) (fills_of c.args.entry.now.outcome) c.args.self.now c.requires.made.3 c.requires.made.4).sender, settling-count c.requires.made.0 c.requires.made.1 c.requires.made.2 c.args.entry.now (drawn_here c.requires.made.0 c.requires.made.1 c.args.entry.now) (fills_of c.args.entry.now.outcome) c.args.self.now c.requires.made.3 c.requires.made.4, (settling-command c.requires.made.0 c.requires.made.1 c.requires.made.2 c.args.entry.now (drawn_here c.requires.made.0 c.requires.made.1 c.args.entry.now) (fills_of c.args.entry.now.outcome) c.args.self.now c.requires.made.3 c.requires.made.4 (Pull c.in-Pull.pair) c.in-Pull.is).values);
}

pub returns-in-Pulled : goal.returns-in-Pulled
returns-in-Pulled c = record {
  clients = c.pull.ensures.clients;
  settled = λ h tagged t same way.
      subst (λ (os : List ActiveOrder). IsUnderWay h tagged t os (fills_of c.args.entry.now.outcome) c.pull.new.self)
      (sym (ap (λ (k : Command). settled c.args.entry.now.bank c.args.entry.now.number k c.args.entry.now.outcome (drawn_here h tagged c.args.entry.now)) c.in-Pull.is ∙ ap (λ (o : Outcome). settled c.args.entry.now.bank c.args.entry.now.number (Pull c.in-Pull.pair) o (drawn_here h tagged c.args.entry.now)) c.in-Pulled.is))
      (c.pull.ensures.pulled h tagged t (drawn_here h tagged c.args.entry.now) (fills_of c.args.entry.now.outcome) way (settling-known h tagged t c.args.entry.now (drawn_here h tagged c.args.entry.now) (fills_of c.args.entry.now.outcome) c.args.self.now same way).sender (settling-count h tagged t c.args.entry.now (drawn_here h tagged c.args.entry.now) (fills_of c.args.entry.now.outcome) c.args.self.now same way));
}
