-- Nothing was heard, so nothing is served.
use Rattle.std.proofs.Common.{◌≡◌, [], refl, ap, sym, subst, ◌∙◌, arith, length}
use Rattle.client_desk.specs.Clients.{AreClients}
use Rattle.client_day.proofs.day.ClientDay.open.Goals as goal

pub open-requires-3 : goal.open-requires-3
open-requires-3 c = record { clients = subst (AreClients c.args.session.now) (sym c.new.ensures.items) (record { most = omega arith; banks = tt; differ = tt }) }

pub returns : goal.returns
returns c =
    let none : c.in_ok-book.book.clients ≡ [] = c.in_ok-book.ensures.clients ∙ c.new.ensures.items in
    record {
      opens = record {
        events = [];
        behind = record {
          known = c.in_ok-book.ensures.opens;
          served = c.open-4.ensures.opens;
          told = c.in_ok-notices.ensures.opens;
          journal_is = record { count = c.new-2.ensures.count; lines = c.new-2.ensures.lines };
          answered = tt;
          desks = ap length c.new-3.ensures.items ∙ sym (ap length none);
          noted = λ k within. absurd (omega (arith, ap length none));
        };
        clients = subst (AreClients c.args.session.now) (sym none) (record { most = omega arith; banks = tt; differ = tt });
        clients_are = sym none;
        asked_are = refl;
        strays_are = refl;
        trading_is = refl;
      };
    }
