use Rattle.std.proofs.Common.{◌≡◌, ◌++◌, ◌∷◌, [], List, length, arith, ap, ap₂, sym, subst, ◌∙◌, length-append}
use Rattle.fx_rules.proofs.Senders.{bank-sender, sender-place}
use Rattle.client_desk.specs.Clients.{AreClients}
use Rattle.client_desk.specs.Standing.{Book, StandsFor, Sums, no_sums}
use Rattle.client_desk.specs.declared.client.Client.{Client}
use Rattle.client_desk.proofs.Naming.{client-within}
use Rattle.client_desk.proofs.Reading.{declared-for}
use Rattle.client_desk.proofs.book.ClientBook.declare.Goals as goal

pub invariant_of-self-2 : goal.invariant_of-self-2
invariant_of-self-2 c =
    let h = c.requires.next.0 in
    let stands = c.requires.next.1 in
    let clients : c.push.new.self ≡ c.args.self.now.clients ++ c.args.client ∷ [] =
    c.in_ok-push.ensures.pushed ∙ ap (λ (b : Book). b.clients ++ c.args.client ∷ []) c.self.view_is in
    let rows : c.self.inside.rows.items ≡ c.args.self.now.rows = ap (λ (b : Book). b.rows) c.self.view_is in
    let are : AreClients h c.push.new.self = subst (AreClients h) (sym clients) c.requires.next.2 in
    record {
      accounts_full = omega (
        arith,
        c.self.invariant.accounts_full,
        ap length c.push_reserved.ensures.items,
        ap length c.reserve.ensures.items,
        ap length c.in_ok-push.ensures.pushed,
        length-append c.reserve.new.self.items (c.open.result ∷ []),
        length-append c.self.inside.clients (c.args.client ∷ []),
      );
      banks = λ k within. omega (
        arith,
        sender-place h _ stands.tagged_is.legal.session (bank-sender h _ (client-within h c.push.new.self k are.banks within)),
        stands.stands.senders,
        ap length rows,
      );
    }

pub returns-clause-declared : goal.returns-clause-declared
returns-clause-declared c h stands =
    let book : Book = record { clients = c.self.inside.clients; weights = c.self.inside.weights.items; accounts = c.self.inside.accounts.items; rows = c.self.inside.rows.items } in
    let accounts : c.push_reserved.new.self.items ≡ c.self.inside.accounts.items ++ no_sums ∷ [] =
    c.push_reserved.ensures.items ∙ ap₂ (λ (all : List Sums) (s : Sums). all ++ s ∷ []) c.reserve.ensures.items c.open.ensures.value in
    declared-for h book _ c.args.client (subst (StandsFor h []) (sym c.self.view_is) stands) c.self.invariant.accounts_full
    (ap₂ (λ (clients : List Client) (sums : List Sums). record { clients = clients; weights = c.self.inside.weights.items; accounts = sums; rows = c.self.inside.rows.items }) c.in_ok-push.ensures.pushed accounts)
