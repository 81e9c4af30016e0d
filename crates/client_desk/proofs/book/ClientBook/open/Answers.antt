use Rattle.std.proofs.Common.{◌<◌, List, length, ap, sym, subst, ◌∙◌, arith}
use Rattle.std.proofs.lemmas.List.{length-replicate}
use Rattle.fx_rules.specs.Lists.{Each}
use Rattle.fx_rules.specs.Session.{bank_count}
use Rattle.fx_rules.proofs.Senders.{bank-sender, sender-place}
use Rattle.client_desk.specs.Standing.{Sums, no_sums}
use Rattle.client_desk.specs.declared.client.Client.{Client}
use Rattle.client_desk.proofs.Naming.{client-within}
use Rattle.client_desk.proofs.Reading.{opens-for}
use Rattle.client_desk.proofs.book.ClientBook.open.Goals as goal

pub invariant_of-result : goal.invariant_of-result
invariant_of-result c =
    let h = c.args.session.now in
    let clients = c.in_ok-clients.clients in
    let banks : Each (λ (client : Client). client.bank < bank_count h) clients =
    subst (Each (λ (client : Client). client.bank < bank_count h)) (sym (c.in_ok-clients.ensures.value ∙ c.deref.ensures.value)) c.requires.clients.banks in
    record {
      accounts_full = ap (λ (sums : List Sums). length sums) c.in_ok-accounts.ensures.value ∙ length-replicate (length c.as_slice.result.now) no_sums ∙ ap (λ (all : List Client). length all) c.as_slice.ensures.value;
      banks = λ k within. omega (arith, sender-place h _ c.sender_places.ensures.valid (bank-sender h _ (client-within h clients k banks within)), c.in_ok-rows.ensures.count, c.sender_places.ensures.value);
    }

pub returns-clause-opens : goal.returns-clause-opens
returns-clause-opens c =
    opens-for c.args.session.now _ (length c.as_slice.result.now) c.sender_places.ensures.valid c.in_ok-weights.ensures.value c.in_ok-accounts.ensures.value
    (c.in_ok-rows.ensures.count ∙ c.sender_places.ensures.value) c.in_ok-rows.ensures.empty
