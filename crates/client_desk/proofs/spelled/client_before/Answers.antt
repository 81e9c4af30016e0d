use Rattle.std.proofs.Common.{◌≡◌, ◌+◌, IsTrue, List, drop, take, get_or, refl, sym, subst, ◌∙◌}
use Rattle.fx_rules.specs.Names.{is_name}
use Rattle.client_desk.specs.declared.client.Client.{Client}
use Rattle.client_desk.specs.inside.Fronts.{BeginsWithClient}
use Rattle.client_desk.proofs.BankLines.{begins_with}
use Rattle.client_desk.proofs.spelled.client_before.Goals as goal

pub returns-clause-front : goal.returns-clause-front
returns-clause-front c =
    let h = c.args.session.now in
    let clients = c.args.clients.now in
    let text = c.args.text.now in
    let its : Client = c.index-as_slice-place.result in
    subst (λ n. BeginsWithClient h clients n text (drop (c.in_ok-colon.colon + 1 + c.in_ok-end.end + 1) text)) (sym c.at.ensures.value)
    (begins_with h clients text c.split_at.result.1.now (take c.in_ok-end.end c.split_at.result.1.now) c.in_ok-bank.bank c.in_ok-colon.colon c.in_ok-end.end c.in_ok-place.place its
    c.banks-banks.ensures.valid c.requires.clients c.in_ok-colon.ensures.0 c.in_ok-colon.ensures.1 (sym c.bank_in_front.ensures.value ∙ c.in_ok-bank.was)
    c.split_at.ensures.back c.in_ok-end.ensures.0 c.in_ok-end.ensures.1 refl
    (sym c.place_in_front.ensures.value ∙ c.in_ok-place.was)
    (subst (λ (all : List Client). its ≡ get_or all c.in_ok-place.place its) c.as_slice.ensures.value c.index-as_slice-place.is)
    (subst (λ (k : Client). IsTrue (is_name k.name)) (sym c.index-as_slice-place.is) c.as_bytes-name.ensures.valid))
