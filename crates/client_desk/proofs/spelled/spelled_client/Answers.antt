-- The line that is made is the bank's, and says what the client's does.
use Rattle.std.proofs.Common.{ℕ, ◌≡◌, ◌<◌, ◌∙◌, ◌++◌, ◌∷◌, [], List, ap, subst, sym}
use Rattle.std.proofs.lemmas.Bool.{eqb-true}
use Rattle.fx_rules.specs.Session.{bank_count, bank_name}
use Rattle.fx_rules.specs.Step.{IsCommand}
use Rattle.order_lines.specs.Spelling.{command_text_of}
use Rattle.order_lines.specs.declared.spoken.Spoken.TheVariants as spoken
use Rattle.client_desk.specs.Clients.{bank_of_client}
use Rattle.client_desk.specs.inside.Fronts.{BeginsWithClient}
use Rattle.client_desk.proofs.BankLines.{client-spelled, empty-nil}
use Rattle.client_desk.proofs.Naming.{client-within}
use Rattle.client_desk.proofs.spelled.spelled_client.Goals as goal

pub make_line-requires-clause-bank : goal.make_line-requires-clause-bank
make_line-requires-clause-bank c =
    subst (λ b. b < bank_count c.args.session.now) (sym c.bank_of-bank.ensures.value)
    (client-within c.args.session.now c.args.clients.now c.in_ok-client.client c.requires.clients.banks c.in_ok-client.ensures.client)

pub returns-in-Some-clause-reads : goal.returns-in-Some-clause-reads
returns-in-Some-clause-reads c =
    let h = c.args.session.now in
    let asks = c.in-Some.sent.command in
    let sender : c.in-Some.sent.bank ≡ c.bank_of-bank.result = eqb-true c.in-Some.sent.bank c.bank_of-bank.result (sym c.if-eq.ensures) in
    let bank : c.in-Some.sent.bank ≡ bank_of_client c.args.clients.now c.in_ok-client.client = sender ∙ c.bank_of-bank.ensures.value in
    let line : List ℕ = command_text_of h c.in-Some.sent.bank asks in
    let none : c.in-Some.behind.now ≡ [] = empty-nil c.in-Some.behind.now (sym c.if-is_empty.ensures) in
    let made : line ++ 10 ∷ [] ≡ (bank_name h (bank_of_client c.args.clients.now c.in_ok-client.client) ++ 32 ∷ c.split_at.result.1.now) ++ 10 ∷ [] =
    ap (λ (behind : List ℕ). line ++ 10 ∷ behind) (sym none) ∙ sym c.in-Some.ensures.spelled ∙ c.as_slice.ensures.bytes ∙ c.make_line.ensures.value
    ∙ ap (λ b. (bank_name h b ++ 32 ∷ c.split_at.result.1.now) ++ 10 ∷ []) c.bank_of-bank.ensures.value in
    let front : BeginsWithClient h c.args.clients.now c.in_ok-client.client c.args.text.now c.split_at.result.1.now =
    subst (BeginsWithClient h c.args.clients.now c.in_ok-client.client c.args.text.now) (sym c.split_at.ensures.back) c.in_ok-client.ensures.front in
    client-spelled h c.args.clients.now c.in_ok-client.client asks c.args.text.now front.first c.split_at.result.1.now line c.banks-banks.ensures.valid c.requires.clients c.in_ok-client.ensures.client
    front.fields front.declares front.named made
    (c.in-Some.ensures.reads ∙ ap (λ b. spoken.Of b asks) bank)

pub returns-in-Some-clause-range : goal.returns-in-Some-clause-range
returns-in-Some-clause-range c =
    let sender : c.in-Some.sent.bank ≡ c.bank_of-bank.result = eqb-true c.in-Some.sent.bank c.bank_of-bank.result (sym c.if-eq.ensures) in
    subst (λ b. IsCommand c.args.session.now b c.in-Some.sent.command) (sender ∙ c.bank_of-bank.ensures.value) c.in-Some.ensures.valid.command
