-- The command passes and is served, or it is refused.
use Rattle.std.proofs.Common.{◌≡◌, ◌≢◌, ◌<◌, ◌++◌, ◌∷◌, [], ℕ, Some, get_or, ap, sym, subst, ◌∙◌, length}
use Rattle.fx_rules.specs.Step.{IsCommand}
use Rattle.client_desk.specs.Clients.{ask_of, bank_of_client}
use Rattle.client_desk.specs.declared.client.Client.{Client}
use Rattle.client_desk.specs.declared.ask.Ask.TheVariants.{Pass, Short, Barred}
use Rattle.order_lines.specs.Spelling.{command_text_of}
use Rattle.client_day.specs.inside.Days.{TakesAsked}
use Rattle.client_day.specs.Script.{asked_for}
use Rattle.reply_lines.proofs.Outputs.{on_ok}
use Rattle.client_day.proofs.Days.{takes-refused, weights-of, names-pair}
use Rattle.client_day.proofs.Reading.{kept-bank}
use Rattle.client_day.proofs.day.ClientDay.ask.Goals as goal

some_same : (a b : ℕ) → Some a ≡ Some b → a ≡ b
some_same a b is = cc

not_short : (free : ℕ) → Short free ≢ Pass
not_short free is = absurd cc

not_barred : Barred ≢ Pass
not_barred is = absurd cc

pub ask-requires : goal.ask-requires
ask-requires c = record {
  client = c.requires.client;
  pair = names-pair c.args.session.now (bank_of_client c.args.self.now.book.clients c.args.client) (length c.args.self.now.book.weights) c.args.command c.requires.command (weights-of c.args.session.now c.requires.next.0 c.args.self.now c.requires.next.1);
}

pub serve-requires : goal.serve-requires
serve-requires c =
    let clients = c.args.self.now.book.clients in
    let bank : (get_or c.clients.result.now c.index.result c.index-clients-index.result).bank ≡ bank_of_client clients c.args.client =
    ap (λ (k : Client). k.bank) (sym c.index-clients-index.is) ∙ kept-bank clients c.clients.result.now c.args.client c.index.result c.index-clients-index.result c.clients.ensures.value c.index.ensures.value c.requires.client c.index-clients-index.is in
    record {
      next = c.requires.next;
      client = λ k is. (subst (λ n. n < length clients) (some_same c.args.client k is) c.requires.client, bank ∙ ap (bank_of_client clients) (some_same c.args.client k is));
      sent = record { command = subst (λ b. IsCommand c.args.session.now b c.args.command) (sym bank) c.requires.command };
      line = c.requires.line ∙ ap (λ b. command_text_of c.args.session.now b c.args.command ++ 10 ∷ []) (sym bank);
      passed = λ tagged stands k is.
          ap (λ n. ask_of c.args.session.now clients tagged n c.args.command) (sym (some_same c.args.client k is)) ∙ sym (c.ask.ensures.answers c.args.session.now tagged stands) ∙ c.in-Pass.is;
    }

pub returns-in-Pass : goal.returns-in-Pass
returns-in-Pass c =
    let clients = c.args.self.now.book.clients in
    let bank : (get_or c.clients.result.now c.index.result c.index-clients-index.result).bank ≡ bank_of_client clients c.args.client =
    ap (λ (k : Client). k.bank) (sym c.index-clients-index.is) ∙ kept-bank clients c.clients.result.now c.args.client c.index.result c.index-clients-index.result c.clients.ensures.value c.index.ensures.value c.requires.client c.index-clients-index.is in
    record {
      taken = on_ok c.serve.result (λ takes. subst (λ b. TakesAsked c.args.session.now (asked_for (Some c.args.client) b c.args.command) c.args.self.now c.serve.new.self) bank takes) c.serve.ensures.taken;
    }

pub refuse-requires : goal.refuse-requires
refuse-requires c = record { client = subst (λ n. c.args.client < n) (sym c.requires.next.1.desks) c.requires.client }

pub returns-in-Short : goal.returns-in-Short
returns-in-Short c = record {
  taken = on_ok c.refuse.result (λ noted.
      takes-refused c.args.session.now c.args.self.now c.refuse.new.self c.args.client (bank_of_client c.args.self.now.book.clients c.args.client) c.args.command (Short c.in-Short.free)
      (λ tagged stands. sym c.in-Short.is ∙ c.ask.ensures.answers c.args.session.now tagged stands) (not_short c.in-Short.free)
      c.refuse.ensures.rest.0 c.refuse.ensures.rest.2 c.refuse.ensures.rest.1 c.refuse.ensures.rest.3 c.refuse.ensures.rest.4 c.refuse.ensures.trades (noted c.args.session.now))
      c.refuse.ensures.noted;
}

pub refuse-requires-in-Barred : goal.refuse-requires-in-Barred
refuse-requires-in-Barred c = record { client = subst (λ n. c.args.client < n) (sym c.requires.next.1.desks) c.requires.client }

pub returns-in-Barred : goal.returns-in-Barred
returns-in-Barred c = record {
  taken = on_ok c.refuse-in-Barred.result (λ noted.
      takes-refused c.args.session.now c.args.self.now c.refuse-in-Barred.new.self c.args.client (bank_of_client c.args.self.now.book.clients c.args.client) c.args.command Barred
      (λ tagged stands. sym c.in-Barred.is ∙ c.ask.ensures.answers c.args.session.now tagged stands) not_barred
      c.refuse-in-Barred.ensures.rest.0 c.refuse-in-Barred.ensures.rest.2 c.refuse-in-Barred.ensures.rest.1 c.refuse-in-Barred.ensures.rest.3 c.refuse-in-Barred.ensures.rest.4 c.refuse-in-Barred.ensures.trades (noted c.args.session.now))
      c.refuse-in-Barred.ensures.noted;
}
