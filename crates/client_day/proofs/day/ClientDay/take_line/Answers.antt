-- A line declares a client, or is a client's command, or is a stray still.
use Rattle.std.proofs.Common.{◌≡◌, ◌<◌, ◌++◌, ◌∷◌, [], List, Some, ap, sym, subst, ◌∙◌, arith, length}
use Rattle.fx_rules.specs.Step.{IsCommand}
use Rattle.fx_text.specs.Lines.{line_seen}
use Rattle.order_lines.specs.Spelling.{command_text_of}
use Rattle.client_desk.specs.Clients.{AreClients, bank_of_client}
use Rattle.client_desk.specs.Lines.{IfDeclares, IfOf, client_line_of}
use Rattle.client_desk.specs.declared.client.Client.{Client}
use Rattle.client_desk.specs.declared.line.ClientLine.{ClientLine}
use Rattle.client_desk.specs.declared.line.ClientLine.TheVariants.{Declares, Of, Plain}
use Rattle.reply_lines.proofs.Outputs.{on_ok}
use Rattle.session_script.specs.Heard.Heard.{Stray}
use Rattle.client_day.specs.Script.{asked_for}
use Rattle.client_day.proofs.Days.{day-asked, day-stray, events-few, of-says, plain-stray, strays-few}
use Rattle.client_day.proofs.day.ClientDay.take_line.Goals as goal

pub client_line_with-requires : goal.client_line_with-requires
client_line_with-requires c = record { clients = subst (AreClients c.args.session.now) (sym c.named_clients.ensures.value) c.requires.next.1.clients }

pub declare-requires : goal.declare-requires
declare-requires c =
    let next = c.requires.next in
    record {
      next = (
        c.args.session.now,
        next.0,
        next.1,
        next.2,
        subst (λ (clients : List Client). AreClients c.args.session.now (clients ++ c.in-Declares.client ∷ [])) c.named_clients.ensures.value
            (subst (λ (says : ClientLine). IfDeclares says (λ client. AreClients c.args.session.now (c.named_clients.result.now ++ client ∷ []))) c.in-Declares.is c.client_line_with.ensures.declares),
      );
    }

pub ask-requires : goal.ask-requires
ask-requires c =
    let next = c.requires.next in
    record {
      next = (next.1.events, next.1.behind, omega (arith, next.2, events-few c.args.session.now next.0 c.args.self.now next.1));
      client = subst (λ (clients : List Client). c.in-Of.client < length clients) c.named_clients.ensures.value
          (subst (λ (says : ClientLine). IfOf says (λ client command. client < length c.named_clients.result.now)) c.in-Of.is c.client_line_with.ensures.client);
      line = c.as_slice.ensures.bytes ∙ subst (λ (clients : List Client). c.client_line_with.new.journal ≡ command_text_of c.args.session.now (bank_of_client clients c.in-Of.client) c.in-Of.command ++ 10 ∷ []) c.named_clients.ensures.value
          (subst (λ (says : ClientLine). IfOf says (λ client command. c.client_line_with.new.journal ≡ command_text_of c.args.session.now (bank_of_client c.named_clients.result.now client) command ++ 10 ∷ [])) c.in-Of.is c.client_line_with.ensures.journal);
      command = subst (λ (clients : List Client). IsCommand c.args.session.now (bank_of_client clients c.in-Of.client) c.in-Of.command) c.named_clients.ensures.value
          (subst (λ (says : ClientLine). IfOf says (λ client command. IsCommand c.args.session.now (bank_of_client c.named_clients.result.now client) command)) c.in-Of.is c.client_line_with.ensures.range);
    }

pub overflow_add-self : goal.overflow_add-self
overflow_add-self c =
    let next = c.requires.next in
    omega (arith, strays-few c.args.session.now next.0 c.args.self.now next.1, next.2)

pub returns-in-Declares : goal.returns-in-Declares
returns-in-Declares c =
    let are : AreClients c.args.session.now (c.args.self.now.book.clients ++ c.in-Declares.client ∷ []) =
    subst (λ (clients : List Client). AreClients c.args.session.now (clients ++ c.in-Declares.client ∷ [])) c.named_clients.ensures.value
    (subst (λ (says : ClientLine). IfDeclares says (λ client. AreClients c.args.session.now (c.named_clients.result.now ++ client ∷ []))) c.in-Declares.is c.client_line_with.ensures.declares) in
    let says : client_line_of c.args.session.now c.args.self.now.book.clients (line_seen c.args.line.now) ≡ Declares c.in-Declares.client =
    ap (λ (clients : List Client). client_line_of c.args.session.now clients (line_seen c.args.line.now)) (sym c.named_clients.ensures.value) ∙ sym c.client_line_with.ensures.reads ∙ c.in-Declares.is in
    record { taken = on_ok c.declare.result (λ taken before is. taken c.args.session.now before (line_seen c.args.line.now) is are says) c.declare.ensures.taken }

pub returns-in-Of : goal.returns-in-Of
returns-in-Of c =
    let says : client_line_of c.args.session.now c.args.self.now.book.clients (line_seen c.args.line.now) ≡ Of c.in-Of.client c.in-Of.command =
    ap (λ (clients : List Client). client_line_of c.args.session.now clients (line_seen c.args.line.now)) (sym c.named_clients.ensures.value) ∙ sym c.client_line_with.ensures.reads ∙ c.in-Of.is in
    record {
      taken = on_ok c.ask.result (λ takes before is.
          day-asked c.args.session.now before (Stray (line_seen c.args.line.now)) c.args.self.now c.ask.new.self (asked_for (Some c.in-Of.client) (bank_of_client c.args.self.now.book.clients c.in-Of.client) c.in-Of.command) is takes
          (of-says c.args.session.now before (line_seen c.args.line.now) c.args.self.now c.in-Of.client c.in-Of.command is says))
          c.ask.ensures.taken;
    }

pub returns-in-Plain : goal.returns-in-Plain
returns-in-Plain c =
    let says : client_line_of c.args.session.now c.args.self.now.book.clients (line_seen c.args.line.now) ≡ Plain c.in-Plain.field-0 =
    ap (λ (clients : List Client). client_line_of c.args.session.now clients (line_seen c.args.line.now)) (sym c.named_clients.ensures.value) ∙ sym c.client_line_with.ensures.reads ∙ c.in-Plain.is in
    record {
      taken = λ before is. day-stray c.args.session.now before (line_seen c.args.line.now) c.args.self.now is (plain-stray c.args.session.now before (line_seen c.args.line.now) c.args.self.now c.in-Plain.field-0 is says);
    }
