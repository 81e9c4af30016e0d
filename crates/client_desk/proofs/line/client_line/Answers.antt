use Rattle.std.proofs.Common.{◌<◌, inl, sym, subst}
use Rattle.fx_rules.proofs.Senders.{bank-sender}
use Rattle.fx_rules.specs.Session.{bank_count}
use Rattle.fx_rules.specs.Step.{IsCommand}
use Rattle.client_desk.proofs.Naming.{client-within}
use Rattle.client_desk.proofs.line.client_line.Goals as goal

pub returns-in-Some-clause-range : goal.returns-in-Some-clause-range
returns-in-Some-clause-range c =
    subst (λ b. IsCommand c.args.session.now b c.command_by.result) c.bank_of-bank.ensures.value
    (c.command_by.ensures.range
    (inl (subst (λ b. b < bank_count c.args.session.now) (sym c.bank_of-bank.ensures.value)
    (client-within c.args.session.now c.args.clients.now c.in-Some.client c.requires.clients.banks c.in-Some.ensures.within))))

pub returns-in-Some-client_named-clause-range : goal.returns-in-Some-client_named-clause-range
returns-in-Some-client_named-clause-range c = record {
  sends = bank-sender c.args.session.now _
      (client-within c.args.session.now c.args.clients.now c.in-Some-client_named.client c.requires.clients.banks c.in-Some-client_named.ensures.within);
  values = tt;
}
