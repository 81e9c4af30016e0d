use Rattle.std.proofs.Common.{sym, ◌∙◌}
use Rattle.client_desk.proofs.Naming.{new-client}
use Rattle.client_desk.proofs.line.declaration.Goals as goal

pub returns-in-Some-clause-declares : goal.returns-in-Some-clause-declares
returns-in-Some-clause-declares c =
    new-client c.args.session.now c.args.clients.now c.in-Some.client c.requires.clients c.in-Some.ensures.bank (sym c.is_new.ensures.value ∙ c.if-is_new.true)
