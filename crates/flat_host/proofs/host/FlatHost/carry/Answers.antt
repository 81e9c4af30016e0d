-- There are as many banks behind the fills as before them.
use Rattle.std.proofs.Common.{ap, ◌∙◌}
use Rattle.flat_host.specs.FlatState.{FlatCredit, FlatState}
use Rattle.flat_host.proofs.Carrying.{banks-credit_after}
use Rattle.flat_host.proofs.host.FlatHost.carry.Goals as goal

pub returns-in-Some-clause-banks : goal.returns-in-Some-clause-banks
returns-in-Some-clause-banks c =
    ap (λ (k : FlatCredit). k.banks) c.make_fills.ensures.credit ∙ banks-credit_after _ c.self.inside.credit c.args.fills.now
    ∙ ap (λ (l : FlatState). l.credit.banks) c.self.view_is

pub returns-in_default-clause-banks : goal.returns-in_default-clause-banks
returns-in_default-clause-banks c =
    ap (λ (k : FlatCredit). k.banks) c.make_fills.ensures.credit ∙ banks-credit_after _ c.self.inside.credit c.args.fills.now
    ∙ ap (λ (l : FlatState). l.credit.banks) c.self.view_is
