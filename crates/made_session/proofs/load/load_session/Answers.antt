use Rattle.std.proofs.Common.{rules, ◌≡◌, [], length, ap, sym, subst, ◌∙◌}
use Rattle.fx_rules.specs.Lists.{Each}
use Rattle.fx_rules.specs.Sending.{IsSentOf}
use Rattle.fx_rules.specs.Session.{Header}
use Rattle.made_session.specs.Session.{made_header, made_limits}
use Rattle.made_session.proofs.SessionLemmas.{parts_are_session, built}
use Rattle.made_session.proofs.CommandLemmas.{counts_of, all_sent, all_count}
use Rattle.made_session.proofs.load.load_session.Goals as goal

pub unwrap-session-requires : goal.unwrap-session-requires
unwrap-session-requires c =
    let parts : Header = record { version = 1; banks = c.in_ok-names.names.items; pairs = c.in_ok-rules.rules.items; limits = c.in_ok-limits.limits.items; totals = [] } in
    let limits : c.in_ok-limits.limits.items ≡ (made_header c.args.seed c.args.banks c.args.pairs).limits =
    c.in_ok-limits.ensures.limits ∙ ap (made_limits c.args.banks) c.new-draws.ensures in
    let same : parts ≡ made_header c.args.seed c.args.banks c.args.pairs =
    λ i. record { version = 1; banks = c.in_ok-names.ensures i; pairs = c.in_ok-rules.ensures i; limits = limits i; totals = [] } in
    built c.build.result parts c.build.ensures.value
    (parts_are_session c.args.seed c.args.banks c.args.pairs parts c.requires.banks.0 c.requires.banks.1 c.requires.pairs.0 c.requires.pairs.1 same)

pub returns-clause-allowed : goal.returns-clause-allowed
returns-clause-allowed c =
    let is : c.unwrap-session.result ≡ made_header c.args.seed c.args.banks c.args.pairs = search rules in
    subst (Each (IsSentOf c.unwrap-session.result)) (sym c.in_ok-sent.ensures)
    (all_sent c.unwrap-session.result c.args.banks c.args.pairs c.args.commands c.draw_limits.new.draws
    (counts_of c.args.seed c.args.banks c.args.pairs c.unwrap-session.result c.requires.banks.0 c.requires.pairs.0 is))

pub returns-clause-count : goal.returns-clause-count
returns-clause-count c = ap length c.in_ok-sent.ensures ∙ all_count c.args.banks c.args.pairs c.args.commands c.draw_limits.new.draws
