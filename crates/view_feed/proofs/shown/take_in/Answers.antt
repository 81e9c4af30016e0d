use Rattle.std.proofs.Common.{arith, sym, subst}
use Rattle.fx_rules.specs.Session.{Header}
use Rattle.fx_rules.specs.Step.{IsCommand}
use Rattle.view_feed.proofs.Taking.{taken, stays, not_taken, too_many}
use Rattle.view_feed.proofs.shown.take_in.Goals as goal

pub returns-then-not-is_command-clause-goes_on : goal.returns-then-not-is_command-clause-goes_on
returns-then-not-is_command-clause-goes_on c entries shown =
    let h = c.args.host.now.table.session in
    let e = c.args.entry.now in
    stays h entries e c.args.host.now shown
    (not_taken h entries e (λ may. grind (arith, c.is_command.ensures.value.1 (subst (λ (k : Header). IsCommand k e.bank e.command) (sym c.session.ensures.value) may), c.if-not-is_command.true)))

pub returns-then-count-clause-goes_on : goal.returns-then-count-clause-goes_on
returns-then-count-clause-goes_on c entries shown =
    let h = c.args.host.now.table.session in
    stays h entries c.args.entry.now c.args.host.now shown
    (too_many h entries c.args.entry.now c.args.host.now c.count.result shown c.count.ensures.count (grind (arith, c.if-count.true)))

pub returns-clause-goes_on : goal.returns-clause-goes_on
returns-clause-goes_on c entries shown = taken c.args.host.now.table.session entries c.args.entry.now c.args.host.now c.apply.new.self _ shown c.in_ok-_outcome.ensures.goes_on
