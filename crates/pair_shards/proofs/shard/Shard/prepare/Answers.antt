use Rattle.std.proofs.Common.{◌<◌, sym, subst}
use Rattle.fx_rules.specs.Session.{bank_count}
use Rattle.fx_rules.proofs.Senders.{sent-by_bank}
use Rattle.pair_shards.proofs.Signing.{prepared}
use Rattle.pair_shards.proofs.shard.Shard.prepare.Goals as goal

pub answer-requires-clause-sender : goal.answer-requires-clause-sender
answer-requires-clause-sender g c =
    subst (λ sender. sender < bank_count g.N.Naming.session) (sym c.sender-sender.ensures.bank)
    (sent-by_bank g.N.Naming.session c.args.pass.now.key _ c.args.command.now c.requires.command c.requires.pair)

pub returns-clause-prepared : goal.returns-clause-prepared
returns-clause-prepared g c =
    prepared _ c.args.credit.now c.sender-sender.new.self c.sender-sender.result c.args.pass.now.key c.args.command.now c.in_ok-outcome.outcome c.in_ok-copy.field-0
    c.sender-sender.ensures.same c.sender-sender.ensures.kept c.sender-sender.ensures.next c.sender-sender.ensures.bank c.sender-sender.ensures.number
    c.requires.command c.in_ok-outcome.ensures.answers c.in_ok-copy.ensures.equal
