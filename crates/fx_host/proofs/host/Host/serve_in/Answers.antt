use Rattle.std.proofs.Common.{◌<◌, sym, subst}
use Rattle.fx_rules.specs.Session.{bank_count}
use Rattle.pair_host.specs.Carries.{HasRoomFor}
use Rattle.fx_rules.proofs.Senders.{sent-by_bank}
use Rattle.pair_shards.specs.Shards.{PairState}
use Rattle.fx_host.proofs.Serving.{serves-submitted}
use Rattle.fx_host.proofs.host.Host.serve_in.Goals as goal

pub make_room-requires : goal.make_room-requires
make_room-requires g c = record {
  bank = subst (λ bank. bank < bank_count g.N.Naming.session) (sym c.bank.ensures.value)
      (sent-by_bank g.N.Naming.session c.args.pass.now.key _ c.args.command.now c.requires.command c.requires.pair);
}

pub serve_under-requires-clause-room : goal.serve_under-requires-clause-room
serve_under-requires-clause-room g c =
    subst (λ (shard : PairState). HasRoomFor shard.book c.args.pass.now.key c.args.command.now) (sym c.deref_mut-2.ensures.value)
    (subst (λ bank. HasRoomFor c.make_room.new.self.book bank c.args.command.now) c.bank.ensures.value c.in_ok-make_room.ensures.has_room)

pub returns-clause-submitted : goal.returns-clause-submitted
returns-clause-submitted g c = serves-submitted _ _ _ _ _ _ _ c.serve_under.ensures.served
