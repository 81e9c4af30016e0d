-- What may be sent in a state to which a legal history led, the host can carry out.
use Rattle.flat_host.proofs.GoingOn.{MayApply, may-apply}
use Rattle.flat_host.proofs.as_market.FlatHostMarket.apply.Goals as goal

pub apply-requires : goal.apply-requires
apply-requires c =
    let may : MayApply c.args.self.now c.args.bank c.args.command.now = may-apply c.args.self.now c.args.bank c.args.command.now c.requires.may_send in
    record { count = may.count; command = may.of }
