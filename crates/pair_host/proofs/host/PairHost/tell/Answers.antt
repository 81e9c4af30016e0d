-- The table alone answers and follows.
use Rattle.std.proofs.Common.{◌≡◌, false, refl, ap, sym, subst}
use Rattle.fx_rules.specs.Step.{may_change}
use Rattle.fx_rules.specs.History.{state}
use Rattle.fx_rules.specs.Market.{GoesOn, InSome, MaySend}
use Rattle.credit_lines.proofs.NoPair.{no_pair}
use Rattle.fx_rules.specs.declared.sender.Sender.{Sender}
use Rattle.pair_host.specs.Standing.{HostState, stands}
use Rattle.pair_host.specs.inside.Books.{host_of}
use Rattle.pair_host.proofs.Sending.{may-send}
use Rattle.pair_host.proofs.Serving.{told-goes_on, table-next, table-follows}
use Rattle.pair_host.proofs.host.PairHost.tell.Goals as goal

pub follow-requires : goal.follow-requires
follow-requires c = record {
  next = table-next c.self.inside.books.items c.self.inside.table c.args.bank c.sender.result.number c.args.command.now c.answer.result
      (subst (λ (host : HostState). InSome (stands host) (MaySend c.args.bank c.args.command.now)) (sym c.self.view_is) c.requires.may_send)
      (ap (λ (s : Sender). s.number) c.sender.ensures.value)
      (λ h H legal stood. c.answer.ensures.answers h (state h H) stood.credit);
}

pub returns : goal.returns
returns c =
    let some : InSome (stands (host_of c.self.inside.books.items c.self.inside.table)) (MaySend c.args.bank c.args.command.now) =
    subst (λ (host : HostState). InSome (stands host) (MaySend c.args.bank c.args.command.now)) (sym c.self.view_is) c.requires.may_send in
    record {
      goes_on = subst (λ (host : HostState). GoesOn (stands host) (stands (host_of c.self.inside.books.items c.follow.new.self)) c.args.bank c.args.command.now c.answer.result) c.self.view_is
          (told-goes_on c.self.inside.books.items c.self.inside.table c.follow.new.self c.args.bank c.args.command.now c.answer.result
          (λ pair. no_pair (λ command. may_change pair command ≡ false) (λ bank. refl) (λ reason. refl) c.args.command.now c.requires.no_pair)
          (may-send (host_of c.self.inside.books.items c.self.inside.table) c.args.bank c.args.command.now some)
          (λ h H legal stood. c.answer.ensures.answers h (state h H) stood.credit)
          (table-follows c.self.inside.books.items c.self.inside.table c.follow.new.self c.args.bank c.sender.result.number c.args.command.now c.answer.result
          (ap (λ (s : Sender). s.number) c.sender.ensures.value) c.follow.ensures.follows));
    }
