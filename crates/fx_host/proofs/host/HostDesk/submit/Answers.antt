use Rattle.std.proofs.Common.{rules, ◌≡◌, false, None}
use Rattle.fx_rules.specs.Session.{IsSession}
use Rattle.fx_rules.specs.Sending.{pair_of}
use Rattle.credit_raise.specs.UnderWay.{is_change}
use Rattle.fx_host.proofs.Serving.{left-over}
use Rattle.fx_host.proofs.host.HostDesk.submit.Goals as goal

pub serve-requires-clause-no_pair : goal.serve-requires-clause-no_pair
serve-requires-clause-no_pair g c =
    let session : IsSession g.N.Naming.session = search rules in
    let none : pair_of c.args.command.now ≡ None = search rules in
    let stays : is_change c.args.command.now ≡ false = search rules in
    left-over g.N.Naming.session c.args.pass.now.key c.args.command.now session c.requires.command none stays
