use Rattle.kept_call.proofs.Commands.{commands-of}
use Rattle.kept_call.proofs.run.round.round_of.Goals as goal

pub push_lines-requires : goal.push_lines-requires
push_lines-requires c = record { commands = commands-of c.args.session.now c.requires.next.0 c.args.entries.now c.requires.next.1 }
