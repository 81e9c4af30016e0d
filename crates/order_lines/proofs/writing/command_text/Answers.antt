use Rattle.order_lines.proofs.WrittenCommands.{IsWritten-command}
use Rattle.order_lines.proofs.writing.command_text.Goals as goal

pub returns-clause-fields : goal.returns-clause-fields
returns-clause-fields c = (IsWritten-command c.args.session.now c.args.sender c.args.command.now c.banks-banks.ensures.valid c.requires).fields

pub returns-clause-visible : goal.returns-clause-visible
returns-clause-visible c = (IsWritten-command c.args.session.now c.args.sender c.args.command.now c.banks-banks.ensures.valid c.requires).visible

pub returns-clause-whole : goal.returns-clause-whole
returns-clause-whole c = (IsWritten-command c.args.session.now c.args.sender c.args.command.now c.banks-banks.ensures.valid c.requires).whole

pub returns-clause-read_back : goal.returns-clause-read_back
returns-clause-read_back c = (IsWritten-command c.args.session.now c.args.sender c.args.command.now c.banks-banks.ensures.valid c.requires).read_back
