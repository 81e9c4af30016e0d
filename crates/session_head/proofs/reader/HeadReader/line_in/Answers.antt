use Rattle.fx_text.specs.Lines.{line_seen}
use Rattle.session_head.proofs.HeadLemmas.{read_head-push}
use Rattle.session_head.proofs.reader.HeadReader.line_in.Goals as goal

pub returns-in_err-step-clause-whole : goal.returns-in_err-step-clause-whole
returns-in_err-step-clause-whole c = λ lines is. read_head-push lines (line_seen c.args.line.now) c.args.self.now is

pub returns-clause-whole : goal.returns-clause-whole
returns-clause-whole c = λ lines is. read_head-push lines (line_seen c.args.line.now) c.args.self.now is
