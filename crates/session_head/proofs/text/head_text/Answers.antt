use Rattle.session_head.proofs.RoundLemmas.{head_text-whole, head_text-read}
use Rattle.session_head.proofs.text.head_text.Goals as goal

pub returns-clause-whole : goal.returns-clause-whole
returns-clause-whole c = head_text-whole c.args.session.now c.append_head.ensures.valid

pub returns-clause-read_back : goal.returns-clause-read_back
returns-clause-read_back c = head_text-read c.args.session.now c.append_head.ensures.valid
