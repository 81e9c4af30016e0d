use Rattle.fx_rules.proofs.SessionLemmas.{pair_text_by_letters}
use Rattle.fx_rules.proofs.session.PairRule.text.Goals as goal

pub returns : goal.returns
returns c = record {
  value = pair_text_by_letters c.args.self.now.base c.args.self.now.quote _ _ c.letters-base.ensures.valid c.letters-quote.ensures.valid c.letters-base.ensures.text c.letters-quote.ensures.text;
}
