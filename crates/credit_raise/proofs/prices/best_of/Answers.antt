-- The best price of the least word's bank is the best of all.
use Rattle.credit_raise.proofs.Uncrossed.{best-of-all}
use Rattle.credit_raise.proofs.prices.best_of.Goals as goal

pub returns : goal.returns
returns g c = record {
  best = best-of-all c.args.side c.args.book.now.orders c.best_words-words.result.now c.least_of.result c.top_told.result c.best_words-words.ensures.words c.least_of.ensures.bank c.least_of.ensures.least
      (c.top_told.ensures.top c.args.book.now.orders c.best_words-words.ensures.words);
  step = c.best_words-words.ensures.step;
}
