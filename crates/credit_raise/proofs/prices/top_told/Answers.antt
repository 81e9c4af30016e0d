-- The price that the word tells is the best price; a bank without a word has no orders.
use Rattle.std.proofs.Common.{arith, subst}
use Rattle.credit_raise.specs.inside.Prices.{IsTop}
use Rattle.credit_raise.proofs.Told.{told-top, untold-top}
use Rattle.credit_raise.proofs.prices.top_told.Goals as goal

pub returns : goal.returns
returns c = record {
  top = λ orders are.
      subst (λ n. IsTop n c.args.side orders c.price_at.result) c.index-at.ensures.value
      (told-top c.args.side c.index-at.result orders c.args.words.now c.price_at.result (omega (arith, c.if-at-ge-COUNT.false)) c.price_at.ensures.valid c.price_at.ensures.value are);
}

pub returns-then-at-ge-COUNT : goal.returns-then-at-ge-COUNT
returns-then-at-ge-COUNT c = record {
  top = λ orders are. untold-top c.args.side c.args.bank orders c.args.words.now (omega (arith, c.index-at.ensures.value, c.if-at-ge-COUNT.true)) are;
}
