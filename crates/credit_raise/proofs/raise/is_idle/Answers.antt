-- A line that does not pay for a lot makes nothing, and no more do two banks whose best prices do not cross.
use Rattle.std.proofs.Common.{[], arith, sym, ◌∙◌}
use Rattle.fx_rules.proofs.Planning.{div_none}
use Rattle.credit_raise.specs.inside.Two.{turns}
use Rattle.credit_raise.proofs.Idle.{not_true, unmet-played}
use Rattle.credit_raise.proofs.Quiet.{unpaid-plays}
use Rattle.credit_raise.proofs.raise.is_idle.Goals as goal

pub returns-then-get-from-clause-none : goal.returns-then-get-from-clause-none
returns-then-get-from-clause-none g c is =
    unpaid-plays c.args.book.now.pair c.args.weight c.args.i c.args.j c.args.eff [] (turns c.args.i c.args.j c.args.book.now.orders)
    (div_none c.args.eff c.args.weight (omega (arith, c.if-get-from.true, c.get.ensures.value, c.from.ensures)))

pub returns-clause-none : goal.returns-clause-none
returns-clause-none g c is =
    unmet-played c.args.book.now.pair c.args.weight c.args.i c.args.j c.args.eff c.args.book.now.orders c.best_words-buys.result.now c.best_words-sells.result.now
    c.requires.differ c.best_words-buys.ensures.valid.rising c.best_words-buys.ensures.words c.best_words-sells.ensures.words
    (sym c.words_meet.ensures ∙ not_true c.words_meet.result is)
