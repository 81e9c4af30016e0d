-- The market's local book is that of the state to which the history led.
use Rattle.std.proofs.Common.{subst}
use Rattle.fx_rules.specs.declared.outcome.Outcome.{Outcome}
use Rattle.fx_rules.specs.Market.{InEach, IsDepthOf}
use Rattle.reply_lines.proofs.Shown.{line_of}
use Rattle.reply_lines.proofs.Outputs.{on_ok}
use Rattle.reply_lines.proofs.books.make_book.Goals as goal

pub depth-requires : goal.depth-requires
depth-requires g c =
    let is = c.requires.market in
    record { may_ask = (c.args.session.now, is.entries, is.legal, is.at_the_end, record { viewer = c.requires.bank; within = c.requires.pair }) }

pub returns : goal.returns
returns g c = record {
  ok = on_ok c.end_row.result (λ ended books are.
      line_of c.args.session.now books c.args.bank c.args.pair c.in-Depth.bids c.in-Depth.asks c.as_slice.result.now c.as_slice-2.result.now
      c.name.result.now c.begin_word_row.new.line.items c.push_book.new.line.items c.end_row.new.line.items
      are c.requires.bank c.requires.pair
      (subst (λ (outcome : Outcome). InEach (g.M.Market.stands c.args.market.now) (IsDepthOf c.args.bank c.args.pair outcome)) c.in-Depth.is c.in_ok-bids.ensures.depth)
      c.as_slice.ensures.items c.as_slice-2.ensures.items c.name.ensures.value c.in_ok-begin_word_row.ensures.ok c.in_ok-push_book.ensures.ok ended)
      c.end_row.ensures.ok;
  memory = c.end_row.ensures.memory;
}
