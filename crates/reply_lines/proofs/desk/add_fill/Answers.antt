-- The taker's bank gets its notice, and then the maker's.
use Rattle.std.proofs.Common.{arith}
use Rattle.reply_lines.specs.Notices.Notice.{Took, Gave}
use Rattle.reply_lines.proofs.Gathering.{got-both}
use Rattle.reply_lines.proofs.Outputs.{on_ok}
use Rattle.reply_lines.proofs.desk.add_fill.Goals as goal

pub returns : goal.returns
returns c =
    let f = c.args.fill.now in
    record {
      ok = on_ok c.fill-2.result
          (got-both c.args.session.now f.taker f.maker c.index.result c.index-2.result (Took f) (Gave f) c.args.desks.now.items c.index.ensures.value (omega (arith, c.requires.fill.taker, c.requires.banks)) c.index_mut.ensures.value c.in_ok-fill.ensures.ok
          c.index-2.ensures.value (omega (arith, c.requires.fill.maker, c.requires.banks)) c.index_mut-2.ensures.value)
          c.fill-2.ensures.ok;
    }
