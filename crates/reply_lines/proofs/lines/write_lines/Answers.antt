-- Each turn writes one line behind those so far.
use Rattle.std.proofs.Common.{◌∙◌, sym, subst}
use Rattle.fx_edges.specs.Gathered.{Kept}
use Rattle.fx_edges.proofs.Gathering.{Kept-append}
use Rattle.reply_lines.proofs.Items.{flat_more, at-place}
use Rattle.reply_lines.proofs.Outputs.{cut_at, of_text}
use Rattle.reply_lines.proofs.Parts.{rows-prefix}
use Rattle.reply_lines.proofs.lines.write_lines.Goals as goal

pub returns-in_err-put : goal.returns-in_err-put
returns-in_err-put g c = record {
  wrote = cut_at c.from_residual.result c.from_residual.ensures.1 c.loop-item.invariant.written
      (of_text (c.as_slice.ensures.bytes ∙ c.make_line.ensures.made) c.in_err-put.ensures.gathered)
      (rows-prefix (g.T.Print.text c.args.session.now) c.args.items.now c.loop-item.item-index c.item-item.result c.loop-item-test.true c.item-item.is);
}

pub loop-item-preserved : goal.loop-item-preserved
loop-item-preserved g c = record {
  written = subst (λ text. Kept g.K.Sink.written g.K.Sink.faults c.args.pieces.now c.args.out.now c.put.new.self c.put.new.out text)
      (sym (flat_more (g.T.Print.text c.args.session.now) c.args.items.now c.loop-item.item-index c.item-item.result c.loop-item-test.true c.item-item.is))
      (Kept-append c.loop-item.invariant.written (of_text (c.as_slice.ensures.bytes ∙ c.make_line.ensures.made) c.in_ok-put.ensures.gathered).ok);
  fit = (at-place (g.T.Print.fits c.args.session.now) c.args.items.now c.loop-item.item-index c.item-item.result c.loop-item-test.true c.item-item.is c.loop-item.invariant.fit).1;
}
