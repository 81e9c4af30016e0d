-- Each line that is read stands behind those before it.
use Rattle.std.proofs.Common.{◌+◌, ◌++◌, ◌∷◌, [], ◌∙◌, ap, arith, length}
use Rattle.std.proofs.lemmas.List.{length_push}
use Rattle.journal_check.proofs.Pieces.{more_read, none_read, sent_stops, stands_next}
use Rattle.journal_check.proofs.piece.read_piece.Goals as goal

pub loop-line-init : goal.loop-line-init
loop-line-init c = record {
  few = omega arith;
  size = ap length c.clear.ensures.items;
  read = none_read c.args.session.now c.args.text.now c.args.from c.args.lines.now c.clear.new.self.items c.clear.ensures.items c.requires.within c.requires.behind;
}

pub returns-in-Err : goal.returns-in-Err
returns-in-Err c =
    let inv = c.loop-line.invariant in
    record {
      reads = sent_stops c.args.session.now c.args.text.now c.args.from c.loop-line.at c.args.count c.args.lines.now c.loop-line.lines c.loop-line.lines c.loop-line.sent.items c.loop-line.sent.items c.in-Err.stop inv.read (omega (arith, inv.size, c.loop-line-test.true))
          c.in-Err.ensures.reads;
    }

pub add-requires : goal.add-requires
add-requires c =
    let read = c.loop-line.invariant.read in
    record {
      sent = c.in-Ok.ensures.valid;
      stands = stands_next c.args.text.now c.loop-line.at c.loop-line.lines c.in-Ok.read read.within read.behind c.in-Ok.ensures.reads.there;
      spelled = c.in-Ok.ensures.reads.spelled;
    }

pub loop-line-preserved : goal.loop-line-preserved
loop-line-preserved c =
    let inv = c.loop-line.invariant in
    record {
      few = omega (arith, c.loop-line-test.true);
      size = ap length (c.push_reserved.ensures.items ∙ ap (λ xs. xs ++ c.in-Ok.read.sent ∷ []) c.reserve.ensures.items) ∙ length_push c.loop-line.sent.items c.in-Ok.read.sent ∙ ap (λ n. n + 1) inv.size;
      read = more_read c.args.session.now c.args.text.now c.args.from c.loop-line.at c.args.lines.now c.loop-line.lines c.add.new.self c.loop-line.sent.items _ c.in-Ok.read inv.read c.in-Ok.ensures.reads c.in-Ok.ensures.valid
          (c.push_reserved.ensures.items ∙ ap (λ xs. xs ++ c.in-Ok.read.sent ∷ []) c.reserve.ensures.items) c.add.ensures.rest c.in_ok-add.ensures.len c.in_ok-add.ensures.lines;
    }
