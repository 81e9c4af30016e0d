-- Each can be served once those before it were, and its entry is the next one that is kept.
use Rattle.std.proofs.Common.{◌∷◌, ◌++◌, ◌∙◌, Bool, List, [], ap, sym, subst}
use Rattle.fx_rules.specs.declared.outcome.Entry.{Entry}
use Rattle.fx_rules.specs.Sending.{sent_by}
use Rattle.market_run.specs.Running.{GoesOnBy}
use Rattle.pair_host.specs.Standing.{stands}
use Rattle.reply_lines.specs.Day.{AreNoticesOf}
use Rattle.journal_check.specs.inside.Stops.{IsKept}
use Rattle.journal_check.proofs.Pieces.{may_serve_next, more_served}
use Rattle.journal_check.proofs.piece.serve_piece.Goals as goal

pub serve_entry-requires : goal.serve_entry-requires
serve_entry-requires c = record {
  may_serve = may_serve_next c.args.session.now c.args.kept.now.whole c.args.run.now c.args.kept.now c.loop-next.run c.loop-next.kept c.args.sent.now c.loop-next.next-index c.next-item.result c.requires.may_serve c.loop-next.invariant.served
      c.loop-next-test.true c.next-item.is;
}

pub loop-next-preserved : goal.loop-next-preserved
loop-next-preserved c =
    let made = c.in_ok-entry.ensures.served in
    let inv = c.loop-next.invariant in
    record {
      whole = c.keep.ensures.whole ∙ inv.whole;
      served = more_served c.args.session.now c.args.kept.now.whole c.args.run.now c.args.kept.now c.loop-next.run c.serve_entry.new.self c.loop-next.kept c.keep.new.self c.args.sent.now c.loop-next.next-index c.next-item.result c.in_ok-entry.entry
          inv.served c.loop-next-test.true c.next-item.is (ap sent_by made.left_is ∙ made.sent_is)
          (subst (λ (e : Entry). GoesOnBy stands AreNoticesOf c.args.session.now c.loop-next.run c.serve_entry.new.self e) (sym made.left_is) made.goes_on)
          (subst (λ (whole : Bool). (entries : List Entry) → IsKept whole entries c.loop-next.kept → IsKept whole (entries ++ c.in_ok-entry.entry ∷ []) c.keep.new.self) inv.whole c.in_ok-keep.ensures.kept);
    }
