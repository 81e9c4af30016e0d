-- The journal is read and served piece by piece.
use Rattle.std.proofs.Common.{◌≡◌, ◌+◌, ◌-◌, ◌∙◌, Bool, List, ap, arith, length, map, refl, subst, sym}
use Rattle.std.proofs.lemmas.Result.{err_from_is_err_and}
use Rattle.fx_rules.specs.Lists.{Each}
use Rattle.fx_rules.specs.declared.command.Sent.{Sent}
use Rattle.fx_rules.specs.Sending.{IsSentOf, sent_by}
use Rattle.journal_check.specs.inside.Pieces.{HasServedPiece}
use Rattle.journal_check.proofs.JournalLemmas.{commands_among-all}
use Rattle.journal_check.proofs.Pieces.{none_behind, piece_served, piece_stops}
use Rattle.journal_check.proofs.journal.read_entries.Goals as goal

pub loop-left-init : goal.loop-left-init
loop-left-init c = record {
  within = c.requires.within;
  behind = none_behind c.args.text.now c.args.counted.now.next c.new-lines.result c.new-lines.ensures.rest c.new-lines.ensures.len;
  read = record {
    entries = _;
    has_served = c.open-run.ensures.opens;
    lines_are = record { within = omega (arith, c.new-lines.ensures.len); are = c.new-lines.ensures.none };
    size = omega arith;
    reads = refl;
    is_kept = c.requires.none;
  };
  same = refl;
}

pub returns-in_err-at : goal.returns-in_err-at
returns-in_err-at c =
    let p = err_from_is_err_and c.from_residual-in_err-at.result c.from_residual-in_err-at.ensures.1 in
    let read = c.loop-left.invariant.read in
    let parts : c.loop-left.left ≡ c.min-count.result + (c.loop-left.left - c.min-count.result) = omega (arith, c.min-count.ensures) in
    record {
      run = rw (p.1, p.2) (piece_stops c.args.session.now c.args.kept.now.whole c.loop-left.kept c.args.text.now c.loop-left.at (map sent_by read.entries) c.loop-left.lines c.read_piece.new.lines c.read_piece.new.sent.items c.min-count.result c.loop-left.left _
          c.in_err-at.field-0.0 _ parts c.in_err-at.ensures.reads read.reads);
    }

pub serve_piece-requires : goal.serve_piece-requires
serve_piece-requires c =
    let read = c.loop-left.invariant.read in
    let piece = c.in_ok-at.ensures.reads in
    record {
      may_serve = record {
        entries = read.entries;
        has_served = read.has_served;
        valid = subst (Each (IsSentOf c.args.session.now)) (sym c.deref.ensures.value) piece.0.valid;
        few = omega (arith, read.size, ap length c.deref.ensures.value, piece.1, c.min-count.ensures, c.requires.few);
      };
    }

pub loop-left-preserved : goal.loop-left-preserved
loop-left-preserved c =
    let inv = c.loop-left.invariant in
    let piece = c.in_ok-at.ensures.reads in
    record {
      within = piece.0.within;
      behind = piece.0.behind;
      read = piece_served c.args.session.now c.args.text.now _ c.args.kept.now.whole c.loop-left.kept c.serve_piece.new.kept c.loop-left.run c.serve_piece.new.run c.loop-left.lines c.read_piece.new.lines c.args.counted.now.entries c.loop-left.left _ c.loop-left.at
          c.in_ok-at.at c.read_piece.new.sent.items inv.read piece.0
          (subst (λ (whole : Bool). HasServedPiece c.args.session.now whole c.loop-left.run c.loop-left.kept c.read_piece.new.sent.items c.serve_piece.new.run c.serve_piece.new.kept) inv.same
          (subst (λ (sent : List Sent). HasServedPiece c.args.session.now c.loop-left.kept.whole c.loop-left.run c.loop-left.kept sent c.serve_piece.new.run c.serve_piece.new.kept) c.deref.ensures.value c.in_ok-serve_piece.ensures.served))
          (omega (arith, piece.1, c.min-count.ensures));
      same = c.serve_piece.ensures.whole ∙ inv.same;
    }

pub returns : goal.returns
returns c =
    let read = c.loop-left.invariant.read in
    record {
      run = record {
        entries = read.entries;
        has_served = record { run = read.has_served; count = omega (arith, read.size, c.loop-left-test.false); lines = read.lines_are };
        is_kept = read.is_kept;
        in_order = read.reads ∙ commands_among-all c.args.session.now _ (map sent_by read.entries) c.loop-left.left _ (omega (arith, c.loop-left-test.false));
      };
    }
