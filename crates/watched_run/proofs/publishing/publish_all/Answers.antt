-- The next piece goes on the legal history.
use Rattle.std.proofs.Common.{◌++◌, sym, subst}
use Rattle.std.specs.Slice.Iter.{chunks_rest}
use Rattle.fx_rules.specs.Session.{Header}
use Rattle.fx_rules.specs.History.{IsLegal}
use Rattle.watched_run.proofs.Rounds.{legal-part}
use Rattle.watched_run.proofs.publishing.publish_all.Goals as goal

pub publish_piece-requires-clause-legal : goal.publish_piece-requires-clause-legal
publish_piece-requires-clause-legal g c =
    let i = c.loop-piece.invariant in
    subst (λ (h : Header). IsLegal h (c.loop-piece.feed.published ++ c.in-Some.piece.now)) (sym i.session)
    (legal-part c.args.feed.now.session c.loop-piece.feed.published c.in-Some.piece.now (chunks_rest c.next.new.self) (chunks_rest c.loop-piece.piece-iterator) c.args.feed.now.published c.args.entries.now
    i.published c.in-Some.ensures.steps.1.0 c.requires.legal)
