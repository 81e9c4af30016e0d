-- The next entry goes on the legal history.
use Rattle.std.proofs.Common.{◌++◌, ◌∷◌, [], take, sym, subst}
use Rattle.fx_rules.specs.declared.outcome.Entry.{Entry}
use Rattle.fx_rules.specs.History.{IsLegal}
use Rattle.view_feed.specs.Feeds.{Feeding}
use Rattle.watched_run.proofs.Rounds.{legal-next}
use Rattle.watched_run.proofs.publishing.publish_piece.Goals as goal

pub append-requires : goal.append-requires
append-requires g c =
    let e : Entry = c.entry-item.result in
    let here : IsLegal c.args.feed.now.session ((c.args.feed.now.published ++ take c.loop-entry.entry-index c.args.piece.now) ++ e ∷ []) =
    legal-next c.args.feed.now.session c.args.feed.now.published c.args.piece.now c.loop-entry.entry-index e c.loop-entry-test.true c.entry-item.is c.requires.legal in
    record { legal = subst (λ (f : Feeding). IsLegal f.session (f.published ++ f.pending ++ e ∷ [])) (sym c.loop-entry.invariant) here }
