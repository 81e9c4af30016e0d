-- Each entry goes on the history of those before it.
use Rattle.std.proofs.Common.{ℕ, ◌≡◌, ◌+◌, ◌<◌, List, [], ◌∷◌, ◌++◌, sym, ap, subst, ◌∙◌, take, length, get_or}
use Rattle.std.proofs.lemmas.List.{take_more}
use Rattle.fx_rules.specs.declared.outcome.Entry.{Entry}
use Rattle.fx_rules.specs.Session.{Header}
use Rattle.fx_rules.specs.History.{IsLegal, state}
use Rattle.flat_host.specs.FlatState.{StandsFor}
use Rattle.flat_host.proofs.GoingOn.{legal_taken}
use Rattle.flat_host.proofs.recorded.replay.Goals as goal

taken : (entries : List Entry) (i : ℕ) (e : Entry) → i < length entries → e ≡ get_or entries i e → take (i + 1) entries ≡ take i entries ++ e ∷ []
taken entries i e within is = take_more entries i e within ∙ ap (λ (f : Entry). take i entries ++ f ∷ []) (sym is)

legal_to : (h : Header) (entries : List Entry) (i : ℕ) (e : Entry) → IsLegal h entries → i < length entries → e ≡ get_or entries i e → IsLegal h (take i entries ++ e ∷ [])
legal_to h entries i e legal within is = subst (IsLegal h) (taken entries i e within is) (legal_taken h entries (i + 1) legal)

pub follow-requires : goal.follow-requires
follow-requires c = record {
  next = (
    c.args.session.now,
    take c.loop-entry.entry-index c.args.entries.now,
    legal_to c.args.session.now c.args.entries.now c.loop-entry.entry-index c.entry-item.result c.requires.legal c.loop-entry-test.true c.entry-item.is,
    c.loop-entry.invariant,
  );
}

pub loop-entry-preserved : goal.loop-entry-preserved
loop-entry-preserved c =
    let h : Header = c.args.session.now in
    let entries : List Entry = c.args.entries.now in
    let i : ℕ = c.loop-entry.entry-index in
    let e : Entry = c.entry-item.result in
    subst (λ (H : List Entry). StandsFor h (state h H) c.follow.new.self) (sym (taken entries i e c.loop-entry-test.true c.entry-item.is))
    (c.in_ok-follow.ensures.follows h (take i entries) (legal_to h entries i e c.requires.legal c.loop-entry-test.true c.entry-item.is) c.loop-entry.invariant)
