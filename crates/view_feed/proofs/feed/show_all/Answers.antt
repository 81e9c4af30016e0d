-- The mark waits behind all other operations, so what is shown then has all of the tape.
use Rattle.std.proofs.Common.{◌≡◌, ◌++◌, ◌∷◌, [], List, fold, append-nil, ap, rules, sym, subst, ◌∙◌}
use Rattle.std.proofs.Common.{drop as behind}
use Rattle.left_right.specs.Sides.{view}
use Rattle.fx_rules.specs.declared.outcome.Entry.{Entry}
use Rattle.view_feed.specs.declared.operation.Operation.TheVariants.{Mark}
use Rattle.view_feed.specs.Feeds.{Stretch}
use Rattle.view_feed.specs.inside.Shown.{Exhibit, IsOf, added, with_operation}
use Rattle.view_feed.specs.inside.Faces.{IsFeed}
use Rattle.view_feed.specs.inside.Rule.{knower}
use Rattle.view_feed.proofs.Feeding.{ready, is_marked, published, marked, unmarked, on_err}
use Rattle.view_feed.proofs.feed.show_all.Goals as goal

pub replace_with-requires : goal.replace_with-requires
replace_with-requires g c =
    let old = c.args.copies.now in
    let mid = c.queue.new.copies in
    let ops = behind old.behind old.log.items in
    let more = behind mid.behind mid.log.items in
    let marks : more ≡ ops ++ Mark c.args.all.now ∷ [] = c.in_ok-queue.ensures.queued ∙ ap (λ (a : Stretch). ops ++ Mark a ∷ []) c.again.ensures.same in
    subst (λ (z : Exhibit). IsOf z.session z.tape (fold with_operation z more)) (sym (ap (λ d. d.shown.value) c.queue.ensures.desk))
    (ready old.desk.shown.value (view old.desk.place) ops more c.args.all.now c.requires.feed marks)

pub returns : goal.returns
returns g c =
    let old = c.args.copies.now in
    let mid = c.queue.new.copies in
    let new = c.replace_with.new.dest in
    let x = old.desk.shown.value in
    let ops = behind old.behind old.log.items in
    let more = behind mid.behind mid.log.items in
    let all = c.args.all.now in
    let marks : more ≡ ops ++ Mark all ∷ [] = c.in_ok-queue.ensures.queued ∙ ap (λ (a : Stretch). ops ++ Mark a ∷ []) c.again.ensures.same in
    let same : mid.desk.shown.value ≡ x = ap (λ d. d.shown.value) c.queue.ensures.desk in
    let made = is_marked x new.desk.shown.value ops more all marks (c.in_ok-replace_with.ensures.0 ∙ ap (λ (z : Exhibit). fold with_operation z more) same) in
    let knows : view new.desk.place ≡ knower x.session x.tape = c.in_ok-replace_with.ensures.1.1.0 ∙ ap (λ (z : Exhibit). knower z.session z.tape) same in
    let none : added (behind new.behind new.log.items) ≡ [] = ap added c.in_ok-replace_with.ensures.1.0 in
    record {
      feed = subst (λ (es : List Entry). IsFeed new.desk.shown.value (view new.desk.place) es all []) (sym none) (published x new.desk.shown.value (view old.desk.place) (view new.desk.place) ops all c.requires.feed made knows);
      session = ap (λ (z : Exhibit). z.session) made;
      shown = ap (λ (z : Exhibit). z.entries) made;
      none = none;
      all = sym (append-nil all.entries) ∙ c.requires.feed.told ∙ sym (ap (λ (z : Exhibit). z.entries) made);
      memory = tt;
    }

pub returns-in_err-replace_with : goal.returns-in_err-replace_with
returns-in_err-replace_with g c =
    let old = c.args.copies.now in
    let mid = c.queue.new.copies in
    let new = c.replace_with.new.dest in
    let ops = behind old.behind old.log.items in
    let more = behind mid.behind mid.log.items in
    let all = c.args.all.now in
    let marks : more ≡ ops ++ Mark all ∷ [] = c.in_ok-queue.ensures.queued ∙ ap (λ (a : Stretch). ops ++ Mark a ∷ []) c.again.ensures.same in
    let stays : new.desk.shown.value ≡ old.desk.shown.value = c.in_err-replace_with.ensures.1.1.1.0 ∙ ap (λ d. d.shown.value) c.queue.ensures.desk in
    let waits : added (behind new.behind new.log.items) ≡ added ops = ap added c.in_err-replace_with.ensures.1.1.1.1 ∙ marked ops more all marks in
    let both : (new.desk.shown.value.entries ≡ old.desk.shown.value.entries) × (added (behind new.behind new.log.items) ≡ added ops) = (ap (λ (z : Exhibit). z.entries) stays, waits) in
    record {
      feed =
          unmarked old.desk.shown.value new.desk.shown.value (view old.desk.place) (view new.desk.place) (added ops) (added (behind new.behind new.log.items)) all c.requires.feed stays
          (c.in_err-replace_with.ensures.1.1.1.2 ∙ ap (λ d. view d.place) c.queue.ensures.desk) waits;
      session = ap (λ (z : Exhibit). z.session) stays;
      shown = search rules;
      none = search rules;
      all = search rules;
      memory = on_err _ _ both;
    }
