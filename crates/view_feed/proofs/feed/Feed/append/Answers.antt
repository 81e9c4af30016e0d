use Rattle.std.proofs.Common.{◌≡◌, ◌++◌, ◌∷◌, [], map, ap, sym, subst, ◌∙◌}
use Rattle.std.proofs.Common.{drop as behind}
use Rattle.std.specs.Arc.{arc_value}
use Rattle.left_right.specs.Sides.{view}
use Rattle.fx_rules.specs.History.{IsLegal}
use Rattle.view_feed.specs.Feeds.{Feeding}
use Rattle.view_feed.specs.inside.Shown.{added}
use Rattle.view_feed.proofs.Feeding.{appended, added_one, waits_one, same_feeding}
use Rattle.view_feed.proofs.feed.Feed.append.Goals as goal

pub invariant_of-self-2 : goal.invariant_of-self-2
invariant_of-self-2 c =
    let f = c.self.inside in
    let new = c.queue.new.copies in
    let e = c.args.entry.now in
    let ops = behind f.copies.behind f.copies.log.items in
    let desk = c.queue.ensures.desk in
    let kept_is : arc_value c.in_ok-kept.kept ≡ e = c.in_ok-kept.ensures.ok ∙ c.in_ok-copy_of.ensures.copy in
    let shared_is : arc_value c.in_ok-shared.shared ≡ e = c.in_ok-shared.ensures ∙ kept_is in
    appended f.copies.desk.shown.value new.desk.shown.value (view f.copies.desk.place) (view new.desk.place) (added ops) (added (behind new.behind new.log.items))
    (map arc_value f.waiting.items) (map arc_value c.push_reserved.new.self.items) f.tape e c.self.invariant
    (subst (λ (F : Feeding). IsLegal F.session (F.published ++ F.pending ++ e ∷ [])) (sym c.self.view_is) c.requires.legal)
    (ap (λ d. d.shown.value) desk) (ap (λ d. view d.place) desk)
    (ap added c.in_ok-queue.ensures.queued ∙ added_one ops c.in_ok-shared.shared e shared_is)
    (ap (λ es. map arc_value es) (c.push_reserved.ensures.items ∙ ap (λ es. es ++ c.in_ok-kept.kept ∷ []) c.in_ok-reserve.ensures.items) ∙ waits_one f.waiting.items c.in_ok-kept.kept e kept_is)

pub returns-clause-appended : goal.returns-clause-appended
returns-clause-appended c =
    let f = c.self.inside in
    let new = c.queue.new.copies in
    let e = c.args.entry.now in
    let ops = behind f.copies.behind f.copies.log.items in
    let shared_is : arc_value c.in_ok-shared.shared ≡ e = c.in_ok-shared.ensures ∙ (c.in_ok-kept.ensures.ok ∙ c.in_ok-copy_of.ensures.copy) in
    same_feeding f.copies.desk.shown.value new.desk.shown.value f.tape.tape f.readers (added ops ++ e ∷ []) (added (behind new.behind new.log.items))
    (ap (λ d. d.shown.value) c.queue.ensures.desk)
    (ap added c.in_ok-queue.ensures.queued ∙ added_one ops c.in_ok-shared.shared e shared_is)
    ∙ ap (λ (F : Feeding). record { session = F.session; tape = F.tape; readers = F.readers; published = F.published; pending = F.pending ++ e ∷ [] }) c.self.view_is
