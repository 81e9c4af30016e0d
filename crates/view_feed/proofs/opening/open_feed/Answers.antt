use Rattle.std.proofs.Common.{◌≡◌, [], map, ap, subst, ◌∙◌}
use Rattle.std.proofs.Common.{drop as behind}
use Rattle.std.specs.Arc.{arc_value}
use Rattle.left_right.specs.Sides.{view}
use Rattle.fx_rules.specs.Lists.{Each}
use Rattle.fx_rules.specs.Session.{Header, IsSession}
use Rattle.view_feed.specs.Feeds.{Reading, Stretch, opened_reader}
use Rattle.view_feed.specs.inside.Rule.{knower}
use Rattle.view_feed.specs.inside.Shown.{Exhibit, added}
use Rattle.view_feed.proofs.Feeding.{at_ok, opened_feed}
use Rattle.view_feed.proofs.opening.open_feed.Goals as goal

pub invariant_of-feed : goal.invariant_of-feed
invariant_of-feed g c =
    let h = c.args.session.now in
    let tape = c.open-tape.result in
    let x = c.in_ok-copies.copies.desk.shown.value in
    let new = c.seat_all-copies.result.0 in
    let opens : c.in_ok-first.first ≡ record { session = h; entries = []; tape = tape.tape; marked = tape.entries } =
    c.in_ok-first.ensures.opens ∙ ap (λ (s : Stretch). record { session = h; entries = []; tape = s.tape; marked = s.entries }) c.front.ensures.same in
    let session : IsSession h = subst IsSession (ap (λ (s : Exhibit). s.session) c.first.view_is ∙ ap (λ (s : Exhibit). s.session) opens) c.first.invariant.legal.session in
    let none = at_ok _ _ _ c.in-Ok.is c.seat_all-copies.ensures.none in
    let knows = at_ok _ _ _ c.in-Ok.is c.seat_all-copies.ensures.knows in
    opened_feed h tape x new.desk.shown.value (view new.desk.place) (added (behind new.behind new.log.items)) (map arc_value c.new-in-Ok.result.items) session c.open-tape.ensures.empty
    (c.in_ok-copies.ensures.0 ∙ opens)
    (at_ok _ _ _ c.in-Ok.is c.seat_all-copies.ensures.shown)
    (ap added none)
    (ap (λ es. map arc_value es) c.new-in-Ok.ensures.items)
    (knows ∙ ap (λ (s : Stretch). knower x.session s.tape) c.front-3.ensures.same)

pub returns-in-Ok-clause-readers : goal.returns-in-Ok-clause-readers
returns-in-Ok-clause-readers g c =
    let h = c.args.session.now in
    let x = c.in_ok-copies.copies.desk.shown.value in
    let session : x.session ≡ h = ap (λ (s : Exhibit). s.session) (c.in_ok-copies.ensures.0 ∙ c.in_ok-first.ensures.opens) in
    let reader : opened_reader x.session c.front-3.result.tape ≡ opened_reader h c.open-tape.result.tape =
    ap (λ (k : Header). opened_reader k c.front-3.result.tape) session ∙ ap (λ (s : Stretch). opened_reader h s.tape) c.front-3.ensures.same in
    subst (λ (r : Reading). Each (λ reader. reader ≡ r) c.in-Ok.seated.items) reader (at_ok _ _ _ c.in-Ok.is c.seat_all-copies.ensures.readers)
