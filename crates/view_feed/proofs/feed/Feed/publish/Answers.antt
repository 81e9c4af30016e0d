use Rattle.std.proofs.Common.{◌≡◌, map, length, arith, ap}
use Rattle.std.proofs.Common.{drop as behind}
use Rattle.std.proofs.lemmas.List.{length-map}
use Rattle.std.specs.Arc.{arc_value}
use Rattle.left_right.specs.Sides.{view}
use Rattle.view_feed.specs.inside.Shown.{added}
use Rattle.view_feed.proofs.Feeding.{room}
use Rattle.view_feed.proofs.feed.Feed.publish.Goals as goal

pub add_all-requires : goal.add_all-requires
add_all-requires g c =
    let f = c.self.inside in
    let most = room f.copies.desk.shown.value (view f.copies.desk.place) (added (behind f.copies.behind f.copies.log.items)) (map arc_value f.waiting.items) f.tape c.self.invariant in
    let same : length (map arc_value f.waiting.items) ≡ length f.waiting.items = length-map f.waiting.items arc_value in
    record { room = omega (arith, most, same, ap length c.deref.ensures.value) }
