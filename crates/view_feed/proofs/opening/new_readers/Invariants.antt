use Rattle.std.proofs.Common.{◌≡◌, length}
use Rattle.std.proofs.Common.{drop as behind}
use Rattle.left_right.specs.Sides.{view}
use Rattle.fx_rules.specs.Lists.{Each}
use Rattle.view_feed.specs.Feeds.{opened_reader}
use Rattle.view_feed.proofs.opening.new_readers.Given as goal

-- so many readers have a place
abbrev pub invariant-loop-seat : goal.invariant-loop-seat
invariant-loop-seat l = record {
  shown : l.copies.desk.shown ≡ l.initial.copies.desk.shown;
  queue : behind l.copies.behind l.copies.log.items ≡ behind l.initial.copies.behind l.initial.copies.log.items;
  knows : view l.copies.desk.place ≡ view l.initial.copies.desk.place;
  count : length l.seated.items ≡ l._seat;
  readers : Each (λ reader. reader ≡ opened_reader (view l.initial.copies.desk.place).session l.front.tape) l.seated.items;
}
