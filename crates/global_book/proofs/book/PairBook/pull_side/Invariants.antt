use Rattle.std.proofs.Common.{◌≡◌, ◌+◌, ◌^◌, ◌↔◌, [], None, not, length}
use Rattle.std.specs.List.{filter}
use Rattle.std.specs.Option.{IfSome}
use Rattle.fx_amounts.specs.Side.{opposite}
use Rattle.fx_rules.specs.Sweep.{IsBest}
use Rattle.global_book.specs.Behind.{owned_behind}
use Rattle.global_book.specs.Book.{IsBook}
use Rattle.global_book.specs.Room.{KeepsRoom}
use Rattle.global_book.specs.inside.Owning.{is_own}
use Rattle.global_book.proofs.book.PairBook.pull_side.Given as goal

-- the bank's orders of the side are those counted and those that rest yet; the others are as they were
abbrev pub invariant-loop-next : goal.invariant-loop-next
invariant-loop-next l = record {
  none_next : (l.next ≡ None) ↔ (owned_behind l.side l.bank (2 ^ 64) None l.self.orders ≡ []);
  best_next : IfSome l.next (IsBest (opposite l.side) (owned_behind l.side l.bank (2 ^ 64) None l.self.orders));
  counted : l.count + length (filter (is_own l.bank l.side) l.self.orders) ≡ length (filter (is_own l.bank l.side) l.fn.self.orders);
  others : filter (λ order. not (is_own l.bank l.side order)) l.self.orders ≡ filter (λ order. not (is_own l.bank l.side order)) l.fn.self.orders;
  pair : l.self.pair ≡ l.fn.self.pair;
  banks : l.self.banks ≡ l.fn.self.banks;
  room : KeepsRoom l.fn.self.room l.self.room;
  was_valid : IsBook l.fn.self;
  valid : IsBook l.self;
}

abbrev pub decreases-loop-next : goal.decreases-loop-next
decreases-loop-next l = length (filter (is_own l.bank l.side) l.self.orders)
