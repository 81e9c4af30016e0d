use Rattle.std.proofs.Common.{◌≡◌, length}
use Rattle.fx_rules.specs.Session.{bank_count}
use Rattle.credit_raise.specs.UnderWay.{HasBanks}
use Rattle.pair_host.specs.inside.Books.{PlansEach}
use Rattle.pair_host.proofs.every_pair.plan_turns.Given as goal

-- the pairs so far had their turns
abbrev pub invariant-loop-book : goal.invariant-loop-book
invariant-loop-book l = record {
  turns : length l.change.plans ≡ l.book-index;
  under_way : PlansEach l.books l.table l.fn.change l.change;
  command : l.change.command ≡ l.fn.change.command;
  sender : l.change.sender ≡ l.fn.change.sender;
  banks : HasBanks l.change.course (bank_count l.table.session);
}
