use Rattle.std.proofs.Common.{rules, ◌≡◌, [], ◌∷◌, arith}
use Rattle.std.proofs.lemmas.List.{nil_from_length}
use Rattle.gateway_workers.proofs.TakingOut.{one-taken, all-taken}
use Rattle.gateway_workers.proofs.market.books_of.Goals as goal

pub loop-shard-preserved : goal.loop-shard-preserved
loop-shard-preserved g c =
    let left_is : c.loop-shard.shard-iterator.rest.items ≡ c.in-Some.shard ∷ c.next.new.self.rest.items = search rules in
    record {
      can = tt;
      ends = tt;
      count = search (rules, arith);
      taken = one-taken _ _ c.loop-shard.shard-iterator.rest.items c.next.new.self.rest.items c.in-Some.shard c.into_book.result c.loop-shard.books.items c.push.new.self.items c.loop-shard.invariant.taken left_is c.into_book.ensures.kept c.into_book.ensures.value
          (search (rules, arith)) c.in_ok-push.ensures.items;
    }

pub returns : goal.returns
returns g c =
    let none : c.loop-shard.shard-iterator.rest.items ≡ [] = nil_from_length _ (omega (arith, c.in-None.ensures.steps.0, c.loop-shard.shard-iterator.rest.ok)) in
    let all : c.into_iter-shard-iterator.result.rest.items ≡ c.args.shards.items = search rules in
    record { books = all-taken _ c.args.shards.items _ c.loop-shard.shard-iterator.rest.items c.loop-shard.books.items c.loop-shard.invariant.taken all c.loop-shard.invariant.count none }
