-- The books of a host's shards, taken out one after another.
use Rattle.std.proofs.Common.{ℕ, ◌≡◌, ◌+◌, ◌<◌, List, [], ◌∷◌, ◌++◌, length, get_or, Option, Some, IfSome, ap, sym, subst, ◌∙◌, arith}
use Rattle.fx_rules.specs.declared.outcome.Entry.{Entry}
use Rattle.fx_rules.specs.Lists.{Each}
use Rattle.fx_rules.specs.Session.{Header, pair_count}
use Rattle.fx_rules.specs.State.{orders_in}
use Rattle.fx_rules.specs.History.{state}
use Rattle.global_book.specs.Book.{Book}
use Rattle.pair_host.specs.Standing.{IsBookOf, AreBooksOf}
use Rattle.pair_host.proofs.Holding.{each-push}
use Rattle.pair_shards.specs.Shards.{PairState, IsShard}
use Rattle.fx_host.specs.Closing.{HasSeenAll, AreShardsOf}

-- the books of the first so many pairs, in the state after a history
abbrev pub AreFirstBooks : Header → List Entry → List Book → Type 0
AreFirstBooks h history books = (pair : ℕ) (none : Book) → pair < length books → IsBookOf h (state h history) pair (get_or books pair none)

-- of shards that have seen all of a history, some are left, and the books of the others are the first
abbrev pub AreTaken : Header → List PairState → List PairState → List Book → Type 0
AreTaken h shards left books = (history : List Entry) → Each (HasSeenAll h history) shards → Each (HasSeenAll h history) left × AreFirstBooks h history books

pub one-taken : (h : Header) (shards left rest : List PairState) (shard : PairState) (book : Book) (books more : List Book) → AreTaken h shards left books → left ≡ shard ∷ rest → IsShard h shard → book ≡ shard.book → shard.book.pair ≡ length books → more ≡ books ++ book ∷ [] → AreTaken h shards rest more
one-taken h shards left rest shard book books more taken left_is kept book_is place more_is = λ history each.
    let before = taken history each in
    let now : Each (HasSeenAll h history) (shard ∷ rest) = subst (Each (HasSeenAll h history)) left_is before.0 in
    let its : IsBookOf h (state h history) (length books) shard.book = record {
      made_of = place;
      made_for = kept.banks;
      orders = now.0.orders ∙ ap (λ p. orders_in p (state h history).orders) place;
    } in (
      now.1,
      subst (AreFirstBooks h history) (sym more_is)
          (each-push (λ (pair : ℕ) (b : Book). IsBookOf h (state h history) pair b) books book before.1 (subst (IsBookOf h (state h history) (length books)) (sym book_is) its)),
    )

pub all-taken : (h : Header) (shards all left : List PairState) (books : List Book) → AreTaken h all left books → all ≡ shards → length books + length left ≡ length all → left ≡ [] → (history : List Entry) → AreShardsOf h history shards → AreBooksOf h (state h history) books
all-taken h shards all left books taken all_is count none_left history are =
    let full : length books ≡ pair_count h = omega (arith, count, ap (λ (ss : List PairState). length ss) all_is, ap (λ (ss : List PairState). length ss) none_left, are.count) in
    record {
      count = full;
      each = λ pair none within. (taken history (subst (Each (HasSeenAll h history)) (sym all_is) are.each)).1 pair none (omega (arith, full, within));
    }

pub some_is : {T : Type 0} (P : T → Type 0) (found : Option T) (x : T) → found ≡ Some x → IfSome found P → P x
some_is P found x is holds = subst (λ (other : Option _). IfSome other P) is holds
