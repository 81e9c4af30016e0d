-- What a shard's type keeps: its book is the pair's in the state after the entries that its front has seen.
use Rattle.std.proofs.Common.{ℕ, ◌≡◌, ◌<◌, List, [], ◌∷◌, ◌++◌, Result, Ok, Err, IfOk, refl, ap, sym, subst, ◌∙◌}
use Rattle.fx_amounts.specs.declared.memory.Memory.{Memory}
use Rattle.fx_rules.specs.declared.command.Command.{Command}
use Rattle.fx_rules.specs.declared.orders.Fill.{Fill}
use Rattle.fx_rules.specs.declared.outcome.Outcome.{Outcome}
use Rattle.fx_rules.specs.declared.outcome.Entry.{Entry}
use Rattle.fx_rules.specs.Lists.{EachPair}
use Rattle.fx_rules.specs.Session.{Header, pair_count, weight_of}
use Rattle.fx_rules.specs.State.{State, opening, orders_in}
use Rattle.fx_rules.specs.Sweep.{filled_all}
use Rattle.fx_rules.specs.Step.{IsOutcome}
use Rattle.fx_rules.specs.History.{IsLegal, after_entry, state}
use Rattle.fx_rules.specs.Keyed.{pair_key, touches_key}
use Rattle.fx_rules.specs.Sound.{Rises}
use Rattle.fx_rules.proofs.Soundness.{legal-sound, after_all-push}
use Rattle.fx_rules.proofs.Continuing.{legal-last}
use Rattle.fx_chronicle.specs.Touching.{Untouched, but_last}
use Rattle.fx_chronicle.specs.Faces.{Witness, witness}
use Rattle.fx_chronicle.proofs.Pending.{but_last-push}
use Rattle.global_book.specs.Book.{Book}
use Rattle.credit_lines.specs.Credit.{Credit}
use Rattle.credit_lines.specs.Market.{StandsFor}
use Rattle.match_sweep.specs.Sweeps.{Fits}
use Rattle.fx_rules.specs.declared.sender.Sender.{Sender}
use Rattle.fx_rules.specs.Sending.{IsNextIn, entry_of}
use Rattle.pair_host.specs.Answers.{AnswersEach}
use Rattle.pair_host.specs.Carries.{FollowsOn, IsStepOf}
use Rattle.credit_book.specs.Recorded.{Recorded, IsCreditBook}
use Rattle.pair_shards.specs.Shards.{PairState, IsShard, AreOfLast}
use Rattle.pair_shards.proofs.Staying.{untouched-orders}

-- nothing that its front had not met is about its pair
missed_pair : (h : Header) (shard : PairState) (entries : List Entry) → IsShard h shard → Untouched touches_key shard.front.key shard.front.met entries → Untouched touches_key (pair_key shard.book.pair) shard.front.seen entries
missed_pair h shard entries kept missed =
    subst (λ k. Untouched touches_key k shard.front.seen entries) kept.key (subst (λ (met : List Entry). Untouched touches_key shard.front.key met entries) kept.met missed)

-- ---- caught up

pub caught_up : (h : Header) (shard : PairState) (credit now : Recorded) (front : Witness Entry) → IsShard h shard → now ≡ credit → IsCreditBook h now → Untouched touches_key shard.front.key shard.front.met credit.history.entries → front ≡ witness shard.front.key credit.history.entries → IsShard h (record { book = shard.book; front = front })
caught_up h shard credit now front kept same book missed front_is =
    let entries : List Entry = credit.history.entries in
    let legal : IsLegal h entries = subst (λ (b : Recorded). IsLegal h b.history.entries) same book.legal in
    subst (λ (w : Witness Entry). IsShard h (record { book = shard.book; front = w })) (sym front_is) (record {
      pair = kept.pair;
      banks = kept.banks;
      key = kept.key;
      legal = legal;
      orders = kept.orders ∙ sym (untouched-orders h shard.book.pair shard.front.seen entries kept.legal legal (missed_pair h shard entries kept missed));
      met = refl;
    })

-- ---- a command's answer

fits : (h : Header) (shard was : PairState) (credit : Recorded) (lines : Credit) (weight pair : ℕ) → shard ≡ was → IsShard h shard → was.front.seen ≡ credit.history.entries → IsCreditBook h credit → lines ≡ credit.table.lines → weight ≡ weight_of h pair → pair ≡ shard.book.pair
    → Fits h (state h credit.history.entries) shard.book lines weight
fits h shard was credit lines weight pair same kept seen book lines_are weighs pair_is = record {
  orders = kept.orders ∙ ap (λ (es : List Entry). orders_in shard.book.pair (state h es).orders) (ap (λ (s : PairState). s.front.seen) same ∙ seen);
  lines = subst (StandsFor h (state h credit.history.entries)) (sym lines_are) book.stands.lines;
  weighs = weighs ∙ ap (weight_of h) pair_is;
}

pub answers : (h : Header) (shard was : PairState) (credit : Recorded) (lines : Credit) (weight pair : ℕ) (sender : Sender) (command : Command) (r : Result Outcome Memory) → shard ≡ was → IsShard h shard → was.front.seen ≡ credit.history.entries → IsCreditBook h credit → lines ≡ credit.table.lines → weight ≡ weight_of h pair → pair ≡ shard.book.pair
    → IsNextIn (state h credit.history.entries) sender → IfOk r (AnswersEach shard.book lines weight sender command) → IfOk r (IsOutcome h (state h credit.history.entries) sender.bank command)
answers h shard was credit lines weight pair sender command (Ok outcome) same kept seen book lines_are weighs pair_is next each =
    each h (state h credit.history.entries) (legal-sound h credit.history.entries book.legal) (fits h shard was credit lines weight pair same kept seen book lines_are weighs pair_is) next
answers h shard was credit lines weight pair sender command (Err e) same kept seen book lines_are weighs pair_is next each = tt

-- ---- a command in the pair

-- the credit book's entries, once a key has signed, are a legal history
pub legal_entries : (h : Header) (credit new : Recorded) {pending : List ℕ} → new ≡ record credit { history = record credit.history { pending = pending } } → IsCreditBook h new → IsLegal h credit.history.entries
legal_entries h credit new new_is book = subst (IsLegal h) (ap (λ (b : Recorded). b.history.entries) new_is) book.legal

pub step_of : (h : Header) (shard was : PairState) (entries : List Entry) (sender : Sender) (command : Command) (outcome : Outcome) → shard ≡ was → IsShard h shard → IsLegal h entries → entries ≡ was.front.seen ++ entry_of sender command outcome ∷ [] → IsNextIn (state h was.front.seen) sender → IsStepOf h (state h shard.front.seen) shard.book sender command outcome
step_of h shard was entries sender command outcome same kept legal ends next =
    let seen_is : was.front.seen ≡ shard.front.seen = sym (ap (λ (s : PairState). s.front.seen) same) in
    let whole : entries ≡ shard.front.seen ++ entry_of sender command outcome ∷ [] = ends ∙ ap (λ (es : List Entry). es ++ entry_of sender command outcome ∷ []) seen_is in
    record {
      sound = legal-sound h shard.front.seen kept.legal;
      orders = kept.orders;
      next = subst (λ (es : List Entry). IsNextIn (state h es) sender) seen_is next;
      step = (legal-last h shard.front.seen (entry_of sender command outcome) (subst (IsLegal h) whole legal)).1;
    }

pub settled : (h : Header) (shard was : PairState) (entries : List Entry) (sender : Sender) (command : Command) (outcome : Outcome) (book : Book) (front : Witness Entry) → shard ≡ was → IsShard h shard → IsLegal h entries → entries ≡ was.front.seen ++ entry_of sender command outcome ∷ [] → IsNextIn (state h was.front.seen) sender
    → front ≡ witness shard.front.key entries → book.pair ≡ shard.book.pair → book.banks ≡ shard.book.banks → FollowsOn shard.book book sender command outcome → IsShard h (record { book = book; front = front })
settled h shard was entries sender command outcome book front same kept legal ends next front_is pair_is banks_are follows =
    let e : Entry = entry_of sender command outcome in
    let seen_is : was.front.seen ≡ shard.front.seen = sym (ap (λ (s : PairState). s.front.seen) same) in
    let whole : entries ≡ shard.front.seen ++ e ∷ [] = ends ∙ ap (λ (es : List Entry). es ++ e ∷ []) seen_is in
    let after : state h entries ≡ after_entry (state h shard.front.seen) e = ap (state h) whole ∙ after_all-push (opening h) shard.front.seen e in
    subst (λ (w : Witness Entry). IsShard h (record { book = book; front = w })) (sym front_is) (record {
      pair = subst (λ p. p < pair_count h) (sym pair_is) kept.pair;
      banks = banks_are ∙ kept.banks;
      key = kept.key ∙ ap pair_key (sym pair_is);
      legal = legal;
      orders = follows h (state h shard.front.seen) (step_of h shard was entries sender command outcome same kept legal ends next)
          ∙ ap (λ (S : State). orders_in book.pair S.orders) (sym after);
      met = refl;
    })

-- ---- a command over all pairs

-- what carrying these fills out does to a book, whatever state it is of
abbrev pub Carries : Book → Book → List Fill → Type 0
Carries old new fills =
    (S : State) → EachPair Rises S.orders → old.orders ≡ orders_in old.pair S.orders → new.orders ≡ orders_in old.pair (filled_all S fills).orders

pub carried : (h : Header) (shard was : PairState) (entries : List Entry) (fills : List Fill) (book : Book) (front : Witness Entry) → shard ≡ was → IsShard h shard → IsLegal h entries → AreOfLast h entries was.book.pair fills → Untouched touches_key shard.front.key shard.front.met (but_last entries)
    → front ≡ witness shard.front.key entries → book.pair ≡ shard.book.pair → book.banks ≡ shard.book.banks → Carries shard.book book fills → IsShard h (record { book = book; front = front })
carried h shard was entries fills book front same kept legal last_was missed front_is pair_is banks_are carries =
    let pair : ℕ = shard.book.pair in
    let last : AreOfLast h entries pair fills = subst (λ (s : PairState). AreOfLast h entries s.book.pair fills) (sym same) last_was in
    let before : List Entry = last.before in
    let front_before : but_last entries ≡ before = ap but_last last.ends ∙ but_last-push before last.last in
    let legal_before : IsLegal h before = (legal-last h before last.last (subst (IsLegal h) last.ends legal)).0 in
    let missed_before : Untouched touches_key (pair_key pair) shard.front.seen before =
    subst (Untouched touches_key (pair_key pair) shard.front.seen) front_before (missed_pair h shard (but_last entries) kept missed) in
    let orders_before : shard.book.orders ≡ orders_in pair (state h before).orders =
    kept.orders ∙ sym (untouched-orders h pair shard.front.seen before kept.legal legal_before missed_before) in
    let turn : State = last.makes.turn in
    let made : book.orders ≡ orders_in pair (filled_all turn fills).orders = carries turn last.makes.rising (orders_before ∙ sym last.makes.orders) in
    subst (λ (w : Witness Entry). IsShard h (record { book = book; front = w })) (sym front_is) (record {
      pair = subst (λ p. p < pair_count h) (sym pair_is) kept.pair;
      banks = banks_are ∙ kept.banks;
      key = kept.key ∙ ap pair_key (sym pair_is);
      legal = legal;
      orders = made ∙ last.makes.leaves ∙ ap (λ p. orders_in p (state h entries).orders) (sym pair_is);
      met = refl;
    })
