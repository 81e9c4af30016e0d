-- A command over all pairs: its entry has to be signed by each pair, and a pair's part of it leads the pair to the state behind it.
use Rattle.std.proofs.Common.{ℕ, ◌≡◌, ◌≢◌, ◌+◌, ◌-◌, ◌≤◌, ◌<◌, true, false, List, [], ◌∷◌, ◌++◌, refl, ap, sym, subst, ◌∙◌, arith}
use Rattle.std.specs.Prelude.{nat_le}
use Rattle.std.proofs.lemmas.Bool.{le-leb}
use mathlib.Core.Logic.{dite}
use native.Mathlib.Decide.{ℕ_discrete, dec_lt}
use borrow.Author.Tests.{lt-leb}
use Rattle.fx_rules.specs.declared.command.Command.{Command}
use Rattle.fx_rules.specs.declared.command.Command.TheVariants.{Order, Cancel, Reduce, Pull, Line, Total, Settle, Show, Book, Bad}
use Rattle.fx_rules.specs.declared.orders.Fill.{Fill}
use Rattle.fx_rules.specs.declared.outcome.Outcome.{Outcome}
use Rattle.fx_rules.specs.declared.outcome.Entry.{Entry}
use Rattle.fx_rules.specs.Session.{Header, pair_count}
use Rattle.fx_rules.specs.State.{State, opening, orders_in}
use Rattle.fx_rules.specs.Step.{after}
use Rattle.fx_rules.specs.History.{after_entry, state}
use Rattle.fx_rules.specs.Keyed.{pair_key, is_about, touches_key}
use Rattle.fx_rules.proofs.Soundness.{after_all-push}
use Rattle.fx_rules.proofs.KeyedLemmas.{touches-pair, touches-other}
use Rattle.fx_chronicle.specs.Touching.{touched, pends, without}
use Rattle.fx_chronicle.proofs.Pending.{nothing_pends, pends-touched, pends-touched_above, pends-without, pends-without_same}
use Rattle.credit_raise.specs.UnderWay.{Change, IsUnderWay, Makes, is_change, outcome_of, reached}
use Rattle.credit_raise.proofs.Changes.{reached-orders}
use Rattle.credit_book.specs.Recorded.{Recorded, key_count, recorded, signed_by}
use Rattle.pair_shards.specs.Shards.{AreOfLast}
use Rattle.pair_shards.specs.inside.Shards.{PairsPend}

-- ---- which keys have still to sign

-- a credit change is about the keys of the pairs, and no others
change_is_about : (command : Command) (key : ℕ) → is_change command ≡ true → is_about command key ≡ nat_le 65 key
change_is_about (Line other asked) key is = refl
change_is_about (Order side pair price lots life) key is = cc
change_is_about (Cancel pair number) key is = cc
change_is_about (Reduce pair number lots) key is = cc
change_is_about (Pull pair) key is = cc
change_is_about (Total limit) key is = cc
change_is_about (Settle a b units) key is = cc
change_is_about (Show other) key is = cc
change_is_about (Book pair) key is = cc
change_is_about (Bad reason) key is = cc

about_pairs : (command : Command) (pair : ℕ) → is_change command ≡ true → is_about command (pair_key pair) ≡ true
about_pairs command pair is = change_is_about command (pair_key pair) is ∙ le-leb (pair_key 0) (pair_key pair) (omega arith)

about_no_more : (command : Command) (key : ℕ) → is_change command ≡ true → key < 65 → is_about command key ≡ false
about_no_more command key is below = change_is_about command key is ∙ lt-leb 65 key below

-- once its sender has signed, all pairs have to
pub change_pends : (h : Header) (credit new : Recorded) (entry : Entry) (pass_key : ℕ) → credit.history.keys ≡ key_count h → entry.bank ≡ pass_key → entry.bank < 65 → is_change entry.command ≡ true → new ≡ signed_by pass_key (recorded credit entry) → PairsPend h 0 new.history.pending
change_pends h credit new entry pass_key count bank_is bank changes new_is = record {
  these = λ pair from below.
      let key : ℕ = pair_key pair in
      let apart : key ≢ pass_key = λ same. omega (arith, same, bank_is, bank) in
      let dealt : key < key_count h = omega (arith, below) in
      whole key ∙ pends-without pass_key key (touched touches_key entry (key_count h)) apart
      ∙ pends-touched touches_key entry (key_count h) key dealt
      ∙ touches-pair entry pair (about_pairs entry.command pair changes);
  no_others = λ key others. whole key ∙ none key others (ℕ_discrete key pass_key) (dec_lt key (key_count h)) (dec_lt key 65);
}
  where
    whole : (key : ℕ) → pends new.history.pending key ≡ pends (without pass_key (touched touches_key entry (key_count h))) key
    whole key = ap (λ (b : Recorded). pends b.history.pending key) new_is ∙ ap (λ n. pends (without pass_key (touched touches_key entry n)) key) count

    none : (key : ℕ) → ((pair : ℕ) → 0 ≤ pair → pair < pair_count h → key ≢ pair_key pair) → Dec (key ≡ pass_key) → Dec (key < key_count h) → Dec (key < 65) → pends (without pass_key (touched touches_key entry (key_count h))) key ≡ false
    none key others (yes same) d e = subst (λ k. pends (without pass_key (touched touches_key entry (key_count h))) k ≡ false) (sym same) (pends-without_same pass_key (touched touches_key entry (key_count h)))
    none key others (no apart) (no above) e = pends-without pass_key key (touched touches_key entry (key_count h)) apart ∙ pends-touched_above touches_key entry (key_count h) key (omega arith)
    none key others (no apart) (yes dealt) (no pair) = absurd (others (key - 65) (omega arith) (omega arith) (omega arith))
    none key others (no apart) (yes dealt) (yes low) = pends-without pass_key key (touched touches_key entry (key_count h)) apart
        ∙ pends-touched touches_key entry (key_count h) key dealt
        ∙ touches-other entry key (λ same. apart (same ∙ bank_is)) (about_no_more entry.command key changes low)

-- once the next pair has signed, those behind it have to
pub pair_signs : (h : Header) (pair : ℕ) (pending : List ℕ) → PairsPend h pair pending → PairsPend h (pair + 1) (without (pair_key pair) pending)
pair_signs h pair pending pend = record {
  these = λ later from below. pends-without (pair_key pair) (pair_key later) pending (λ same. omega (arith, same, from)) ∙ pend.these later (omega arith) below;
  no_others = λ key others. none key others (ℕ_discrete key (pair_key pair));
}
  where
    behind : (key : ℕ) → ((later : ℕ) → pair + 1 ≤ later → later < pair_count h → key ≢ pair_key later) → key ≢ pair_key pair → (later : ℕ) → pair ≤ later → later < pair_count h → key ≢ pair_key later
    behind key others apart later from below same =
        dite (ℕ_discrete later pair) (λ is. apart (same ∙ ap pair_key is)) (λ differ. others later (omega (arith, differ, from)) below same)

    none : (key : ℕ) → ((later : ℕ) → pair + 1 ≤ later → later < pair_count h → key ≢ pair_key later) → Dec (key ≡ pair_key pair) → pends (without (pair_key pair) pending) key ≡ false
    none key others (yes same) = subst (λ k. pends (without (pair_key pair) pending) k ≡ false) (sym same) (pends-without_same (pair_key pair) pending)
    none key others (no apart) = pends-without (pair_key pair) key pending apart ∙ pend.no_others key (behind key others apart)

-- and once all have, nobody
pub all_signed : (h : Header) (pending : List ℕ) → PairsPend h (pair_count h) pending → pending ≡ []
all_signed h pending pend = nothing_pends pending (λ key. pend.no_others key (λ pair from below. absurd (omega (arith, from, below))))

-- ---- a pair's part

-- the fills that a pair's plan has are those of the command's entry
pub of_last : (h : Header) (before entries : List Entry) (change : Change) (entry : Entry) (pair : ℕ) (fills : List Fill) → entries ≡ before ++ entry ∷ [] → entry.bank ≡ change.sender → entry.command ≡ change.command → entry.outcome ≡ outcome_of change
    → IsUnderWay h (state h before) change → Makes (state h before) (reached change (state h before)) pair fills → AreOfLast h entries pair fills
of_last h before entries change entry pair fills ends bank_is command_is outcome_is under makes =
    let S : State = state h before in
    let then' : (after_entry S entry).orders ≡ (reached change S).orders =
    ap (λ b. (after S b entry.command entry.outcome).orders) bank_is
    ∙ ap (λ (c : Command). (after S change.sender c entry.outcome).orders) command_is
    ∙ ap (λ (o : Outcome). (after S change.sender change.command o).orders) outcome_is
    ∙ reached-orders h S change under in
    let whole : (state h entries).orders ≡ (reached change S).orders =
    ap (λ (T : State). T.orders) (ap (state h) ends ∙ after_all-push (opening h) before entry) ∙ then' in
    record {
      before = before;
      last = entry;
      ends = ends;
      makes = record {
        turn = makes.turn;
        rising = makes.rising;
        orders = makes.orders;
        leaves = makes.leaves ∙ ap (orders_in pair) (sym whole);
      };
    }
