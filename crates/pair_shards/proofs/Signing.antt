-- Who signs the entry of a command in one pair: its sender and the pair, and nobody else.
use Rattle.std.proofs.Common.{ℕ, ◌≡◌, ◌≢◌, ◌<◌, ◌^◌, ◌==◌, true, false, List, [], ◌∷◌, ◌++◌, Some, refl, ap, sym, subst, ◌∙◌, eq-eqb, ne_eqb, arith}
use mathlib.Core.List.{IsPrefix}
use Rattle.fx_rules.specs.declared.command.Command.{Command}
use Rattle.fx_rules.specs.declared.command.Command.TheVariants.{Order, Cancel, Reduce, Pull, Line, Total, Settle, Show, Book, Bad}
use Rattle.fx_rules.specs.declared.outcome.Outcome.{Outcome}
use Rattle.fx_rules.specs.declared.outcome.Entry.{Entry}
use Rattle.fx_rules.specs.Session.{Header, pair_count}
use Rattle.fx_rules.specs.Step.{IsCommand, IsOutcome}
use Rattle.fx_rules.specs.History.{IsLegal, state, own}
use Rattle.fx_rules.specs.Keyed.{pair_key, is_about, touches_key}
use Rattle.fx_rules.proofs.Continuing.{legal-last}
use Rattle.fx_rules.proofs.KeyedLemmas.{touches-pair, touches-other}
use Rattle.fx_rules.proofs.Senders.{command-place, places-most, one_pair}
use Rattle.fx_chronicle.specs.Touching.{touched, pends, without}
use Rattle.fx_chronicle.specs.Faces.{Witness, witness}
use Rattle.fx_chronicle.proofs.Pending.{pends-touched, pends-without, signed_by_two}
use Rattle.fx_rules.specs.declared.sender.Sender.{Sender}
use Rattle.fx_rules.specs.Sending.{IsNextIn, pair_of, entry_of}
use Rattle.credit_book.specs.Recorded.{Recorded, IsCreditBook, key_count, recorded, signed_by}
use Rattle.credit_book.specs.Serving.{IsServed}
use Rattle.credit_book.proofs.Entering.{goes_on, served}
use Rattle.pair_shards.specs.Shards.{PairState, IsShard}
use Rattle.pair_shards.specs.inside.Shards.{IsPrepared}

-- ---- which pair a command is about

about_its : (pair its key : ℕ) → Some its ≡ Some pair → key ≢ pair_key pair → (key == pair_key its) ≡ false
about_its pair its key is apart = ne_eqb key (pair_key its) (λ same. apart (same ∙ ap pair_key (one_pair its pair is)))

about_this : (pair its : ℕ) → Some its ≡ Some pair → (pair_key pair == pair_key its) ≡ true
about_this pair its is = eq-eqb (pair_key pair) (pair_key its) (ap pair_key (sym (one_pair its pair is)))

about_pair : (command : Command) (pair : ℕ) → pair_of command ≡ Some pair → is_about command (pair_key pair) ≡ true
about_pair (Order side its price lots life) pair is = about_this pair its is
about_pair (Cancel its number) pair is = about_this pair its is
about_pair (Reduce its number lots) pair is = about_this pair its is
about_pair (Pull its) pair is = about_this pair its is
about_pair (Book its) pair is = about_this pair its is
about_pair (Line bank limit) pair is = cc
about_pair (Total limit) pair is = cc
about_pair (Settle a b units) pair is = cc
about_pair (Show bank) pair is = cc
about_pair (Bad reason) pair is = cc

about_other : (command : Command) (pair key : ℕ) → pair_of command ≡ Some pair → key ≢ pair_key pair → is_about command key ≡ false
about_other (Order side its price lots life) pair key is apart = about_its pair its key is apart
about_other (Cancel its number) pair key is apart = about_its pair its key is apart
about_other (Reduce its number lots) pair key is apart = about_its pair its key is apart
about_other (Pull its) pair key is apart = about_its pair its key is apart
about_other (Book its) pair key is apart = about_its pair its key is apart
about_other (Line bank limit) pair key is apart = cc
about_other (Total limit) pair key is apart = cc
about_other (Settle a b units) pair key is apart = cc
about_other (Show bank) pair key is apart = cc
about_other (Bad reason) pair key is apart = cc

-- ---- the entry that is prepared

-- `first` is the credit book as the call began, `mid` once the sender is known
pub prepared : (h : Header) (first mid : Recorded) (sender : Sender) (key : ℕ) (command : Command) (outcome copy : Outcome) → mid ≡ first → IsCreditBook h mid → IsNextIn (state h first.history.entries) sender → sender.bank ≡ key → sender.number < 2 ^ 32 → IsCommand h key command
    → IsOutcome h (state h mid.history.entries) sender.bank command outcome → copy ≡ outcome → IsPrepared h first.history.entries key command sender (entry_of sender command copy) outcome
prepared h first mid sender key command outcome copy same kept next bank_is most valid is copied = record {
  next = next;
  bank_is = bank_is;
  made_of = ap (entry_of sender command) copied;
  legal = goes_on h first.history.entries sender key command outcome copy (subst (λ (b : Recorded). IsLegal h b.history.entries) same kept.legal) next bank_is most valid
      (subst (λ (b : Recorded). IsOutcome h (state h b.history.entries) sender.bank command outcome) same is) copied;
}

-- it is the last, once it is entered, behind what a shard that had caught up has seen
pub is_last : (h : Header) (caught now after : Recorded) (front : Witness Entry) (bank pass_key : ℕ) (command : Command) (sender : Sender) (entry : Entry) (outcome : Outcome) {places : ℕ} → now ≡ record caught { history = record caught.history { room = places } } → after ≡ signed_by pass_key (recorded now entry)
    → front.seen ≡ caught.history.entries → IsPrepared h caught.history.entries bank command sender entry outcome → after.history.entries ≡ front.seen ++ entry_of sender command outcome ∷ []
is_last h caught now after front bank pass_key command sender entry outcome now_is after_is seen_is is =
    ap (λ (b : Recorded). b.history.entries) after_is
    ∙ ap (λ (b : Recorded). b.history.entries ++ entry ∷ []) now_is
    ∙ ap (λ (es : List Entry). es ++ entry ∷ []) (sym seen_is)
    ∙ ap (λ (e : Entry). front.seen ++ e ∷ []) is.made_of

-- ---- who signs

-- the keys of a pass and of a shard, whose entry this is, as they sign
pub record AreKeys (h : Header) (pair : ℕ) (entry : Entry) (pass_key front_key : ℕ) : Type 0 where
  pub bank_is : entry.bank ≡ pass_key
  pub bank : entry.bank < 65
  pub about : pair_of entry.command ≡ Some pair
  pub front_is : front_key ≡ pair_key pair
  pub within : pair < pair_count h

pub are_keys : (h : Header) (shard : PairState) (before : List Entry) (bank pass_key : ℕ) (command : Command) (sender : Sender) (entry : Entry) (outcome : Outcome) → IsShard h shard → IsPrepared h before bank command sender entry outcome → pair_of command ≡ Some shard.book.pair → pass_key ≡ bank
    → AreKeys h shard.book.pair entry pass_key shard.front.key
are_keys h shard before bank pass_key command sender entry outcome kept is about pass_is =
    let last = legal-last h before entry is.legal in
    record {
      bank_is = ap (λ (e : Entry). e.bank) is.made_of ∙ is.bank_is ∙ sym pass_is;
      bank = omega (arith, command-place h entry.bank entry.command last.0.session last.1.command, places-most h last.0.session);
      about = ap (λ (e : Entry). pair_of e.command) is.made_of ∙ about;
      front_is = kept.key;
      within = kept.pair;
    }

-- once its sender has signed, the pair has to
pub pair_pends : (h : Header) (pair : ℕ) (entry : Entry) (pass_key front_key : ℕ) (credit new : Recorded) → AreKeys h pair entry pass_key front_key → credit.history.keys ≡ key_count h → new ≡ signed_by pass_key (recorded credit entry) → pends new.history.pending front_key ≡ true
pair_pends h pair entry pass_key front_key credit new keys count new_is =
    let apart : front_key ≢ pass_key = λ same. omega (arith, same, keys.front_is, keys.bank_is, keys.bank) in
    let below : front_key < key_count h = omega (arith, keys.front_is, keys.within) in
    ap (λ (b : Recorded). pends b.history.pending front_key) new_is
    ∙ pends-without pass_key front_key (touched touches_key entry credit.history.keys) apart
    ∙ ap (λ n. pends (touched touches_key entry n) front_key) count
    ∙ pends-touched touches_key entry (key_count h) front_key below
    ∙ ap (touches_key entry) keys.front_is
    ∙ touches-pair entry pair (about_pair entry.command pair keys.about)

-- and nobody else
pub signed_by_both : (h : Header) (pair : ℕ) (entry : Entry) (pass_key front_key : ℕ) (credit mid new : Recorded) → AreKeys h pair entry pass_key front_key → mid ≡ signed_by pass_key (recorded credit entry) → new ≡ signed_by front_key mid → new.history.pending ≡ []
signed_by_both h pair entry pass_key front_key credit mid new keys mid_is new_is =
    ap (λ (b : Recorded). b.history.pending) new_is
    ∙ ap (λ (b : Recorded). without front_key b.history.pending) mid_is
    ∙ signed_by_two touches_key entry credit.history.keys pass_key front_key
    (λ k below apart other. touches-other entry k (λ same. apart (same ∙ keys.bank_is)) (about_other entry.command pair k keys.about (λ same. other (same ∙ sym keys.front_is))))

-- ---- what it is to the history and the pass

-- `first` is the credit book as the call began, `caught` once the shard has caught up, `now` once the history has room; `met` is the
-- pass as it enters the entry
pub serves : (h : Header) (first caught now : Recorded) (after : List Entry) (pass met pass' : Witness Entry) (sender : Sender) (command : Command) (entry : Entry) (outcome : Outcome) {places : ℕ} → caught ≡ first → now ≡ record caught { history = record caught.history { room = places } } → met ≡ pass
    → IsPrepared h caught.history.entries pass.key command sender entry outcome → IsPrefix met.seen now.history.entries → own met.key now.history.entries ≡ own met.key met.met → after ≡ now.history.entries ++ entry ∷ [] → pass' ≡ witness met.key (now.history.entries ++ entry ∷ [])
    → IsServed h first.history.entries pass command after pass' outcome
serves h first caught now after pass met pass' sender command entry outcome caught_is now_is met_is is begins owns after_is pass_is =
    let start : now.history.entries ≡ caught.history.entries = ap (λ (b : Recorded). b.history.entries) now_is in
    let e : Entry = entry_of sender command outcome in
    let with_entry : now.history.entries ++ entry ∷ [] ≡ now.history.entries ++ e ∷ [] = ap (λ (last : Entry). now.history.entries ++ last ∷ []) is.made_of in
    subst (λ (b : Recorded). IsServed h b.history.entries pass command after pass' outcome) caught_is
    (served h caught.history.entries now.history.entries after pass met pass' sender command outcome outcome start met_is
    (legal-last h caught.history.entries entry is.legal).0 (subst (λ (last : Entry). IsLegal h (caught.history.entries ++ last ∷ [])) is.made_of is.legal)
    is.next is.bank_is refl begins owns (after_is ∙ with_entry) (pass_is ∙ ap (witness met.key) with_entry))
