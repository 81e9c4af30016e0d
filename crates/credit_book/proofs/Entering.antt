-- An entry that goes behind the history: it is legal, the credit book stands for the state after it, and its keys sign it.
use Rattle.std.proofs.Common.{ℕ, ◌≡◌, ◌+◌, ◌<◌, ◌^◌, true, false, List, [], ◌∷◌, ◌++◌, length, get_or, refl, ap, sym, subst, ◌∙◌, arith}
use mathlib.Core.List.{IsPrefix}
use Rattle.fx_rules.specs.declared.command.Command.{Command}
use Rattle.fx_rules.specs.declared.outcome.Outcome.{Outcome}
use Rattle.fx_rules.specs.declared.outcome.Entry.{Entry}
use Rattle.fx_rules.specs.Session.{Header}
use Rattle.fx_rules.specs.State.{count_of}
use Rattle.fx_rules.specs.Step.{IsCommand, IsOutcome}
use Rattle.fx_rules.specs.History.{IsLegal, state, own}
use Rattle.fx_rules.specs.Keyed.{is_about, touches_key}
use Rattle.fx_rules.proofs.Soundness.{legal-sound, legal-push, after_all-push}
use Rattle.fx_rules.proofs.Counting.{counts-own}
use Rattle.fx_rules.proofs.Continuing.{entry_same, legal-last}
use Rattle.fx_rules.proofs.KeyedLemmas.{touches-sender, touches-other}
use Rattle.fx_rules.proofs.Senders.{command-place, places-most}
use Rattle.fx_rules.specs.State.{opening}
use Rattle.fx_chronicle.specs.Touching.{touched, pends, without}
use Rattle.fx_chronicle.specs.Faces.{Chronicle, Witness, witness}
use Rattle.fx_chronicle.proofs.Pending.{pends-touched, signed_by_one}
use Rattle.fx_chronicle.specs.Submitting.{next_own}
use Rattle.fx_rules.specs.declared.sender.Sender.{Sender}
use Rattle.fx_rules.specs.Sending.{IsNextIn, entry_of}
use Rattle.credit_lines.proofs.NoPair.{no_pair}
use Rattle.credit_lines.specs.Table.{Table, IsNextOf, FollowsOn, AnswersEach, is_of_no_pair}
use Rattle.credit_book.specs.Recorded.{Recorded, IsCreditBook, key_count, committed, recorded, signed_by}
use Rattle.credit_book.specs.Serving.{IsServed}

-- the table's count of a bank is the number of the commands that its pass submitted
pub count_is : (h : Header) (book : Recorded) (bank key count : ℕ) (met : List Entry) → IsCreditBook h book → bank ≡ key → count ≡ get_or book.table.counts bank 0 → own key book.history.entries ≡ own key met → count ≡ length (own key met)
count_is h book bank key count met kept bank_is is owns =
    is ∙ ap (λ b. get_or book.table.counts b 0) bank_is ∙ ap (λ (counts : List ℕ). get_or counts key 0) kept.stands.counts
    ∙ counts-own h book.history.entries key kept.legal ∙ ap (λ (es : List Entry). length es) owns

-- ---- the next entry recorded

pub next_of : (h : Header) (book was : Recorded) (entry : Entry) → book ≡ was → IsCreditBook h book → IsLegal h (was.history.entries ++ entry ∷ []) → IsNextOf book.table entry
next_of h book was entry same kept legal = record {
  session = h;
  before = state h book.history.entries;
  sound = legal-sound h book.history.entries kept.legal;
  stands = kept.stands;
  step = (legal-last h book.history.entries entry (subst (λ (b : Recorded). IsLegal h (b.history.entries ++ entry ∷ [])) (sym same) legal)).1;
}

pub kept_on : (h : Header) (book was : Recorded) (table : Table) (history : Chronicle Entry) (entry : Entry) → book ≡ was → IsCreditBook h book → IsLegal h (was.history.entries ++ entry ∷ []) → FollowsOn book.table table entry → history ≡ committed book.history entry → IsCreditBook h (record { table = table; history = history })
kept_on h book was table history entry same kept legal follows history_is =
    let es : List Entry = book.history.entries in
    let legal' : IsLegal h (es ++ entry ∷ []) = subst (λ (b : Recorded). IsLegal h (b.history.entries ++ entry ∷ [])) (sym same) legal in
    let step = (legal-last h es entry legal').1 in
    subst (λ (w : Chronicle Entry). IsCreditBook h (record { table = table; history = w })) (sym history_is) (record {
      legal = legal';
      stands = rw (after_all-push (opening h) es entry) (follows h (state h es) (legal-sound h es kept.legal) kept.stands step);
      keys = kept.keys;
    })

-- ---- who signs it

-- its sender has to
pub sender_pends : (h : Header) (was book new : Recorded) (entry : Entry) (key : ℕ) → book ≡ was → IsCreditBook h book → new ≡ recorded book entry → key ≡ entry.bank → IsLegal h (was.history.entries ++ entry ∷ []) → pends new.history.pending key ≡ true
sender_pends h was book new entry key same kept new_is key_is legal =
    let last = legal-last h was.history.entries entry legal in
    let below : entry.bank < key_count h = omega (arith, command-place h entry.bank entry.command last.0.session last.1.command, places-most h last.0.session) in
    ap (λ (b : Recorded). pends b.history.pending key) new_is
    ∙ ap (λ n. pends (touched touches_key entry n) key) kept.keys
    ∙ ap (pends (touched touches_key entry (key_count h))) key_is
    ∙ pends-touched touches_key entry (key_count h) entry.bank below
    ∙ touches-sender entry

-- and nobody else, where its command is about no pair
pub signed_alone : (book new : Recorded) (entry : Entry) (key : ℕ) → new ≡ signed_by key (recorded book entry) → entry.bank ≡ key → is_of_no_pair entry.command ≡ true → new.history.pending ≡ []
signed_alone book new entry key new_is bank_is about =
    ap (λ (b : Recorded). b.history.pending) new_is
    ∙ ap (λ k. without k (touched touches_key entry book.history.keys)) (sym bank_is)
    ∙ signed_by_one touches_key entry book.history.keys entry.bank (λ k below apart. touches-other entry k apart (no_pair (λ command. is_about command k ≡ false) (λ bank. refl) (λ reason. refl) entry.command about))

-- ---- a command served

-- the entry of a bank's next command with the market's outcome goes on the history
pub goes_on : (h : Header) (entries : List Entry) (sender : Sender) (key : ℕ) (command : Command) (outcome copy : Outcome) → IsLegal h entries → IsNextIn (state h entries) sender → sender.bank ≡ key → sender.number < 2 ^ 32 → IsCommand h key command
    → IsOutcome h (state h entries) sender.bank command outcome → copy ≡ outcome → IsLegal h (entries ++ entry_of sender command copy ∷ [])
goes_on h entries sender key command outcome copy legal next bank_is most valid is copied =
    legal-push h entries (entry_of sender command copy) legal (record {
      command = subst (λ b. IsCommand h b command) (sym bank_is) valid;
      number = next.number;
      number_most = most;
      outcome = subst (IsOutcome h (state h entries) sender.bank command) (sym copied) is;
    })

-- the entries once room was made
pub entries_after : (was book now : Recorded) {places : ℕ} {mid : Recorded} → now ≡ record mid { history = record mid.history { room = places } } → book ≡ mid → mid ≡ was → now.history.entries ≡ was.history.entries
entries_after was book now now_is book_is mid_is = ap (λ (b : Recorded). b.history.entries) now_is ∙ ap (λ (b : Recorded). b.history.entries) mid_is

pub legal_after : (h : Header) (was now : Recorded) (entry : Entry) → now.history.entries ≡ was.history.entries → IsLegal h (was.history.entries ++ entry ∷ []) → IsLegal h (now.history.entries ++ entry ∷ [])
legal_after h was now entry same legal = subst (λ (es : List Entry). IsLegal h (es ++ entry ∷ [])) (sym same) legal

-- the table's answer to a command
pub answered : (h : Header) (was book : Recorded) (sender : Sender) (key : ℕ) (command : Command) (outcome copy : Outcome) → book ≡ was → IsCreditBook h book → IsNextIn (state h was.history.entries) sender → sender.bank ≡ key → sender.number < 2 ^ 32 → IsCommand h key command
    → AnswersEach book.table sender.bank command outcome → copy ≡ outcome → IsLegal h (was.history.entries ++ entry_of sender command copy ∷ [])
answered h was book sender key command outcome copy same kept next bank_is most valid answers copied =
    goes_on h was.history.entries sender key command outcome copy (subst (λ (b : Recorded). IsLegal h b.history.entries) same kept.legal) next bank_is most valid
    (subst (λ (b : Recorded). IsOutcome h (state h b.history.entries) sender.bank command outcome) same (answers h (state h book.history.entries) kept.stands)) copied

-- `start` and `mid` are history and pass as the entry is made, `before` and `pass` as the call began
pub served : (h : Header) (before start after : List Entry) (pass mid pass' : Witness Entry) (sender : Sender) (command : Command) (outcome copy : Outcome) → start ≡ before → mid ≡ pass → IsLegal h before → IsLegal h (before ++ entry_of sender command copy ∷ []) → IsNextIn (state h before) sender → sender.bank ≡ pass.key → copy ≡ outcome
    → IsPrefix mid.seen start → own mid.key start ≡ own mid.key mid.met → after ≡ start ++ entry_of sender command copy ∷ [] → pass' ≡ witness mid.key (start ++ entry_of sender command copy ∷ []) → IsServed h before pass command after pass' outcome
served h before start after pass mid pass' sender command outcome copy start_is mid_is legal legal_after next bank_is copied begins owns after_is pass_is =
    let e : Entry = entry_of sender command copy in
    let begins' : IsPrefix pass.seen before = subst (λ (w : Witness Entry). IsPrefix w.seen before) mid_is (subst (λ (es : List Entry). IsPrefix mid.seen es) start_is begins) in
    let owns' : own pass.key before ≡ own pass.key pass.met =
    subst (λ (w : Witness Entry). own w.key before ≡ own w.key w.met) mid_is (subst (λ (es : List Entry). own mid.key es ≡ own mid.key mid.met) start_is owns) in
    let after_is' : after ≡ before ++ e ∷ [] = after_is ∙ ap (λ (es : List Entry). es ++ e ∷ []) start_is in
    let pass_is' : pass' ≡ witness pass.key (before ++ e ∷ []) =
    pass_is ∙ ap (λ (es : List Entry). witness mid.key (es ++ e ∷ [])) start_is ∙ ap (λ (w : Witness Entry). witness w.key (before ++ e ∷ [])) mid_is in
    let number : sender.number ≡ length (own pass.key pass.met) + 1 =
    next.number ∙ ap (λ n. n + 1) (ap (count_of (state h before)) bank_is ∙ counts-own h before pass.key legal ∙ ap (λ (es : List Entry). length es) owns') in
    let own_is : e ≡ next_own pass.key (own pass.key pass.met) command outcome = entry_same _ _ bank_is number refl copied in
    record {
      begins = begins';
      owns = owns';
      ends = after_is' ∙ ap (λ (d : Entry). before ++ d ∷ []) own_is;
      legal = subst (IsLegal h) (sym after_is') legal_after;
      meets = pass_is' ∙ ap (witness pass.key) (sym after_is');
    }
