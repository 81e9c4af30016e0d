-- Who a sender is: a bank with its own name, or in version 2 the operator, whose name is no bank's.
use Rattle.std.proofs.Common.{◌≡◌, ℕ, ◌<◌, Bool, true, false, ◌&&◌, eqb, List, [], get_or, inl, inr, sym, ap, ◌∙◌, refl, arith, subst, ⊎_elim, Some, bytes_eq}
use Rattle.std.proofs.lemmas.Bool.{cases_Bool, cond-true, cond-false, and_parts, and_from, eqb-true, eq-eqb, false≢true, false_from_ne_true}
use Rattle.std.specs.Cmp.Lexicographic.{bytes_decides}
use Rattle.fx_text.proofs.FieldTexts.{IsField-tested}
use Rattle.fx_text.proofs.JoinedFields.{IsField}
use Rattle.fx_rules.specs.Names.{is_name}
use Rattle.fx_rules.specs.Session.{Header, IsSession, IsSender, bank_count, bank_name, bank_named, host}
use Rattle.order_lines.specs.Words.{is_operator, host_name, sender_name, sender_named}
use Rattle.order_lines.proofs.FieldTexts.{IsField-bank, bank_name-letter}
use Rattle.order_lines.proofs.SaidFields.{bank_named-ok, bank_named-name}

-- the operator
pub operator-is : (h : Header) (sender : ℕ) → is_operator h sender ≡ true → (h.version ≡ 2) × (sender ≡ host)
operator-is h sender is =
    let parts = and_parts (eqb h.version 2) (eqb sender host) is in
    (eqb-true h.version 2 parts.0, eqb-true sender host parts.1)

pub is-operator : (h : Header) (sender : ℕ) → (h.version ≡ 2) × (sender ≡ host) → is_operator h sender ≡ true
is-operator h sender is = and_from (eqb h.version 2) (eqb sender host) (eq-eqb h.version 2 is.0) (eq-eqb sender host is.1)

-- a bank is not the operator, and who of the senders is not, is a bank
pub bank-operates_not : (h : Header) (bank : ℕ) → IsSession h → bank < bank_count h → is_operator h bank ≡ false
bank-operates_not h bank session within = false_from_ne_true _ (λ is. omega (arith, within, session.banks_most, (operator-is h bank is).1))

pub sender-bank : (h : Header) (sender : ℕ) → IsSender h sender → is_operator h sender ≡ false → sender < bank_count h
sender-bank h sender is none = elim is [
  | inl bank ↦ bank
  | inr operator ↦ absurd (false≢true (sym none ∙ is-operator h sender operator))
]

-- their names
pub operator-name : (h : Header) (sender : ℕ) → is_operator h sender ≡ true → sender_name h sender ≡ host_name
operator-name h sender operates = cond-true (is_operator h sender) host_name (bank_name h sender) operates

pub bank-name : (h : Header) (sender : ℕ) → is_operator h sender ≡ false → sender_name h sender ≡ bank_name h sender
bank-name h sender none = cond-false (is_operator h sender) host_name (bank_name h sender) none

-- what holds of the operator's name and of each bank's, holds of each sender's
each_name : (P : List ℕ → Type 0) (h : Header) (sender : ℕ) → IsSender h sender → P host_name → (sender < bank_count h → P (bank_name h sender)) → P (sender_name h sender)
each_name P h sender is operator bank =
    ⊎_elim
    (λ (operates : is_operator h sender ≡ true). subst P (sym (operator-name h sender operates)) operator)
    (λ (none : is_operator h sender ≡ false). subst P (sym (bank-name h sender none)) (bank (sender-bank h sender is none)))
    (cases_Bool (is_operator h sender))

pub IsField-sender : (h : Header) (sender : ℕ) → IsSession h → IsSender h sender → IsField (sender_name h sender)
IsField-sender h sender session is = each_name IsField h sender is (IsField-tested host_name refl) (λ within. IsField-bank h sender session within)

-- a sender's name begins with a letter, and so begins no comment
pub sender_name-letter : (h : Header) (sender : ℕ) → IsSession h → IsSender h sender → 64 < get_or (sender_name h sender) 0 0
sender_name-letter h sender session is =
    each_name (λ (name : List ℕ). 64 < get_or name 0 0) h sender is (omega arith) (λ within. bank_name-letter h sender session within)

-- no bank has the operator's name
host-no_name : is_name host_name ≡ false
host-no_name = refl

bank-not_host : (h : Header) (bank : ℕ) → IsSession h → bank < bank_count h → bytes_eq (bank_name h bank) host_name ≡ false
bank-not_host h bank session within = false_from_ne_true _ (λ same.
    let name : is_name (bank_name h bank) ≡ true = session.names bank [] within in
    false≢true (sym host-no_name ∙ subst (λ (text : List ℕ). is_name text ≡ true) ((bytes_decides (bank_name h bank) host_name).0 same) name))

-- the sender of a name has that name, and is found by it
abbrev is_host : Header → List ℕ → Bool
is_host h text = eqb h.version 2 && bytes_eq text host_name

pub sender_named-ok : (h : Header) (text : List ℕ) (sender : ℕ) → IsSession h → sender_named h text ≡ Some sender → IsSender h sender × (text ≡ sender_name h sender)
sender_named-ok h text sender session found =
    ⊎_elim
    (λ (operates : is_host h text ≡ true).
    let parts = and_parts (eqb h.version 2) (bytes_eq text host_name) operates in
    let is : Some host ≡ Some sender = sym (cond-true (is_host h text) (Some host) (bank_named h.banks text) operates) ∙ found in
    let same : sender ≡ host = cc in
    let operator : (h.version ≡ 2) × (sender ≡ host) = (eqb-true h.version 2 parts.0, same) in
    (inr operator, (bytes_decides text host_name).0 parts.1 ∙ sym (operator-name h sender (is-operator h sender operator))))
    (λ (none : is_host h text ≡ false).
    let named = bank_named-ok h text sender (sym (cond-false (is_host h text) (Some host) (bank_named h.banks text) none) ∙ found) in
    (inl named.0, named.1 ∙ sym (bank-name h sender (bank-operates_not h sender session named.0))))
    (cases_Bool (is_host h text))

named-operator : (h : Header) (sender : ℕ) → (h.version ≡ 2) × (sender ≡ host) → sender_named h host_name ≡ Some sender
named-operator h sender operator =
    cond-true (is_host h host_name) (Some host) (bank_named h.banks host_name) (and_from (eqb h.version 2) (bytes_eq host_name host_name) (eq-eqb h.version 2 operator.0) refl)
    ∙ ap Some (sym operator.1)

named-bank : (h : Header) (bank : ℕ) → IsSession h → bank < bank_count h → sender_named h (bank_name h bank) ≡ Some bank
named-bank h bank session within =
    let none : is_host h (bank_name h bank) ≡ false = false_from_ne_true _ (λ both.
    false≢true (sym (bank-not_host h bank session within) ∙ (and_parts (eqb h.version 2) (bytes_eq (bank_name h bank) host_name) both).1)) in
    cond-false (is_host h (bank_name h bank)) (Some host) (bank_named h.banks (bank_name h bank)) none ∙ bank_named-name h bank session within

pub sender_named-name : (h : Header) (sender : ℕ) → IsSession h → IsSender h sender → sender_named h (sender_name h sender) ≡ Some sender
sender_named-name h sender session is =
    ⊎_elim
    (λ (operates : is_operator h sender ≡ true).
    ap (sender_named h) (operator-name h sender operates) ∙ named-operator h sender (operator-is h sender operates))
    (λ (none : is_operator h sender ≡ false).
    ap (sender_named h) (bank-name h sender none) ∙ named-bank h sender session (sender-bank h sender is none))
    (cases_Bool (is_operator h sender))
