-- How a client's command names it: its bank's name and its own, parted at the first colon.
use Rattle.std.proofs.Common.{ℕ, zero, suc, ◌≡◌, ◌≢◌, ◌+◌, ◌≤◌, ◌<◌, Bool, true, false, not, ◌&&◌, eqb, nat_lt, List, [], ◌∷◌, ◌++◌, inl, inr, refl, ap, ap₂, sym, subst, ◌∙◌, arith, get_or, length, length-append, take, drop, All, position, bytes_eq, Option, Some, None}
use Rattle.std.specs.Prelude.{IsTrue, is_some}
use Rattle.std.specs.List.{position_or_len, list_all}
use Rattle.std.specs.Cmp.Lexicographic.{bytes_decides}
use Rattle.std.specs.Cmp.Derive.{both_true}
use Rattle.std.proofs.lemmas.Bool.{cases_Bool, cases_lt, and_parts, cond-true, ltb-true, ltb-false, eqb-true, eq-eqb, false_from_ne_true, both_ways, true≢false}
use Rattle.std.proofs.lemmas.List.{get_or-take, length-take}
use Rattle.std.proofs.lemmas.List.Sums.{fails_before_first, passes_at_first, split_at_first}
use Rattle.std.proofs.lemmas.List.Quantifiers.{position-Some}
use Rattle.std.proofs.lemmas.List.Elements.{recursion_from_All}
use Rattle.std.proofs.lemmas.Option.{cond_some}
use Rattle.std.proofs.Math.Seq.{get_or-append_seam}
use Rattle.fx_rules.specs.Lists.{Each}
use Rattle.fx_rules.specs.Names.{is_name, is_name_byte}
use Rattle.fx_rules.specs.Session.{Header, IsSession, bank_count, bank_name, bank_named}
use Rattle.fx_rules.proofs.ListLemmas.{Each-append, Each-at, EachPair-push}
use Rattle.fx_rules.proofs.Sought.{same_test, position_agrees, position_none}
use Rattle.client_desk.specs.declared.client.Client.{Client}
use Rattle.client_desk.specs.Clients.{AreClients, Differ, bank_of_client}
use Rattle.client_desk.specs.Lines.{client_text, client_named, is_same, is_new}

-- no byte of a text is a colon
abbrev pub HasNone : List ℕ → Type 0
HasNone text = Each (λ byte. byte ≢ 58) text

-- two texts that are the same to their first colon
pub same_parts : (a x b y : List ℕ) → HasNone a → HasNone b → a ++ 58 ∷ x ≡ b ++ 58 ∷ y → (a ≡ b) × (x ≡ y)
same_parts [] x [] y none other same = (refl, ap (drop 1) same)
same_parts [] x (k ∷ b) y none other same = absurd (other.0 (sym (ap (λ (t : List ℕ). get_or t 0 0) same)))
same_parts (k ∷ a) x [] y none other same = absurd (none.0 (ap (λ (t : List ℕ). get_or t 0 0) same))
same_parts (k ∷ a) x (j ∷ b) y none other same =
    let head : k ≡ j = ap (λ (t : List ℕ). get_or t 0 0) same in
    let rest = same_parts a x b y none.1 other.1 (ap (drop 1) same) in
    (ap₂ (λ (n : ℕ) (t : List ℕ). n ∷ t) head rest.0, rest.1)

-- a byte of a name is no colon
byte_apart : (byte : ℕ) → is_name_byte byte ≡ true → byte ≢ 58
byte_apart byte is same = true≢false (sym is ∙ ap is_name_byte same)

all_apart : (text : List ℕ) → list_all is_name_byte text ≡ true → HasNone text
all_apart [] all = tt
all_apart (byte ∷ text) all =
    let parts = and_parts (is_name_byte byte) (list_all is_name_byte text) all in
    (byte_apart byte parts.0, all_apart text parts.1)

name_apart : (text : List ℕ) → IsTrue (is_name text) → HasNone text
name_apart text valid = all_apart text (and_parts _ (list_all is_name_byte text) (and_parts _ _ valid).0).1

-- the parts of a text at its first colon
pub record IsParted (text : List ℕ) (at : ℕ) : Type 0 where
  pub within : at < length text
  pub none : HasNone (take at text)
  pub whole : text ≡ take at text ++ 58 ∷ drop (at + 1) text

pub parted : (text : List ℕ) (at : ℕ) → position (λ byte. eqb byte 58) text ≡ Some at → IsParted text at
parted text at found =
    let here = cond_some (nat_lt (position_or_len (λ byte. eqb byte 58) text) (length text)) (position_or_len (λ byte. eqb byte 58) text) at found in
    let inside : position_or_len (λ byte. eqb byte 58) text < length text = ltb-true (position_or_len (λ byte. eqb byte 58) text) (length text) here.0 in
    let colon : get_or text (position_or_len (λ byte. eqb byte 58) text) 0 ≡ 58 =
    eqb-true (get_or text (position_or_len (λ byte. eqb byte 58) text) 0) 58 (passes_at_first (λ byte. eqb byte 58) text 0 inside) in
    let split : text ≡ take (position_or_len (λ byte. eqb byte 58) text) text ++ 58 ∷ drop (position_or_len (λ byte. eqb byte 58) text + 1) text =
    split_at_first (λ byte. eqb byte 58) text 0 inside
    ∙ ap (λ (b : ℕ). take (position_or_len (λ byte. eqb byte 58) text) text ++ b ∷ drop (position_or_len (λ byte. eqb byte 58) text + 1) text) colon in
    let apart : HasNone (take (position_or_len (λ byte. eqb byte 58) text) text) =
    recursion_from_All (λ byte. byte ≢ 58) (take (position_or_len (λ byte. eqb byte 58) text) text)
    (λ k d before same.
    let first : k < position_or_len (λ byte. eqb byte 58) text = omega (arith, before, length-take (position_or_len (λ byte. eqb byte 58) text) text) in
    true≢false (sym (eq-eqb (get_or text k d) 58 (sym (get_or-take (position_or_len (λ byte. eqb byte 58) text) text k d first) ∙ same)) ∙ fails_before_first (λ byte. eqb byte 58) text k d first)) in
    subst (IsParted text) here.1 (record { within = inside; none = apart; whole = split })

-- the text of a client that stands among clients
pub text_apart : (h : Header) (bank : ℕ) → IsSession h → bank < bank_count h → HasNone (bank_name h bank)
text_apart h bank session within = name_apart (bank_name h bank) (session.names bank [] within)

-- a bank that is named is the only one of its name
only_named : (h : Header) (bank other : ℕ) (text : List ℕ) → IsSession h → bank_named h.banks text ≡ Some bank → other < bank_count h → bank_name h other ≡ text → other ≡ bank
only_named h bank other text session named within is =
    let found = position-Some (λ name. bytes_eq name text) h.banks bank [] named in
    let mine : bank_name h bank ≡ text = (bytes_decides (bank_name h bank) text).0 found.1 in
    elim (cases_lt other bank) [
      | inl before ↦ absurd (both_ways (bytes_eq (bank_name h other) text) (found.2 other before) ((bytes_decides (bank_name h other) text).1 is))
      | inr after ↦ elim (cases_lt bank other) [
        | inl later ↦ absurd (session.names_differ bank other [] later within (mine ∙ sym is))
        | inr same ↦ omega arith
      ]
    ]

pub named_is : (h : Header) (bank : ℕ) (text : List ℕ) → bank_named h.banks text ≡ Some bank → bank_name h bank ≡ text
named_is h bank text named =
    let found = position-Some (λ name. bytes_eq name text) h.banks bank [] named in
    (bytes_decides (bank_name h bank) text).0 found.1

clients_within : (h : Header) (clients : List Client) → AreClients h clients → All (λ (client : Client). client.bank < bank_count h) clients
clients_within h clients are k d within = Each-at (λ (client : Client). client.bank < bank_count h) clients k d are.banks within

-- a client is named so by its bank and its name
pub client-parted : (h : Header) (clients : List Client) (text front rest : List ℕ) (bank : ℕ) → IsSession h → AreClients h clients → HasNone front → text ≡ front ++ 58 ∷ rest → bank_named h.banks front ≡ Some bank → client_named h clients text ≡ position (λ client. eqb bank client.bank && bytes_eq rest client.name) clients
client-parted h clients text front rest bank session are none whole named =
    position_agrees (λ (client : Client). bytes_eq (client_text h client) text) (λ (client : Client). eqb bank client.bank && bytes_eq rest client.name) clients
    (λ k d within.
    let client : Client = get_or clients k d in
    let its : client.bank < bank_count h = clients_within h clients are k d within in
    same_test (bytes_eq (client_text h client) text) (eqb bank client.bank && bytes_eq rest client.name)
    (λ is.
    let parts = same_parts (bank_name h client.bank) client.name front rest (text_apart h client.bank session its) none ((bytes_decides (client_text h client) text).0 is ∙ whole) in
    both_true (eq-eqb bank client.bank (sym (only_named h bank client.bank front session named its parts.0))) ((bytes_decides rest client.name).1 (sym parts.1)))
    (λ both.
    let parts = and_parts (eqb bank client.bank) (bytes_eq rest client.name) both in
    (bytes_decides (client_text h client) text).1
    (ap₂ (λ (a b : List ℕ). a ++ 58 ∷ b) (ap (bank_name h) (sym (eqb-true bank client.bank parts.0)) ∙ named_is h bank front named) (sym ((bytes_decides rest client.name).0 parts.1)) ∙ sym whole)))

-- what no element passes where none is found
none_passes : {X : Type 0} (p : X → Bool) (xs : List X) → position p xs ≡ None → (k : ℕ) (d : X) → k < length xs → p (get_or xs k d) ≡ false
none_passes p xs missing k d within =
    elim (cases_Bool (nat_lt (position_or_len p xs) (length xs))) [
      | inl inside ↦ let found : Some (position_or_len p xs) ≡ None = sym (cond-true (nat_lt (position_or_len p xs) (length xs)) (Some (position_or_len p xs)) None inside) ∙ missing in cc
      | inr past ↦
          let le : length xs ≤ position_or_len p xs = ltb-false (position_or_len p xs) (length xs) past in
          fails_before_first p xs k d (omega arith)
    ]

-- none is where the front is no bank's name
pub client-no_bank : (h : Header) (clients : List Client) (text front rest : List ℕ) → IsSession h → AreClients h clients → HasNone front → text ≡ front ++ 58 ∷ rest → bank_named h.banks front ≡ None → client_named h clients text ≡ None
client-no_bank h clients text front rest session are none whole no_bank =
    sym (position_none (λ (client : Client). bytes_eq (client_text h client) text) clients
    (λ k d within.
    let client : Client = get_or clients k d in
    let its : client.bank < bank_count h = clients_within h clients are k d within in
    false_from_ne_true (bytes_eq (client_text h client) text)
    (λ is.
    let same : bank_name h client.bank ≡ front = (same_parts (bank_name h client.bank) client.name front rest (text_apart h client.bank session its) none ((bytes_decides (client_text h client) text).0 is ∙ whole)).0 in
    both_ways (bytes_eq (bank_name h client.bank) front) (none_passes (λ name. bytes_eq name front) h.banks no_bank client.bank [] its) ((bytes_decides (bank_name h client.bank) front).1 same))))

no_colon : (text : List ℕ) → position (λ byte. eqb byte 58) text ≡ None → (k : ℕ) → k < length text → get_or text k 0 ≢ 58
no_colon text missing k within is = true≢false (sym (eq-eqb (get_or text k 0) 58 is) ∙ none_passes (λ byte. eqb byte 58) text missing k 0 within)

-- and where no colon stands
pub client-no_colon : (h : Header) (clients : List Client) (text : List ℕ) → position (λ byte. eqb byte 58) text ≡ None → client_named h clients text ≡ None
client-no_colon h clients text missing =
    sym (position_none (λ (client : Client). bytes_eq (client_text h client) text) clients
    (λ k d within.
    let client : Client = get_or clients k d in
    false_from_ne_true (bytes_eq (client_text h client) text)
    (λ is.
    let whole : client_text h client ≡ text = (bytes_decides (client_text h client) text).0 is in
    let colon : get_or text (length (bank_name h client.bank)) 0 ≡ 58 =
    sym (ap (λ (t : List ℕ). get_or t (length (bank_name h client.bank)) 0) whole) ∙ get_or-append_seam (bank_name h client.bank) 58 client.name 0 in
    let inside : length (bank_name h client.bank) < length text =
    omega (arith, ap (λ (t : List ℕ). length t) whole, length-append (bank_name h client.bank) (58 ∷ client.name)) in
    no_colon text missing (length (bank_name h client.bank)) inside colon)))

-- ---- a client that is declared

none_is : {X : Type 0} (o : Option X) → not (is_some o) ≡ true → o ≡ None
none_is None is = refl
none_is (Some x) is = cc

new_differs : (clients : List Client) (client : Client) → position (is_same client) clients ≡ None → Each (λ other. Differ other client) clients
new_differs clients client missing =
    recursion_from_All (λ (other : Client). Differ other client) clients
    (λ k d within bank name.
    true≢false (sym (both_true (eq-eqb client.bank (get_or clients k d).bank (sym bank)) ((bytes_decides client.name (get_or clients k d).name).1 (sym name))) ∙ none_passes (is_same client) clients missing k d within))

-- it can stand behind the others
pub new-client : (h : Header) (clients : List Client) (client : Client) → AreClients h clients → client.bank < bank_count h → is_new clients client ≡ true → AreClients h (clients ++ client ∷ [])
new-client h clients client are within new =
    let parts = and_parts (nat_lt (length clients) 1024) (not (is_some (position (is_same client) clients))) new in
    let room : length clients < 1024 = ltb-true (length clients) 1024 parts.0 in
    record {
      most = omega (arith, length-append clients (client ∷ []));
      banks = Each-append (λ (other : Client). other.bank < bank_count h) clients (client ∷ []) are.banks (within, tt);
      differ = EachPair-push Differ clients client are.differ (new_differs clients client (none_is (position (is_same client) clients) parts.1));
    }

pub client-within : (h : Header) (clients : List Client) (c : ℕ) → Each (λ client. client.bank < bank_count h) clients → c < length clients → bank_of_client clients c < bank_count h
client-within h [] c banks within = absurd (omega arith)
client-within h (client ∷ clients) zero banks within = banks.0
client-within h (client ∷ clients) (suc c) banks within = client-within h clients c banks.1 (omega arith)
