-- A client is found by its bank and its name.
use Rattle.std.proofs.Common.{ℕ, zero, suc, ◌≡◌, ◌+◌, ◌<◌, Bool, true, false, not, ◌&&◌, ◌||◌, eqb, bytes_eq, nat_lt, cond, List, [], ◌∷◌, ◌++◌, refl, ap, ap₂, sym, subst, ◌∙◌, length, take, drop, get_or, position, replicate, ◌-◌, arith, Some, None}
use Rattle.std.specs.List.{position_or_len, list_any, slice_get}
use Rattle.std.specs.Int.{w64, from_le_bytes, to_le_bytes}
use Rattle.std.specs.Cmp.Lexicographic.{bytes_decides}
use Rattle.std.specs.Cmp.Derive.{both_true}
use Rattle.std.proofs.lemmas.Bool.{and_parts, eq-eqb, eqb-true, false_from_ne_true, lt-ltb, ltb-true}
use Rattle.std.proofs.lemmas.List.{take-append-drop, take_at}
use Rattle.std.proofs.lemmas.Nat.{from_le_bytes-to_le_bytes_8}
use Rattle.std.proofs.lemmas.Grind.{take_at_read}
use Rattle.fx_rules.specs.Lists.{Each, EachPair}
use Rattle.fx_rules.specs.Names.{padded}
use Rattle.fx_rules.proofs.ListLemmas.{Each-at, EachPair-first}
use Rattle.fx_rules.proofs.Sought.{same_test}
use Rattle.indexmap.specs.IndexSet.{insert_key}
use Rattle.client_desk.specs.Clients.{Differ}
use Rattle.client_desk.specs.declared.client.Client.{Client}
use Rattle.client_desk.specs.declared.keys.ClientKey.{ClientKey}
use Rattle.client_desk.specs.inside.Keys.{AreKeysOf, IsKeyOf}

-- two keys are the same
abbrev pub is_same_key : ClientKey → ClientKey → Bool
is_same_key a b = eqb a.bank b.bank && (eqb a.word b.word && eqb a.len b.len)

-- a text and how many bytes it has tell its padded form, and the other way round
padded_tells : (a b : List ℕ) → padded a ≡ padded b → length a ≡ length b → a ≡ b
padded_tells a b same size =
    sym (take_at a (replicate (8 - length a) 0) (length a) refl)
    ∙ ap₂ (λ (n : ℕ) (t : List ℕ). take n t) size same
    ∙ take_at b (replicate (8 - length b) 0) (length b) refl

-- two keys are the same where the banks and the texts are
pub same_key : (bank other : ℕ) (text name : List ℕ) (sought key : ClientKey) → IsKeyOf bank text sought → IsKeyOf other name key
    → is_same_key sought key ≡ (eqb bank other && bytes_eq text name)
same_key bank other text name sought key mine its =
    same_test (is_same_key sought key) (eqb bank other && bytes_eq text name)
    (λ is.
    let outer = and_parts (eqb sought.bank key.bank) (eqb sought.word key.word && eqb sought.len key.len) is in
    let inner = and_parts (eqb sought.word key.word) (eqb sought.len key.len) outer.1 in
    let banks : bank ≡ other = sym mine.of_bank ∙ eqb-true sought.bank key.bank outer.0 ∙ its.of_bank in
    let sizes : length text ≡ length name = sym mine.size ∙ eqb-true sought.len key.len inner.1 ∙ its.size in
    let bytes : padded text ≡ padded name = sym mine.word ∙ ap (to_le_bytes w64) (eqb-true sought.word key.word inner.0) ∙ its.word in
    both_true (eq-eqb bank other banks) ((bytes_decides text name).1 (padded_tells text name bytes sizes)))
    (λ both.
    let parts = and_parts (eqb bank other) (bytes_eq text name) both in
    let alike : text ≡ name = (bytes_decides text name).0 parts.1 in
    let banks : sought.bank ≡ key.bank = mine.of_bank ∙ eqb-true bank other parts.0 ∙ sym its.of_bank in
    let sizes : sought.len ≡ key.len = mine.size ∙ ap (λ (t : List ℕ). length t) alike ∙ sym its.size in
    let words : sought.word ≡ key.word =
    sym (from_le_bytes-to_le_bytes_8 sought.word mine.small)
    ∙ ap (from_le_bytes w64) (mine.word ∙ ap padded alike ∙ sym its.word)
    ∙ from_le_bytes-to_le_bytes_8 key.word its.small in
    both_true (eq-eqb sought.bank key.bank banks) (both_true (eq-eqb sought.word key.word words) (eq-eqb sought.len key.len sizes)))

-- ---- a client that is sought

pub keys_length : (clients : List Client) (keys : List ClientKey) → AreKeysOf clients keys → length keys ≡ length clients
keys_length [] [] are = refl
keys_length [] (key ∷ keys) are = absurd are
keys_length (client ∷ clients) [] are = absurd are
keys_length (client ∷ clients) (key ∷ keys) are = ap suc (keys_length clients keys are.1)

-- the first place among the keys is that among the clients
first_key : (bank : ℕ) (text : List ℕ) (sought : ClientKey) (clients : List Client) (keys : List ClientKey) → IsKeyOf bank text sought → AreKeysOf clients keys
    → position_or_len (is_same_key sought) keys ≡ position_or_len (λ (client : Client). eqb bank client.bank && bytes_eq text client.name) clients
first_key bank text sought [] [] mine are = refl
first_key bank text sought [] (key ∷ keys) mine are = absurd are
first_key bank text sought (client ∷ clients) [] mine are = absurd are
first_key bank text sought (client ∷ clients) (key ∷ keys) mine are =
    ap₂ (λ (b : Bool) (n : ℕ). cond (not b) (1 + n) 0)
    (same_key bank client.bank text client.name sought key mine are.0)
    (first_key bank text sought clients keys mine are.1)

pub key_found : (bank : ℕ) (text : List ℕ) (sought : ClientKey) (clients : List Client) (keys : List ClientKey) → IsKeyOf bank text sought → AreKeysOf clients keys
    → position (is_same_key sought) keys ≡ position (λ (client : Client). eqb bank client.bank && bytes_eq text client.name) clients
key_found bank text sought clients keys mine are =
    ap₂ (λ n len. cond (nat_lt n len) (Some n) None) (first_key bank text sought clients keys mine are) (keys_length clients keys are)

some_key : (a b : ClientKey) → Some a ≡ Some b → a ≡ b
some_key a b is = cc

-- each key is that of its client
keys_at : (clients : List Client) (keys : List ClientKey) (at : ℕ) (d : Client) (key : ClientKey) → AreKeysOf clients keys → slice_get keys at ≡ Some key → (at < length clients) × IsKeyOf (get_or clients at d).bank (get_or clients at d).name key
keys_at [] [] at d key are is = absurd cc
keys_at [] (k ∷ keys) at d key are is = absurd are
keys_at (client ∷ clients) [] at d key are is = absurd are
keys_at (client ∷ clients) (k ∷ keys) zero d key are is = (omega arith, subst (IsKeyOf client.bank client.name) (some_key k key is) are.0)
keys_at (client ∷ clients) (k ∷ keys) (suc at) d key are is =
    let rest = keys_at clients keys at d key are.1 is in
    (omega (arith, rest.0), rest.1)

-- no client before one of that bank and that name is so too
first_place : (bank : ℕ) (text : List ℕ) (clients : List Client) (at : ℕ) (d : Client) → EachPair Differ clients → at < length clients → (eqb bank (get_or clients at d).bank && bytes_eq text (get_or clients at d).name) ≡ true
    → position_or_len (λ (client : Client). eqb bank client.bank && bytes_eq text client.name) clients ≡ at
first_place bank text [] at d differ within passes = absurd (omega arith)
first_place bank text (client ∷ clients) zero d differ within passes =
    ap (λ (b : Bool). cond (not b) (1 + position_or_len (λ (client : Client). eqb bank client.bank && bytes_eq text client.name) clients) 0) passes
first_place bank text (client ∷ clients) (suc at) d differ within passes =
    let here : at < length clients = omega arith in
    let its = and_parts (eqb bank (get_or clients at d).bank) (bytes_eq text (get_or clients at d).name) passes in
    let other : (eqb bank client.bank && bytes_eq text client.name) ≡ false =
    false_from_ne_true (eqb bank client.bank && bytes_eq text client.name)
    (λ is.
    let mine = and_parts (eqb bank client.bank) (bytes_eq text client.name) is in
    Each-at (Differ client) clients at d differ.0 here
    (sym (eqb-true bank client.bank mine.0) ∙ eqb-true bank (get_or clients at d).bank its.0)
    (sym ((bytes_decides text client.name).0 mine.1) ∙ (bytes_decides text (get_or clients at d).name).0 its.1)) in
    let more : 1 + at ≡ suc at = omega arith in
    ap₂ (λ (b : Bool) (n : ℕ). cond (not b) (1 + n) 0) other (first_place bank text clients at d differ.1 here passes) ∙ more

alone_in : (bank : ℕ) (text : List ℕ) (sought key : ClientKey) (clients : List Client) (keys : List ClientKey) (at : ℕ) (d : Client) → IsKeyOf bank text sought → AreKeysOf clients keys → EachPair Differ clients → slice_get keys at ≡ Some key → is_same_key sought key ≡ true
    → Some at ≡ position (λ (client : Client). eqb bank client.bank && bytes_eq text client.name) clients
alone_in bank text sought key clients keys at d mine are differ is same =
    let its = keys_at clients keys at d key are is in
    let passes : (eqb bank (get_or clients at d).bank && bytes_eq text (get_or clients at d).name) ≡ true =
    sym (same_key bank (get_or clients at d).bank text (get_or clients at d).name sought key mine its.1) ∙ same in
    sym (ap (λ n. cond (nat_lt n (length clients)) (Some n) None) (first_place bank text clients at d differ its.0 passes)
    ∙ ap (λ b. cond b (Some at) None) (lt-ltb at (length clients) its.0))

-- the client at whose place the key stands that is sought is the one
pub key_alone : (bank : ℕ) (text : List ℕ) (sought key : ClientKey) (clients : List Client) (keys : List ClientKey) (at : ℕ) → IsKeyOf bank text sought → AreKeysOf clients keys → EachPair Differ clients → slice_get keys at ≡ Some key → is_same_key sought key ≡ true
    → Some at ≡ position (λ (client : Client). eqb bank client.bank && bytes_eq text client.name) clients
key_alone bank text sought key [] [] at mine are differ is same = absurd cc
key_alone bank text sought key [] (k ∷ keys) at mine are differ is same = absurd are
key_alone bank text sought key (first ∷ clients) keys at mine are differ is same = alone_in bank text sought key (first ∷ clients) keys at first mine are differ is same

-- a text that is longer than any key's is no client's
no_first : (bank : ℕ) (text : List ℕ) (clients : List Client) (keys : List ClientKey) → AreKeysOf clients keys → 8 < length text
    → position_or_len (λ (client : Client). eqb bank client.bank && bytes_eq text client.name) clients ≡ length clients
no_first bank text [] [] are long = refl
no_first bank text [] (key ∷ keys) are long = absurd are
no_first bank text (client ∷ clients) [] are long = absurd are
no_first bank text (client ∷ clients) (key ∷ keys) are long =
    let other : (eqb bank client.bank && bytes_eq text client.name) ≡ false =
    false_from_ne_true (eqb bank client.bank && bytes_eq text client.name)
    (λ is.
    let alike : text ≡ client.name = (bytes_decides text client.name).0 (and_parts (eqb bank client.bank) (bytes_eq text client.name) is).1 in
    absurd (omega (arith, ap (λ (t : List ℕ). length t) alike, are.0.short))) in
    let more : 1 + length clients ≡ suc (length clients) = omega arith in
    ap₂ (λ (b : Bool) (n : ℕ). cond (not b) (1 + n) 0) other (no_first bank text clients keys are.1 long) ∙ more

pub too_long : (bank : ℕ) (text : List ℕ) (clients : List Client) (keys : List ClientKey) → AreKeysOf clients keys → 8 < length text
    → None ≡ position (λ (client : Client). eqb bank client.bank && bytes_eq text client.name) clients
too_long bank text clients keys are long =
    let past : nat_lt (length clients) (length clients) ≡ false = false_from_ne_true (nat_lt (length clients) (length clients)) (λ is. absurd (omega (arith, ltb-true (length clients) (length clients) is))) in
    sym (ap (λ n. cond (nat_lt n (length clients)) (Some n) None) (no_first bank text clients keys are long) ∙ ap (λ b. cond b (Some (length clients)) None) past)

-- ---- one client more

Each-last : {X : Type 0} (P : X → Type 0) (xs : List X) (x : X) → Each P (xs ++ x ∷ []) → P x
Each-last P [] x all = all.0
Each-last P (y ∷ xs) x all = Each-last P xs x all.1

-- its key is none of theirs
absent : (clients : List Client) (keys : List ClientKey) (client : Client) (mine : ClientKey) → AreKeysOf clients keys → EachPair Differ (clients ++ client ∷ []) → IsKeyOf client.bank client.name mine
    → list_any (is_same_key mine) keys ≡ false
absent [] [] client mine are differ is_mine = refl
absent [] (key ∷ keys) client mine are differ is_mine = absurd are
absent (other ∷ clients) [] client mine are differ is_mine = absurd are
absent (other ∷ clients) (key ∷ keys) client mine are differ is_mine =
    let apart : is_same_key mine key ≡ false =
    same_key client.bank other.bank client.name other.name mine key is_mine are.0
    ∙ false_from_ne_true (eqb client.bank other.bank && bytes_eq client.name other.name)
    (λ is.
    let parts = and_parts (eqb client.bank other.bank) (bytes_eq client.name other.name) is in
    Each-last (Differ other) clients client differ.0 (sym (eqb-true client.bank other.bank parts.0)) (sym ((bytes_decides client.name other.name).0 parts.1))) in
    ap₂ (λ (a b : Bool). a || b) apart (absent clients keys client mine are.1 differ.1 is_mine)

keys-more : (clients : List Client) (keys : List ClientKey) (client : Client) (mine : ClientKey) → AreKeysOf clients keys → IsKeyOf client.bank client.name mine → AreKeysOf (clients ++ client ∷ []) (keys ++ mine ∷ [])
keys-more [] [] client mine are is_mine = (is_mine, tt)
keys-more [] (key ∷ keys) client mine are is_mine = absurd are
keys-more (other ∷ clients) [] client mine are is_mine = absurd are
keys-more (other ∷ clients) (key ∷ keys) client mine are is_mine = (are.0, keys-more clients keys client mine are.1 is_mine)

-- so the keys stay in the order of the clients
pub keys-push : (clients : List Client) (keys : List ClientKey) (client : Client) (mine : ClientKey) → AreKeysOf clients keys → EachPair Differ (clients ++ client ∷ []) → IsKeyOf client.bank client.name mine
    → AreKeysOf (clients ++ client ∷ []) (insert_key is_same_key keys mine)
keys-push clients keys client mine are differ is_mine =
    subst (AreKeysOf (clients ++ client ∷ [])) (sym (ap (λ (b : Bool). cond b keys (keys ++ mine ∷ [])) (absent clients keys client mine are differ is_mine)))
    (keys-more clients keys client mine are is_mine)

-- ---- clients taken from a list

pub one-more : (clients : List Client) (k : ℕ) (client : Client) → k < length clients → client ≡ get_or clients k client → take (k + 1) clients ≡ take k clients ++ client ∷ []
one-more clients k client within is = (take_at_read clients k client within).1 ∙ ap (λ (c : Client). take k clients ++ c ∷ []) (sym is)

-- those so far and the next one differ
pub differ-more : (clients : List Client) (k : ℕ) (client : Client) → EachPair Differ clients → k < length clients → client ≡ get_or clients k client → EachPair Differ (take k clients ++ client ∷ [])
differ-more clients k client differ within is =
    subst (EachPair Differ) (one-more clients k client within is)
    (EachPair-first Differ (take (k + 1) clients) (drop (k + 1) clients) (subst (EachPair Differ) (sym (take-append-drop (k + 1) clients)) differ))
