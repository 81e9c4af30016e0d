-- A client's line as its bank's: the fields behind the first are the same.
use Rattle.std.proofs.Common.{ℕ, ◌≡◌, ◌+◌, ◌<◌, Bool, true, false, cond, ◌&&◌, List, [], ◌∷◌, ◌++◌, refl, ap, ap₂, sym, subst, ◌∙◌, append_assoc, arith, codes, eqb, length, length-append, take, drop, get_or, filter, position, bytes_eq, Option, Some, ⊎_elim, All, IsTrue}
use Rattle.std.specs.Cmp.Lexicographic.{bytes_decides}
use Rattle.std.specs.List.{slice_split}
use Rattle.std.proofs.lemmas.Bool.{and_parts, cases_Bool, cond-true, cond-false, eqb-true, false_from_ne_true, lt-ltb, ne_eqb}
use Rattle.std.proofs.lemmas.List.{append_cancel_right, drop-drop, drop_more, take-append-drop}
use Rattle.std.proofs.lemmas.List.Elements.{All-append, All-cons, All-weaker}
use Rattle.std.proofs.lemmas.List.Quantifiers.{position-Some}
use Rattle.std.proofs.lemmas.List.Splits.{slice_split_at}
use Rattle.fx_text.specs.Fields.{fields_of, field_at, first_field, has_bytes, is_blank, is_end}
use Rattle.fx_text.specs.Lines.{is_passed_over}
use Rattle.fx_text.specs.declared.line.Line.TheVariants.{Whole}
use Rattle.fx_rules.specs.Session.{Header, IsSession, bank_count, bank_name, bank_named}
use Rattle.fx_rules.specs.declared.command.Command.{Command}
use Rattle.fx_rules.specs.Names.{is_name}
use Rattle.fx_rules.proofs.NameTexts.{HasNameBytes, HasNameBytes-name}
use Rattle.order_lines.specs.Grammar.{command_line, or_bad}
use Rattle.order_lines.specs.Reading.{command_said}
use Rattle.order_lines.specs.Words.{sender_named}
use Rattle.order_lines.specs.declared.spoken.Spoken.{Spoken}
use Rattle.order_lines.specs.declared.spoken.Spoken.TheVariants as spoken
use Rattle.order_lines.proofs.SaidLines.{of_sender, of_sender-ok, said_behind}
use Rattle.client_desk.specs.Clients.{AreClients, bank_of_client}
use Rattle.client_desk.specs.Lines.{client_line_of, client_named, client_word, declared, client_said, of_client}
use Rattle.client_desk.specs.declared.client.Client.{Client}
use Rattle.client_desk.specs.declared.line.ClientLine.{ClientLine}
use Rattle.client_desk.specs.declared.line.ClientLine.TheVariants.{Of, Plain}
use Rattle.client_desk.specs.inside.Fronts.{BeginsWithClient}
use Rattle.client_desk.proofs.Naming.{HasNone, client-parted, client-within, named_is, same_parts, text_apart}

-- ---- the first field of a line

-- what stands in front of the first space is the first field, and the others are those of the rest
fields-front : (front rest : List ℕ) → 0 < length front → All (λ byte. is_blank byte ≡ false) front → fields_of (front ++ 32 ∷ rest) ≡ front ∷ fields_of rest
unfolding fields_of
fields-front front rest some unbroken =
    ap (filter has_bytes) (slice_split_at is_blank front 32 rest unbroken refl)
    ∙ ap (λ b. cond b (front ∷ filter has_bytes (slice_split is_blank rest)) (filter has_bytes (slice_split is_blank rest))) (lt-ltb 0 (length front) some)

-- ---- a bank's line

not_blank : (byte : ℕ) → 32 < byte → is_blank byte ≡ false
not_blank byte above = rw (ne_eqb byte 32 (λ e. omega arith), ne_eqb byte 9 (λ e. omega arith)) refl

-- no byte of a declaration's word is a colon, but for the last
word_apart : HasNone (codes "CLIENT")
word_apart = (λ e. omega (arith, e), (λ e. omega (arith, e), (λ e. omega (arith, e), (λ e. omega (arith, e), (λ e. omega (arith, e), (λ e. omega (arith, e), tt))))))

-- a line that begins with a bank's name, a colon, the name of its client, and a space
pub begins_with : (h : Header) (clients : List Client) (text behind name : List ℕ) (bank colon end place : ℕ) (client : Client) → IsSession h → AreClients h clients → colon < length text → get_or text colon 0 ≡ 58 → bank_named h.banks (take colon text) ≡ Some bank
    → behind ≡ drop (colon + 1) text → end < length behind → get_or behind end 0 ≡ 32 → name ≡ take end behind
    → position (λ client. eqb bank client.bank && bytes_eq name client.name) clients ≡ Some place → client ≡ get_or clients place client → IsTrue (is_name client.name) → BeginsWithClient h clients place text (drop (colon + 1 + end + 1) text)
begins_with h clients text behind name bank colon end place client session are colon_in colon_is bank_is behind_is end_in end_is name_is found here valid =
    let rest : List ℕ = drop (colon + 1 + end + 1) text in
    let place_is : colon + 1 + end + 1 ≡ colon + 1 + (end + 1) = omega arith in
    let rest_is : rest ≡ drop (end + 1) behind = ap (λ (n : ℕ). drop n text) place_is ∙ sym (drop-drop (end + 1) (colon + 1) text) ∙ ap (drop (end + 1)) (sym behind_is) in
    let front : List ℕ = take colon text in
    let first : List ℕ = front ++ 58 ∷ name in
    let test : Client → Bool = λ other. eqb bank other.bank && bytes_eq name other.name in
    let its = and_parts (eqb bank client.bank) (bytes_eq name client.name) (ap test here ∙ (position-Some test clients place client found).1) in
    let own : name ≡ client.name = (bytes_decides name client.name).0 its.1 in
    let within : bank < bank_count h = (position-Some (λ other. bytes_eq other front) h.banks bank [] bank_is).0 in
    let front_is : bank_name h bank ≡ front = named_is h bank front bank_is in
    let apart : HasNone front = subst HasNone front_is (text_apart h bank session within) in
    let bank_bytes : HasNameBytes (bank_name h bank) = HasNameBytes-name (bank_name h bank) (session.names bank [] within) in
    let name_bytes : HasNameBytes client.name = HasNameBytes-name client.name valid in
    let parted : text ≡ front ++ 58 ∷ behind = sym (take-append-drop colon text) ∙ ap (λ (more : List ℕ). front ++ more) (drop_more text colon 0 colon_in ∙ ap₂ (λ (byte : ℕ) (more : List ℕ). byte ∷ more) colon_is (sym behind_is)) in
    let named : behind ≡ name ++ 32 ∷ rest = sym (take-append-drop end behind) ∙ ap₂ (λ (a b : List ℕ). a ++ b) (sym name_is) (drop_more behind end 0 end_in ∙ ap₂ (λ (byte : ℕ) (more : List ℕ). byte ∷ more) end_is (sym rest_is)) in
    let whole : text ≡ first ++ 32 ∷ rest = parted ∙ ap (λ (more : List ℕ). front ++ 58 ∷ more) named ∙ sym (append_assoc front (58 ∷ name) (32 ∷ rest)) in
    let visible : All (λ byte. 32 < byte) first =
    All-append (λ byte. 32 < byte) front (58 ∷ name) (subst (All (λ byte. 32 < byte)) front_is bank_bytes.visible)
    (All-cons (λ byte. 32 < byte) 58 name (omega arith) (subst (All (λ byte. 32 < byte)) (sym own) name_bytes.visible)) in
    record {
      first = first;
      fields = ap fields_of whole ∙ fields-front first rest (omega (arith, length-append front (58 ∷ name))) (All-weaker (λ byte. 32 < byte) (λ byte. is_blank byte ≡ false) not_blank first visible);
      declares = false_from_ne_true (bytes_eq first client_word)
          (λ same.
          let none : name ≡ [] = (same_parts front name (codes "CLIENT") [] apart word_apart ((bytes_decides first client_word).0 same)).1 in
          omega (arith, name_bytes.least, ap (λ (t : List ℕ). length t) (sym none ∙ own)));
      named = client-parted h clients first front name bank session are apart refl bank_is ∙ found;
    }

fields-of_bank : (h : Header) (bank : ℕ) (rest : List ℕ) → IsSession h → bank < bank_count h → fields_of (bank_name h bank ++ 32 ∷ rest) ≡ bank_name h bank ∷ fields_of rest
fields-of_bank h bank rest session within =
    let name : HasNameBytes (bank_name h bank) = HasNameBytes-name (bank_name h bank) (session.names bank [] within) in
    fields-front (bank_name h bank) rest (omega (arith, name.least)) (All-weaker (λ byte. 32 < byte) (λ byte. is_blank byte ≡ false) not_blank (bank_name h bank) name.visible)

-- what its fields say
said-sent : (h : Header) (text : List ℕ) (sender : ℕ) (command : Command) → command_line h (Whole text) ≡ spoken.Of sender command → or_bad (command_said h sender (fields_of text)) ≡ command
unfolding command_line
said-sent h text sender command is =
    let sent : Spoken = of_sender (sender_named h (first_field text)) (λ who. or_bad (command_said h who (fields_of text))) in
    let rest : Spoken = cond (is_end (fields_of text)) spoken.End sent in
    ⊎_elim
    (λ (passed : is_passed_over (Whole text) ≡ true). absurd (let e : spoken.Passed ≡ spoken.Of sender command = sym (cond-true (is_passed_over (Whole text)) spoken.Passed rest passed) ∙ is in cc))
    (λ (kept : is_passed_over (Whole text) ≡ false).
    let goes_on : rest ≡ spoken.Of sender command = sym (cond-false (is_passed_over (Whole text)) spoken.Passed rest kept) ∙ is in
    ⊎_elim
    (λ (ends : is_end (fields_of text) ≡ true). absurd (let e : spoken.End ≡ spoken.Of sender command = sym (cond-true (is_end (fields_of text)) spoken.End sent ends) ∙ goes_on in cc))
    (λ (goes : is_end (fields_of text) ≡ false).
    (of_sender-ok (sender_named h (first_field text)) (λ who. or_bad (command_said h who (fields_of text))) sender command (sym (cond-false (is_end (fields_of text)) spoken.End sent goes) ∙ goes_on)).1)
    (cases_Bool (is_end (fields_of text))))
    (cases_Bool (is_passed_over (Whole text)))

-- a list of no elements
pub empty-nil : (xs : List ℕ) → eqb (length xs) 0 ≡ true → xs ≡ []
empty-nil [] is = refl
empty-nil (x ∷ xs) is = absurd (omega (arith, eqb-true (length (x ∷ xs)) 0 is))

-- ---- a client's line

of-client : (found : Option ℕ) (c : ℕ) (asks : ℕ → Command) (plain : ClientLine) → found ≡ Some c → of_client found asks plain ≡ Of c (asks c)
of-client found c asks plain is = ap (λ o. of_client o asks plain) is

module _ (h : Header) (clients : List Client) (c : ℕ) (command : Command) (text first rest bank_line : List ℕ) (session : IsSession h) (are : AreClients h clients) (within : c < length clients) where
  -- The client's line says what its bank's does that has the same fields behind the first.
  pub client-spelled : fields_of text ≡ first ∷ fields_of rest → bytes_eq first client_word ≡ false → client_named h clients first ≡ Some c
      → bank_line ++ 10 ∷ [] ≡ (bank_name h (bank_of_client clients c) ++ 32 ∷ rest) ++ 10 ∷ [] → command_line h (Whole bank_line) ≡ spoken.Of (bank_of_client clients c) command
      → client_line_of h clients (Whole text) ≡ Of c command
  unfolding client_line_of
  client-spelled fields other named made reads =
      let bank : ℕ = bank_of_client clients c in
      let line : bank_line ≡ bank_name h bank ++ 32 ∷ rest =
      append_cancel_right bank_line (bank_name h bank ++ 32 ∷ rest) (10 ∷ []) made in
      let bank_fields : fields_of bank_line ≡ bank_name h bank ∷ fields_of rest = ap fields_of line ∙ fields-of_bank h bank rest session (client-within h clients c are.banks within) in
      let said : or_bad (command_said h bank (fields_of text)) ≡ command =
      ap or_bad (ap (command_said h bank) fields ∙ said_behind h bank first (bank_name h bank) (fields_of rest) ∙ ap (command_said h bank) (sym bank_fields))
      ∙ said-sent h bank_line bank command reads in
      let first_is : first_field text ≡ first = ap (λ fs. field_at fs 0) fields in
      let asks : ℕ → Command = λ k. or_bad (command_said h (bank_of_client clients k) (fields_of text)) in
      let plain : ClientLine = Plain (command_line h (Whole text)) in
      cond-false (bytes_eq (first_field text) client_word) (declared clients (client_said h (fields_of text))) (of_client (client_named h clients (first_field text)) asks plain)
      (ap (λ t. bytes_eq t client_word) first_is ∙ other)
      ∙ of-client (client_named h clients (first_field text)) c asks plain (ap (client_named h clients) first_is ∙ named)
      ∙ ap (Of c) said
