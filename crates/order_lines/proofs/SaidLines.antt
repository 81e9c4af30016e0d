-- A line says a command of a sender just where its fields are the spelling of it.
use Rattle.std.proofs.Common.{◌≡◌, ℕ, ◌<◌, ◌≤◌, Bool, true, false, cond, ◌&&◌, List, [], ◌∷◌, length, get_or, refl, sym, ap, ◌∙◌, arith, eqb, subst, ⊎_elim, Option, Some, None, Result, Ok, Err, unwrap_or, option_map, option_and_then, bytes_eq, IfSome}
use Rattle.std.proofs.lemmas.Bool.{cases_Bool, cond-true, cond-false, and_parts, eqb-true, ne_eqb, false≢true}
use Rattle.std.proofs.lemmas.Option.{some_pair_parts}
use Rattle.std.specs.Cmp.Lexicographic.{bytes_decides}
use Rattle.fx_amounts.specs.Numeral.{numeral}
use Rattle.fx_text.specs.Fields.{fields_of, first_field, is_comment, is_end, field_at}
use Rattle.fx_text.specs.Lines.{is_passed_over}
use Rattle.fx_text.specs.Number.{number_of}
use Rattle.fx_text.specs.declared.line.Line.{Line}
use Rattle.fx_text.specs.declared.line.Line.TheVariants.{Whole, Long}
use Rattle.fx_text.proofs.NumberLemmas.{Reads, Reads-number_of, number_of-numeral}
use Rattle.fx_rules.specs.Reject.{code_of}
use Rattle.fx_rules.specs.Session.{Header, IsSession, IsSender}
use Rattle.fx_rules.specs.Step.{IsCommand, Suits}
use Rattle.fx_rules.specs.declared.command.Command.{Command}
use Rattle.fx_rules.specs.declared.command.Command.TheVariants as command
use Rattle.fx_rules.specs.declared.command.Reject.{Reject}
use Rattle.fx_rules.specs.declared.command.Reject.TheVariants as reject
use Rattle.fx_rules.proofs.Senders.{suits-sender}
use Rattle.order_lines.specs.Grammar.{command_line, journal_line, or_bad, recorded, is_bad, fault_in, bad_said, IfSent}
use Rattle.fx_text.specs.Faults.{◌>>=◌}
use Rattle.order_lines.specs.Reading.{command_said, said_after, word_said, order_said, cancel_said, reduce_said, line_said, settle_said}
use Rattle.order_lines.specs.Spelling.{command_fields, IsSpelled}
use Rattle.order_lines.specs.Words.{bad_word, fault_of, last_fault, field_count, sender_name, sender_named}
use Rattle.order_lines.specs.declared.word.Word.{Word}
use Rattle.order_lines.specs.declared.word.Word.TheVariants as words
use Rattle.order_lines.specs.declared.spoken.Spoken.{Spoken}
use Rattle.order_lines.specs.declared.spoken.Spoken.TheVariants.{Of, Stray, End, Passed}
use Rattle.order_lines.proofs.SaidCommands.{SaysCommand, by_count, command_said-ok, command_said-fields, fields_3}
use Rattle.order_lines.proofs.SaidFaults.{command_said-fault, code_within, code-suits}
use Rattle.order_lines.proofs.SaidFields.{fault_of-code, fault_of-ok}
use Rattle.order_lines.proofs.SenderNames.{sender_name-letter, sender_named-ok, sender_named-name}

abbrev first_of : Line → List ℕ
first_of (Whole text) = first_field text
first_of (Long first) = first

-- a line of a sender: its first field is the sender's name, who may send the command, and one that is not bad is spelled so
pub record IsSent (h : Header) (line : Line) (sender : ℕ) (said : Command) : Type 0 where
  pub sends : IsSender h sender
  pub name : first_of line ≡ sender_name h sender
  pub in_range : IsCommand h sender said
  pub spelled : is_bad said ≡ false → IsSpelled h line sender said

bad_command : (h : Header) (sender : ℕ) (fault : Reject) → Suits h sender (command.Bad fault) → IsCommand h sender (command.Bad fault)
bad_command h sender fault suits = record { sends = suits; values = tt }

-- what a line of a sender says, and one of none
abbrev pub of_sender : Option ℕ → (ℕ → Command) → Spoken
of_sender found commands = unwrap_or (option_map (λ sender. Of sender (commands sender)) found) Stray

pub of_sender-ok : (found : Option ℕ) (commands : ℕ → Command) (sender : ℕ) (said : Command) → of_sender found commands ≡ Of sender said → (found ≡ Some sender) × (commands sender ≡ said)
of_sender-ok None commands sender said is = absurd (cc)
of_sender-ok (Some one) commands sender said is = let same : one ≡ sender = cc in (ap Some same, ap commands (sym same) ∙ cc)

sent_whole : (h : Header) (text : List ℕ) (sender : ℕ) (said : Command) → IsSession h → sender_named h (first_field text) ≡ Some sender → (read : Result Command Reject) → command_said h sender (fields_of text) ≡ read → or_bad read ≡ said
    → IsSent h (Whole text) sender said
sent_whole h text sender said session found (Ok command) read is =
    let named = sender_named-ok h (first_field text) sender session found in
    let says : SaysCommand h sender (fields_of text) said = command_said-ok h sender (fields_of text) said named.0 named.1 (read ∙ ap Ok is) in
    record { sends = named.0; name = named.1; in_range = record { sends = says.sends; values = says.in_range }; spelled = λ _. says.spelled }
sent_whole h text sender said session found (Err fault) read is =
    let named = sender_named-ok h (first_field text) sender session found in
    subst (IsSent h (Whole text) sender) is (record {
      sends = named.0;
      name = named.1;
      in_range = bad_command h sender fault (command_said-fault h sender named.0 (fields_of text) fault read);
      spelled = λ good. absurd (false≢true (sym good));
    })

-- the first field of a line is not read for its command
by_word : (h : Header) (sender : ℕ) (word : Word) (first other : List ℕ) (rest : List (List ℕ)) → said_after h sender word (first ∷ rest) ≡ said_after h sender word (other ∷ rest)
unfolding order_said cancel_said reduce_said line_said settle_said
by_word h sender words.Buy first other rest = refl
by_word h sender words.Sell first other rest = refl
by_word h sender words.Cancel first other rest = refl
by_word h sender words.Reduce first other rest = refl
by_word h sender words.Pull first other rest = refl
by_word h sender words.Line first other rest = refl
by_word h sender words.Show first other rest = refl
by_word h sender words.Book first other rest = refl
by_word h sender words.Total first other rest = refl
by_word h sender words.Settle first other rest = refl

by_read : (h : Header) (sender : ℕ) (word : Result Word Reject) (first other : List ℕ) (rest : List (List ℕ)) → (word >>= by_count h sender (first ∷ rest)) ≡ (word >>= by_count h sender (other ∷ rest))
by_read h sender (Ok word) first other rest = ap (λ (said : Result Command Reject). cond (eqb (length (first ∷ rest)) (field_count word)) said (Err reject.Count)) (by_word h sender word first other rest)
by_read h sender (Err fault) first other rest = refl

pub said_behind : (h : Header) (sender : ℕ) (first other : List ℕ) (rest : List (List ℕ)) → command_said h sender (first ∷ rest) ≡ command_said h sender (other ∷ rest)
unfolding command_said word_said
said_behind h sender first other rest = by_read h sender (word_said h sender (first ∷ rest)) first other rest

read-in_range : (h : Header) (sender : ℕ) (rest : List (List ℕ)) (read : Result Command Reject) → IsSender h sender → command_said h sender (sender_name h sender ∷ rest) ≡ read → IsCommand h sender (or_bad read)
read-in_range h sender rest (Ok said) sends read =
    let says = command_said-ok h sender (sender_name h sender ∷ rest) said sends refl read in
    record { sends = says.sends; values = says.in_range }
read-in_range h sender rest (Err fault) sends read =
    bad_command h sender fault (command_said-fault h sender sends (sender_name h sender ∷ rest) fault read)

-- a sender's fields say what it may send
pub said-in_range : (h : Header) (sender : ℕ) (fields : List (List ℕ)) → IsSender h sender → IsCommand h sender (or_bad (command_said h sender fields))
unfolding command_said word_said
said-in_range h sender [] sends = bad_command h sender reject.Word sends
said-in_range h sender (first ∷ rest) sends =
    read-in_range h sender rest (command_said h sender (first ∷ rest)) sends (said_behind h sender (sender_name h sender) first rest)

pub IsSent-command_line : (h : Header) (line : Line) (sender : ℕ) (said : Command) → IsSession h → command_line h line ≡ Of sender said → IsSent h line sender said
unfolding command_line
IsSent-command_line h (Whole text) sender said session is =
    let sent : Spoken = of_sender (sender_named h (first_field text)) (λ who. or_bad (command_said h who (fields_of text))) in
    let rest : Spoken = cond (is_end (fields_of text)) End sent in
    ⊎_elim
    (λ (passed : is_passed_over (Whole text) ≡ true). absurd (let e : Passed ≡ Of sender said = sym (cond-true (is_passed_over (Whole text)) Passed rest passed) ∙ is in cc))
    (λ (kept : is_passed_over (Whole text) ≡ false).
    let is' : rest ≡ Of sender said = sym (cond-false (is_passed_over (Whole text)) Passed rest kept) ∙ is in
    ⊎_elim
    (λ (ends : is_end (fields_of text) ≡ true). absurd (let e : End ≡ Of sender said = sym (cond-true (is_end (fields_of text)) End sent ends) ∙ is' in cc))
    (λ (goes : is_end (fields_of text) ≡ false).
    let by = of_sender-ok (sender_named h (first_field text)) (λ who. or_bad (command_said h who (fields_of text))) sender said (sym (cond-false (is_end (fields_of text)) End sent goes) ∙ is') in
    sent_whole h text sender said session by.0 (command_said h sender (fields_of text)) refl by.1)
    (cases_Bool (is_end (fields_of text))))
    (cases_Bool (is_passed_over (Whole text)))
IsSent-command_line h (Long first) sender said session is =
    let sent : Spoken = of_sender (sender_named h first) (λ who. command.Bad reject.Long) in
    ⊎_elim
    (λ (passed : is_comment first ≡ true). absurd (let e : Passed ≡ Of sender said = sym (cond-true (is_comment first) Passed sent passed) ∙ is in cc))
    (λ (kept : is_comment first ≡ false).
    let by = of_sender-ok (sender_named h first) (λ who. command.Bad reject.Long) sender said (sym (cond-false (is_comment first) Passed sent kept) ∙ is) in
    let named = sender_named-ok h first sender session by.0 in
    subst (IsSent h (Long first) sender) by.1 (record { sends = named.0; name = named.1; in_range = bad_command h sender reject.Long named.0; spelled = λ good. absurd (false≢true (sym good)) }))
    (cases_Bool (is_comment first))

-- a line whose fields begin with a sender's name and go on is that sender's
named_line : (h : Header) (text : List ℕ) (sender : ℕ) (name second : List ℕ) (more : List (List ℕ)) → 64 < get_or name 0 0 → sender_named h name ≡ Some sender → fields_of text ≡ name ∷ second ∷ more
    → command_line h (Whole text) ≡ Of sender (or_bad (command_said h sender (name ∷ second ∷ more)))
unfolding command_line
named_line h text sender name second more letter found is =
    rw (is, ne_eqb (length (name ∷ second ∷ more)) 0 (λ e. omega arith), ne_eqb (length (name ∷ second ∷ more)) 1 (λ e. omega arith), ne_eqb (get_or name 0 0) 35 (λ e. omega arith), found) refl

-- the first two of a command's fields
record Parts (h : Header) (sender : ℕ) (said : Command) : Type 0 where
  pub second : List ℕ
  pub more : List (List ℕ)
  pub is : command_fields h sender said ≡ sender_name h sender ∷ second ∷ more

parts_of : (h : Header) (sender : ℕ) (said : Command) → Parts h sender said
parts_of h sender (command.Order side pair price lots life) = record { second = _; more = _; is = refl }
parts_of h sender (command.Cancel pair number) = record { second = _; more = _; is = refl }
parts_of h sender (command.Reduce pair number lots) = record { second = _; more = _; is = refl }
parts_of h sender (command.Pull pair) = record { second = _; more = _; is = refl }
parts_of h sender (command.Line other limit) = record { second = _; more = _; is = refl }
parts_of h sender (command.Total limit) = record { second = _; more = _; is = refl }
parts_of h sender (command.Settle a b units) = record { second = _; more = _; is = refl }
parts_of h sender (command.Show other) = record { second = _; more = _; is = refl }
parts_of h sender (command.Book pair) = record { second = _; more = _; is = refl }
parts_of h sender (command.Bad fault) = record { second = _; more = _; is = refl }

command_line-fields : (h : Header) (text : List ℕ) (sender : ℕ) (said : Command) → IsSession h → IsSender h sender → fields_of text ≡ command_fields h sender said
    → command_line h (Whole text) ≡ Of sender (or_bad (command_said h sender (command_fields h sender said)))
command_line-fields h text sender said session sends is =
    let parts : Parts h sender said = parts_of h sender said in
    named_line h text sender (sender_name h sender) parts.second parts.more (sender_name-letter h sender session sends) (sender_named-name h sender session sends) (is ∙ parts.is)
    ∙ ap (λ (fields : List (List ℕ)). Of sender (or_bad (command_said h sender fields))) (sym parts.is)

pub command_line-spelled : (h : Header) (line : Line) (sender : ℕ) (said : Command) → IsSession h → IsCommand h sender said → is_bad said ≡ false → IsSpelled h line sender said
    → command_line h line ≡ Of sender said
command_line-spelled h (Whole text) sender said session in_range good is =
    command_line-fields h text sender said session (suits-sender h sender said in_range.sends) is
    ∙ ap (λ (read : Result Command Reject). Of sender (or_bad read)) (command_said-fields h sender said session in_range good)
command_line-spelled h (Long first) sender said session in_range good is = absurd is

-- a journal's line of a bad command
bad_word-unknown : (h : Header) (sender : ℕ) (fault : Reject) → command_said h sender (command_fields h sender (command.Bad fault)) ≡ Err reject.Word
unfolding command_said word_said
bad_word-unknown h sender fault = refl

fault_in-fields : (h : Header) (sender : ℕ) (fault : Reject) → Suits h sender (command.Bad fault) → fault_in h sender (command_fields h sender (command.Bad fault)) ≡ Some fault
fault_in-fields h sender fault suits =
    let within = code_within h sender fault suits in
    ap (option_and_then fault_of) (number_of-numeral 1 (last_fault h sender) (code_of fault) within.0 within.1) ∙ fault_of-code fault

fault_of-some : (number : Option ℕ) (fault : Reject) → option_and_then fault_of number ≡ Some fault → number ≡ Some (code_of fault)
fault_of-some None fault is = absurd (cc)
fault_of-some (Some n) fault is = ap Some (fault_of-ok n fault is)

-- what a journal's line gives a sender for a fault is spelled so, and the sender's lines can have it
fault_in-ok : (h : Header) (sender : ℕ) (fields : List (List ℕ)) (fault : Reject) → field_at fields 0 ≡ sender_name h sender → fault_in h sender fields ≡ Some fault
    → (fields ≡ command_fields h sender (command.Bad fault)) × (code_of fault ≤ last_fault h sender)
fault_in-ok h sender fields fault name is =
    let test : Bool = eqb (length fields) 3 && bytes_eq (field_at fields 1) bad_word in
    let read : Option Reject = option_and_then fault_of (number_of 1 (last_fault h sender) (field_at fields 2)) in
    ⊎_elim
    (λ (passes : test ≡ true).
    let parts = and_parts (eqb (length fields) 3) (bytes_eq (field_at fields 1) bad_word) passes in
    let number : number_of 1 (last_fault h sender) (field_at fields 2) ≡ Some (code_of fault) = fault_of-some (number_of 1 (last_fault h sender) (field_at fields 2)) fault (sym (cond-true test read None passes) ∙ is) in
    let reads : Reads 1 (last_fault h sender) (field_at fields 2) (number_of 1 (last_fault h sender) (field_at fields 2)) = Reads-number_of 1 (last_fault h sender) (field_at fields 2) in
    let most : code_of fault ≤ last_fault h sender = rw number at reads.most in
    let spelling : field_at fields 2 ≡ numeral (code_of fault) = rw number at reads.spelling in
    (fields_3 fields (sender_name h sender) bad_word (numeral (code_of fault)) (eqb-true (length fields) 3 parts.0) name ((bytes_decides (field_at fields 1) bad_word).0 parts.1) spelling, most))
    (λ (fails : test ≡ false). absurd (let e : None ≡ Some fault = sym (cond-false test read None fails) ∙ is in cc))
    (cases_Bool test)

-- a journal's line says a command of a sender
pub record IsRecorded (h : Header) (line : Line) (sender : ℕ) (said : Command) : Type 0 where
  pub sends : IsSender h sender
  pub in_range : IsCommand h sender said
  pub spelled : IsSpelled h line sender said

recorded_fault : (h : Header) (line : Line) (sender : ℕ) (said : Command) → IsSent h line sender said → (fault : Reject) → bad_said h sender line ≡ Some fault → IsRecorded h line sender (command.Bad fault)
recorded_fault h (Whole text) sender said sent fault is =
    let read = fault_in-ok h sender (fields_of text) fault sent.name is in
    record { sends = sent.sends; in_range = bad_command h sender fault (code-suits h sender fault sent.sends read.1); spelled = read.0 }
recorded_fault h (Long first) sender said sent fault is = absurd (cc)

recorded_bad : (h : Header) (line : Line) (who : ℕ) (given : Command) → IsSent h line who given → (fault : Option Reject) → bad_said h who line ≡ fault → (sender : ℕ) (said : Command)
    → option_map {T = Reject} {U = ℕ × Command} (λ reason. (who, command.Bad reason)) fault ≡ Some (sender, said) → IsRecorded h line sender said
recorded_bad h line who given sent None read sender said is = absurd (cc)
recorded_bad h line who given sent (Some fault) read sender said is =
    let same = some_pair_parts who sender (command.Bad fault) said is in
    subst (λ (one : ℕ). IsRecorded h line one said) same.0 (subst (IsRecorded h line who) same.1 (recorded_fault h line who given sent fault read))

recorded_of : (h : Header) (line : Line) (spoken : Spoken) → IsSession h → command_line h line ≡ spoken → (sender : ℕ) (said : Command) → recorded h line spoken ≡ Some (sender, said) → IsRecorded h line sender said
recorded_of h line (Of who given) session read sender said is =
    let sent : IsSent h line who given = IsSent-command_line h line who given session read in
    let bad : Option (ℕ × Command) = option_map (λ fault. (who, command.Bad fault)) (bad_said h who line) in
    ⊎_elim
    (λ (is_it : is_bad given ≡ true). recorded_bad h line who given sent (bad_said h who line) refl sender said (sym (cond-true (is_bad given) bad (Some (who, given)) is_it) ∙ is))
    (λ (good : is_bad given ≡ false).
    let same = some_pair_parts who sender given said (sym (cond-false (is_bad given) bad (Some (who, given)) good) ∙ is) in
    subst (λ (one : ℕ). IsRecorded h line one said) same.0 (subst (IsRecorded h line who) same.1 (record { sends = sent.sends; in_range = sent.in_range; spelled = sent.spelled good })))
    (cases_Bool (is_bad given))
recorded_of h line Stray session read sender said is = absurd (cc)
recorded_of h line End session read sender said is = absurd (cc)
recorded_of h line Passed session read sender said is = absurd (cc)

pub IsRecorded-journal_line : (h : Header) (line : Line) (sender : ℕ) (said : Command) → IsSession h → journal_line h line ≡ Some (sender, said) → IsRecorded h line sender said
unfolding journal_line
IsRecorded-journal_line h line sender said session is = recorded_of h line (command_line h line) session refl sender said is

-- what is spelled so is read so, a bad command too
spelled_good : (h : Header) (line : Line) (sender : ℕ) (said : Command) → IsSession h → IsCommand h sender said → IsSpelled h line sender said → is_bad said ≡ false
    → journal_line h line ≡ Some (sender, said)
unfolding journal_line
spelled_good h line sender said session in_range is good =
    ap (recorded h line) (command_line-spelled h line sender said session in_range good is) ∙ cond-false _ _ _ good

spelled_bad : (h : Header) (line : Line) (sender : ℕ) (fault : Reject) → Suits h sender (command.Bad fault) → IsSession h → IsSpelled h line sender (command.Bad fault) → journal_line h line ≡ Some (sender, command.Bad fault)
unfolding journal_line
spelled_bad h (Whole text) sender fault suits session is =
    ap (recorded h (Whole text))
    (command_line-fields h text sender (command.Bad fault) session (suits-sender h sender (command.Bad fault) suits) is ∙ ap (λ (read : Result Command Reject). Of sender (or_bad read)) (bad_word-unknown h sender fault))
    ∙ ap (option_map (λ reason. (sender, command.Bad reason))) (ap (fault_in h sender) is ∙ fault_in-fields h sender fault suits)
spelled_bad h (Long first) sender fault suits session is = absurd is

pub journal_line-spelled : (h : Header) (line : Line) (sender : ℕ) (said : Command) → IsSession h → IsCommand h sender said → IsSpelled h line sender said
    → journal_line h line ≡ Some (sender, said)
journal_line-spelled h line sender (command.Order side pair price lots life) session in_range is = spelled_good h line sender _ session in_range is refl
journal_line-spelled h line sender (command.Cancel pair number) session in_range is = spelled_good h line sender _ session in_range is refl
journal_line-spelled h line sender (command.Reduce pair number lots) session in_range is = spelled_good h line sender _ session in_range is refl
journal_line-spelled h line sender (command.Pull pair) session in_range is = spelled_good h line sender _ session in_range is refl
journal_line-spelled h line sender (command.Line other limit) session in_range is = spelled_good h line sender _ session in_range is refl
journal_line-spelled h line sender (command.Total limit) session in_range is = spelled_good h line sender _ session in_range is refl
journal_line-spelled h line sender (command.Settle a b units) session in_range is = spelled_good h line sender _ session in_range is refl
journal_line-spelled h line sender (command.Show other) session in_range is = spelled_good h line sender _ session in_range is refl
journal_line-spelled h line sender (command.Book pair) session in_range is = spelled_good h line sender _ session in_range is refl
journal_line-spelled h line sender (command.Bad fault) session in_range is = spelled_bad h line sender fault in_range.sends session is

-- what a line's sender and command have, of whatever is read
pub IfSent-command_line : (h : Header) (line : Line) (spoken : Spoken) → IsSession h → spoken ≡ command_line h line → (P : ℕ → Command → Type 0) → ((sender : ℕ) (said : Command) → IsSent h line sender said → P sender said) → IfSent spoken P
IfSent-command_line h line (Of sender said) session is P follows = follows sender said (IsSent-command_line h line sender said session (sym is))
IfSent-command_line h line Stray session is P follows = tt
IfSent-command_line h line End session is P follows = tt
IfSent-command_line h line Passed session is P follows = tt

pub IfSome-journal_line : (h : Header) (line : Line) (entry : Option (ℕ × Command)) → IsSession h → entry ≡ journal_line h line → (P : ℕ → Command → Type 0) → ((sender : ℕ) (said : Command) → IsRecorded h line sender said → P sender said)
    → IfSome entry (λ read. P read.0 read.1)
IfSome-journal_line h line None session is P follows = tt
IfSome-journal_line h line (Some read) session is P follows = follows read.0 read.1 (IsRecorded-journal_line h line read.0 read.1 session (sym is))
