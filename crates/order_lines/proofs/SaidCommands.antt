-- A line's fields say a command just where they are its spelling.
use Rattle.std.proofs.Common.{◌≡◌, ℕ, ◌<◌, true, false, not, cond, List, [], ◌∷◌, length, refl, sym, ap, ◌∙◌, arith, eqb, subst, ⊎_elim, Result, Ok, Err}
use Rattle.std.proofs.lemmas.Bool.{cases_Bool, cond-true, cond-false, and_parts, and_from, eqb-true, eq-eqb, false≢true, false_from_ne_true}
use Rattle.fx_amounts.specs.declared.side.Side.{Side}
use Rattle.fx_amounts.specs.declared.side.Side.TheVariants as side
use Rattle.fx_rules.specs.Session.{Header, IsSession, IsSender, bank_count, pair_count, pair_name}
use Rattle.fx_rules.specs.Step.{IsCommand, AreValues, Suits}
use Rattle.fx_rules.specs.declared.command.Command.{Command}
use Rattle.fx_rules.specs.declared.command.Command.TheVariants as command
use Rattle.fx_rules.specs.declared.command.Life.{Life}
use Rattle.fx_rules.specs.declared.command.Reject.{Reject}
use Rattle.fx_rules.specs.declared.command.Reject.TheVariants as reject
use Rattle.order_lines.specs.Grammar.{is_bad}
use Rattle.fx_text.specs.Fields.{field_at}
use Rattle.fx_text.specs.Faults.{◌>>=◌}
use Rattle.order_lines.specs.Reading.{pair_said, order_said, cancel_said, reduce_said, line_said, settle_said, said_after, word_said, command_said}
use Rattle.order_lines.specs.Spelling.{command_fields}
use Rattle.order_lines.specs.Words.{word_text, has_word, field_count, side_word, is_operator, sender_name}
use Rattle.order_lines.specs.declared.word.Word.{Word}
use Rattle.order_lines.specs.declared.word.Word.TheVariants.{Buy, Sell, Cancel, Reduce, Pull, Line, Show, Book, Total, Settle}
use Rattle.order_lines.proofs.SaidFields.{pair_said-ok, pair_said-name, price_said-ok, price_said-spelled, lots_said-ok, lots_said-numeral, life_said-ok, life_said-text, number_said-ok, number_said-numeral, bank_said-ok, bank_said-name, other_said-ok, other_said-name, limit_said-ok, limit_said-numeral, units_said-ok, units_said-numeral, word_said-ok, word_said-text}
use Rattle.order_lines.proofs.SenderNames.{operator-is, is-operator, bank-operates_not, sender-bank}

step-ok : {A B : Type 0} (read : Result A Reject) (next : A → Result B Reject) (y : B) → (read >>= next) ≡ Ok y → (x : A) × (read ≡ Ok x) × (next x ≡ Ok y)
step-ok (Ok x) next y said = (x, refl, said)
step-ok (Err fault) next y said = absurd (cc)

-- lists by their places
pub fields_3 : (fields : List (List ℕ)) (a b c : List ℕ) → length fields ≡ 3 → field_at fields 0 ≡ a → field_at fields 1 ≡ b → field_at fields 2 ≡ c → fields ≡ a ∷ b ∷ c ∷ []
fields_3 [] a b c count is_a is_b is_c = absurd (omega arith)
fields_3 (_ ∷ []) a b c count is_a is_b is_c = absurd (omega arith)
fields_3 (_ ∷ _ ∷ []) a b c count is_a is_b is_c = absurd (omega arith)
fields_3 (x ∷ y ∷ z ∷ []) a b c count is_a is_b is_c = cc
fields_3 (x ∷ y ∷ z ∷ w ∷ more) a b c count is_a is_b is_c = absurd (omega arith)

fields_4 : (fields : List (List ℕ)) (a b c d : List ℕ) → length fields ≡ 4 → field_at fields 0 ≡ a → field_at fields 1 ≡ b → field_at fields 2 ≡ c → field_at fields 3 ≡ d → fields ≡ a ∷ b ∷ c ∷ d ∷ []
fields_4 [] a b c d count is_a is_b is_c is_d = absurd (omega arith)
fields_4 (x ∷ fields) a b c d count is_a is_b is_c is_d = ap (λ (first : List ℕ). first ∷ fields) is_a ∙ ap (λ (rest : List (List ℕ)). a ∷ rest) (fields_3 fields b c d (omega arith) is_b is_c is_d)

fields_5 : (fields : List (List ℕ)) (a b c d e : List ℕ) → length fields ≡ 5 → field_at fields 0 ≡ a → field_at fields 1 ≡ b → field_at fields 2 ≡ c → field_at fields 3 ≡ d → field_at fields 4 ≡ e → fields ≡ a ∷ b ∷ c ∷ d ∷ e ∷ []
fields_5 [] a b c d e count is_a is_b is_c is_d is_e = absurd (omega arith)
fields_5 (x ∷ fields) a b c d e count is_a is_b is_c is_d is_e = ap (λ (first : List ℕ). first ∷ fields) is_a ∙ ap (λ (rest : List (List ℕ)). a ∷ rest) (fields_4 fields b c d e (omega arith) is_b is_c is_d is_e)

fields_6 : (fields : List (List ℕ)) (a b c d e f : List ℕ) → length fields ≡ 6 → field_at fields 0 ≡ a → field_at fields 1 ≡ b → field_at fields 2 ≡ c → field_at fields 3 ≡ d → field_at fields 4 ≡ e → field_at fields 5 ≡ f → fields ≡ a ∷ b ∷ c ∷ d ∷ e ∷ f ∷ []
fields_6 [] a b c d e f count is_a is_b is_c is_d is_e is_f = absurd (omega arith)
fields_6 (x ∷ fields) a b c d e f count is_a is_b is_c is_d is_e is_f = ap (λ (first : List ℕ). first ∷ fields) is_a ∙ ap (λ (rest : List (List ℕ)). a ∷ rest) (fields_5 fields b c d e f (omega arith) is_b is_c is_d is_e is_f)

-- the fields say a command: it is no bad one, its sender may send it, and the fields are its spelling
pub record SaysCommand (h : Header) (sender : ℕ) (fields : List (List ℕ)) (command : Command) : Type 0 where
  pub sends : Suits h sender command
  pub in_range : AreValues h sender command
  pub good : is_bad command ≡ false
  pub spelled : fields ≡ command_fields h sender command

-- the fields before the word's own: the sender's name and a word that it has, and there are as many as the word asks for
record Begins (h : Header) (sender : ℕ) (word : Word) (fields : List (List ℕ)) : Type 0 where
  pub count : length fields ≡ field_count word
  pub sends : IsSender h sender
  pub has : has_word h sender word ≡ true
  pub name : field_at fields 0 ≡ sender_name h sender
  pub is_word : field_at fields 1 ≡ word_text word

-- who has a word that the operator has not, is a bank
bank-has : (h : Header) (sender : ℕ) → IsSender h sender → not (is_operator h sender) ≡ true → sender < bank_count h
bank-has h sender is has = sender-bank h sender is (false_from_ne_true _ (λ operates. false≢true (ap not (sym operates) ∙ has)))

order-ok : (h : Header) (sender : ℕ) (side : Side) (fields : List (List ℕ)) (said : Command) → length fields ≡ 6 → sender < bank_count h → Begins h sender (side_word side) fields → order_said h side fields ≡ Ok said → SaysCommand h sender fields said
unfolding order_said
order-ok h sender side fields said count within begins is =
    let (pair, pair_is, rest) = step-ok _ _ _ is in
    let (price, price_is, rest') = step-ok _ _ _ rest in
    let (lots, lots_is, rest'') = step-ok _ _ _ rest' in
    let (life, life_is, last) = step-ok _ _ _ rest'' in
    let named = pair_said-ok h (field_at fields 2) pair pair_is in
    let priced = price_said-ok h pair (field_at fields 3) price price_is in
    let sized = lots_said-ok (field_at fields 4) lots lots_is in
    let same : command.Order side pair price lots life ≡ said = cc in
    subst (SaysCommand h sender fields) same (record {
      sends = within;
      in_range = (named.0, priced.0, sized.0);
      good = refl;
      spelled = fields_6 fields _ _ _ _ _ _ count begins.name begins.is_word named.1 priced.1 sized.1 (life_said-ok (field_at fields 5) life life_is);
    })

cancel-ok : (h : Header) (sender : ℕ) (fields : List (List ℕ)) (said : Command) → Begins h sender Cancel fields → cancel_said h fields ≡ Ok said → SaysCommand h sender fields said
unfolding cancel_said
cancel-ok h sender fields said begins is =
    let (pair, pair_is, rest) = step-ok _ _ _ is in
    let (number, number_is, last) = step-ok _ _ _ rest in
    let named = pair_said-ok h (field_at fields 2) pair pair_is in
    let numbered = number_said-ok (field_at fields 3) number number_is in
    let same : command.Cancel pair number ≡ said = cc in
    subst (SaysCommand h sender fields) same (record {
      sends = bank-has h sender begins.sends begins.has;
      in_range = (named.0, numbered.0);
      good = refl;
      spelled = fields_4 fields _ _ _ _ begins.count begins.name begins.is_word named.1 numbered.1;
    })

reduce-ok : (h : Header) (sender : ℕ) (fields : List (List ℕ)) (said : Command) → Begins h sender Reduce fields → reduce_said h fields ≡ Ok said → SaysCommand h sender fields said
unfolding reduce_said
reduce-ok h sender fields said begins is =
    let (pair, pair_is, rest) = step-ok _ _ _ is in
    let (number, number_is, rest') = step-ok _ _ _ rest in
    let (lots, lots_is, last) = step-ok _ _ _ rest' in
    let named = pair_said-ok h (field_at fields 2) pair pair_is in
    let numbered = number_said-ok (field_at fields 3) number number_is in
    let sized = lots_said-ok (field_at fields 4) lots lots_is in
    let same : command.Reduce pair number lots ≡ said = cc in
    subst (SaysCommand h sender fields) same (record {
      sends = bank-has h sender begins.sends begins.has;
      in_range = (named.0, numbered.0, sized.0);
      good = refl;
      spelled = fields_5 fields _ _ _ _ _ begins.count begins.name begins.is_word named.1 numbered.1 sized.1;
    })

-- a command of a pair alone
pair-ok : (h : Header) (sender : ℕ) (fields : List (List ℕ)) (said : Command) (made : ℕ → Command) → (pair_said h (field_at fields 2) >>= (λ pair. Ok (made pair))) ≡ Ok said
    → ((pair : ℕ) → pair < pair_count h → field_at fields 2 ≡ pair_name h pair → SaysCommand h sender fields (made pair)) → SaysCommand h sender fields said
pair-ok h sender fields said made is says =
    let (pair, pair_is, last) = step-ok _ _ _ is in
    let named = pair_said-ok h (field_at fields 2) pair pair_is in
    let same : made pair ≡ said = cc in
    subst (SaysCommand h sender fields) same (says pair named.0 named.1)

pull-ok : (h : Header) (sender : ℕ) (fields : List (List ℕ)) (said : Command) → Begins h sender Pull fields → said_after h sender Pull fields ≡ Ok said → SaysCommand h sender fields said
pull-ok h sender fields said begins is =
    pair-ok h sender fields said command.Pull is (λ pair within name. record { sends = bank-has h sender begins.sends begins.has; in_range = within; good = refl; spelled = fields_3 fields _ _ _ begins.count begins.name begins.is_word name })

line-ok : (h : Header) (sender : ℕ) (fields : List (List ℕ)) (said : Command) → Begins h sender Line fields → line_said h sender fields ≡ Ok said → SaysCommand h sender fields said
unfolding line_said
line-ok h sender fields said begins is =
    let (other, other_is, rest) = step-ok _ _ _ is in
    let (limit, limit_is, last) = step-ok _ _ _ rest in
    let named = other_said-ok h sender (field_at fields 2) other other_is in
    let limited = limit_said-ok (field_at fields 3) limit limit_is in
    let same : command.Line other limit ≡ said = cc in
    subst (SaysCommand h sender fields) same (record {
      sends = bank-has h sender begins.sends begins.has;
      in_range = (named.0, named.1, limited.0);
      good = refl;
      spelled = fields_4 fields _ _ _ _ begins.count begins.name begins.is_word named.2 limited.1;
    })

show-ok : (h : Header) (sender : ℕ) (fields : List (List ℕ)) (said : Command) → Begins h sender Show fields → said_after h sender Show fields ≡ Ok said → SaysCommand h sender fields said
show-ok h sender fields said begins is =
    let (other, other_is, last) = step-ok _ _ _ is in
    let named = other_said-ok h sender (field_at fields 2) other other_is in
    let same : command.Show other ≡ said = cc in
    subst (SaysCommand h sender fields) same (record {
      sends = bank-has h sender begins.sends begins.has;
      in_range = (named.0, named.1);
      good = refl;
      spelled = fields_3 fields _ _ _ begins.count begins.name begins.is_word named.2;
    })

book-ok : (h : Header) (sender : ℕ) (fields : List (List ℕ)) (said : Command) → Begins h sender Book fields → said_after h sender Book fields ≡ Ok said → SaysCommand h sender fields said
book-ok h sender fields said begins is =
    pair-ok h sender fields said command.Book is (λ pair within name. record { sends = bank-has h sender begins.sends begins.has; in_range = within; good = refl; spelled = fields_3 fields _ _ _ begins.count begins.name begins.is_word name })

total-ok : (h : Header) (sender : ℕ) (fields : List (List ℕ)) (said : Command) → Begins h sender Total fields → said_after h sender Total fields ≡ Ok said → SaysCommand h sender fields said
total-ok h sender fields said begins is =
    let (limit, limit_is, last) = step-ok _ _ _ is in
    let limited = limit_said-ok (field_at fields 2) limit limit_is in
    let has = and_parts (eqb h.version 2) (not (is_operator h sender)) begins.has in
    let same : command.Total limit ≡ said = cc in
    subst (SaysCommand h sender fields) same (record {
      sends = (eqb-true h.version 2 has.0, bank-has h sender begins.sends has.1);
      in_range = limited.0;
      good = refl;
      spelled = fields_3 fields _ _ _ begins.count begins.name begins.is_word limited.1;
    })

settle-ok : (h : Header) (sender : ℕ) (fields : List (List ℕ)) (said : Command) → Begins h sender Settle fields → settle_said h fields ≡ Ok said → SaysCommand h sender fields said
unfolding settle_said
settle-ok h sender fields said begins is =
    let (a, a_is, rest) = step-ok _ _ _ is in
    let (b, b_is, rest') = step-ok _ _ _ rest in
    let (units, units_is, last) = step-ok _ _ _ rest' in
    let one = bank_said-ok h (field_at fields 2) a a_is in
    let other = other_said-ok h a (field_at fields 3) b b_is in
    let given = units_said-ok (field_at fields 4) units units_is in
    let same : command.Settle a b units ≡ said = cc in
    subst (SaysCommand h sender fields) same (record {
      sends = operator-is h sender begins.has;
      in_range = (one.0, other.0, λ equal. other.1 (sym equal), given.0, given.1);
      good = refl;
      spelled = fields_5 fields _ _ _ _ _ begins.count begins.name begins.is_word one.1 other.2 given.2;
    })

said_after-ok : (h : Header) (sender : ℕ) (word : Word) (fields : List (List ℕ)) (said : Command) → Begins h sender word fields → said_after h sender word fields ≡ Ok said → SaysCommand h sender fields said
said_after-ok h sender Buy fields said begins is = order-ok h sender side.Buy fields said begins.count (bank-has h sender begins.sends begins.has) begins is
said_after-ok h sender Sell fields said begins is = order-ok h sender side.Sell fields said begins.count (bank-has h sender begins.sends begins.has) begins is
said_after-ok h sender Cancel fields said begins is = cancel-ok h sender fields said begins is
said_after-ok h sender Reduce fields said begins is = reduce-ok h sender fields said begins is
said_after-ok h sender Pull fields said begins is = pull-ok h sender fields said begins is
said_after-ok h sender Line fields said begins is = line-ok h sender fields said begins is
said_after-ok h sender Show fields said begins is = show-ok h sender fields said begins is
said_after-ok h sender Book fields said begins is = book-ok h sender fields said begins is
said_after-ok h sender Total fields said begins is = total-ok h sender fields said begins is
said_after-ok h sender Settle fields said begins is = settle-ok h sender fields said begins is

-- the command behind a word, where there are as many fields as it asks for
abbrev pub by_count : Header → ℕ → List (List ℕ) → Word → Result Command Reject
by_count h sender fields word = cond (eqb (length fields) (field_count word)) (said_after h sender word fields) (Err reject.Count)

-- what is read is spelled so
pub command_said-ok : (h : Header) (sender : ℕ) (fields : List (List ℕ)) (said : Command) → IsSender h sender → field_at fields 0 ≡ sender_name h sender → command_said h sender fields ≡ Ok said → SaysCommand h sender fields said
unfolding command_said
command_said-ok h sender fields said sends name is =
    let (word, word_is, rest) = step-ok (word_said h sender fields) (by_count h sender fields) said is in
    let had = word_said-ok h sender fields word word_is in
    ⊎_elim
    (λ (counted : eqb (length fields) (field_count word) ≡ true).
    said_after-ok h sender word fields said (record { count = eqb-true (length fields) (field_count word) counted; sends = sends; has = had.1; name = name; is_word = had.0 }) (sym (cond-true _ _ _ counted) ∙ rest))
    (λ (miscounted : eqb (length fields) (field_count word) ≡ false).
    absurd (let fault : Err reject.Count ≡ Ok said = sym (cond-false (eqb (length fields) (field_count word)) (said_after h sender word fields) (Err reject.Count) miscounted) ∙ rest in cc))
    (cases_Bool (eqb (length fields) (field_count word)))

-- what is spelled so is read
by_word-said : (h : Header) (sender : ℕ) (fields : List (List ℕ)) (word : Word) → field_at fields 1 ≡ word_text word → has_word h sender word ≡ true → length fields ≡ field_count word
    → command_said h sender fields ≡ said_after h sender word fields
unfolding command_said
by_word-said h sender fields word is has count =
    ap (λ (read : Result Word Reject). read >>= by_count h sender fields) (word_said-text h sender fields word is has)
    ∙ cond-true (eqb (length fields) (field_count word)) (said_after h sender word fields) (Err reject.Count) (eq-eqb (length fields) (field_count word) count)

bank-word : (h : Header) (bank : ℕ) → IsSession h → bank < bank_count h → not (is_operator h bank) ≡ true
bank-word h bank session within = ap not (bank-operates_not h bank session within)

order-spelled : (h : Header) (sender : ℕ) (side : Side) (pair price lots : ℕ) (life : Life) → IsSession h → AreValues h sender (command.Order side pair price lots life)
    → order_said h side (command_fields h sender (command.Order side pair price lots life)) ≡ Ok (command.Order side pair price lots life)
unfolding order_said
order-spelled h sender side pair price lots life session is =
    rw (pair_said-name h pair session is.0, price_said-spelled h pair price is.1, lots_said-numeral lots is.2, life_said-text life) refl

settle-spelled : (h : Header) (sender a b units : ℕ) → IsSession h → AreValues h sender (command.Settle a b units)
    → settle_said h (command_fields h sender (command.Settle a b units)) ≡ Ok (command.Settle a b units)
unfolding settle_said
settle-spelled h sender a b units session is =
    rw (bank_said-name h a session is.0, other_said-name h a b session is.1 (λ equal. is.2 (sym equal)), units_said-numeral units is.3 is.4) refl

pub command_said-fields : (h : Header) (sender : ℕ) (said : Command) → IsSession h → IsCommand h sender said → is_bad said ≡ false → command_said h sender (command_fields h sender said) ≡ Ok said
unfolding cancel_said reduce_said line_said
command_said-fields h sender (command.Order side.Buy pair price lots life) session is good =
    by_word-said h sender _ Buy refl (bank-word h sender session is.sends) refl ∙ order-spelled h sender side.Buy pair price lots life session is.values
command_said-fields h sender (command.Order side.Sell pair price lots life) session is good =
    by_word-said h sender _ Sell refl (bank-word h sender session is.sends) refl ∙ order-spelled h sender side.Sell pair price lots life session is.values
command_said-fields h sender (command.Cancel pair number) session is good =
    by_word-said h sender _ Cancel refl (bank-word h sender session is.sends) refl ∙ rw (pair_said-name h pair session is.values.0, number_said-numeral number is.values.1) refl
command_said-fields h sender (command.Reduce pair number lots) session is good =
    by_word-said h sender _ Reduce refl (bank-word h sender session is.sends) refl
    ∙ rw (pair_said-name h pair session is.values.0, number_said-numeral number is.values.1, lots_said-numeral lots is.values.2) refl
command_said-fields h sender (command.Pull pair) session is good =
    by_word-said h sender _ Pull refl (bank-word h sender session is.sends) refl ∙ rw (pair_said-name h pair session is.values) refl
command_said-fields h sender (command.Line other limit) session is good =
    by_word-said h sender _ Line refl (bank-word h sender session is.sends) refl ∙ rw (other_said-name h sender other session is.values.0 is.values.1, limit_said-numeral limit is.values.2) refl
command_said-fields h sender (command.Total limit) session is good =
    by_word-said h sender _ Total refl (and_from (eqb h.version 2) (not (is_operator h sender)) (eq-eqb h.version 2 is.sends.0) (bank-word h sender session is.sends.1)) refl
    ∙ rw (limit_said-numeral limit is.values) refl
command_said-fields h sender (command.Settle a b units) session is good =
    by_word-said h sender _ Settle refl (is-operator h sender is.sends) refl ∙ settle-spelled h sender a b units session is.values
command_said-fields h sender (command.Show other) session is good =
    by_word-said h sender _ Show refl (bank-word h sender session is.sends) refl ∙ rw (other_said-name h sender other session is.values.0 is.values.1) refl
command_said-fields h sender (command.Book pair) session is good =
    by_word-said h sender _ Book refl (bank-word h sender session is.sends) refl ∙ rw (pair_said-name h pair session is.values) refl
command_said-fields h sender (command.Bad fault) session is good = absurd (cc)
