-- With whatever fault a sender's line is read, it is one that the sender's lines can have: the operator's alone is none of a bank's.
use Rattle.std.proofs.Common.{◌≡◌, ℕ, ◌≤◌, Bool, true, false, cond, List, length, eqb, refl, arith, subst, ⊎_elim, Option, Some, None, Result, Ok, Err, ok_or}
use Rattle.std.proofs.lemmas.Bool.{cases_Bool, cond-true, cond-false}
use Rattle.fx_amounts.specs.PriceText.{price_of}
use Rattle.fx_amounts.specs.declared.price_text.PriceFault.{PriceFault}
use Rattle.fx_amounts.specs.declared.price_text.PriceFault.TheVariants.{Form, Range}
use Rattle.fx_amounts.specs.declared.side.Side.{Side}
use Rattle.fx_amounts.specs.declared.side.Side.TheVariants as side
use Rattle.fx_text.specs.Fields.{field_at}
use Rattle.fx_text.specs.Faults.{◌>>=◌}
use Rattle.fx_text.specs.Number.{number_of}
use Rattle.fx_rules.specs.Reject.{code_of}
use Rattle.fx_rules.specs.Session.{Header, IsSender, bank_named, host, pair_named, decimals_of}
use Rattle.fx_rules.specs.Step.{Suits}
use Rattle.fx_rules.specs.declared.command.Command.{Command}
use Rattle.fx_rules.specs.declared.command.Command.TheVariants as command
use Rattle.fx_rules.specs.declared.command.Reject.{Reject}
use Rattle.fx_rules.specs.declared.command.Reject.TheVariants as reject
use Rattle.order_lines.specs.Reading.{pair_said, price_said, price_or_fault, lots_said, life_said, number_said, bank_said, other_said, limit_said, units_said, order_said, cancel_said, reduce_said, line_said, settle_said, said_after, word_said, command_said}
use Rattle.order_lines.specs.Words.{word_of, has_word, field_count, life_of, is_operator, last_fault}
use Rattle.order_lines.specs.declared.word.Word.{Word}
use Rattle.order_lines.specs.declared.word.Word.TheVariants.{Buy, Sell, Cancel, Reduce, Pull, Line, Show, Book, Total, Settle}
use Rattle.order_lines.proofs.SaidFields.{word_said-ok}
use Rattle.order_lines.proofs.SenderNames.{operator-is, is-operator}

-- The lines of a sender.
module _ (h : Header) (sender : ℕ) (is : IsSender h sender) where
  -- what was read is no fault, or one that the sender's line can have
  abbrev IsOwn : {A : Type 0} → Result A Reject → Type 0
  IsOwn (Ok x) = Unit {0}
  IsOwn (Err fault) = Suits h sender (command.Bad fault)

  own-or : {A : Type 0} (option : Option A) (fault : Reject) → Suits h sender (command.Bad fault) → IsOwn (ok_or option fault)
  own-or None fault suits = suits
  own-or (Some x) fault suits = tt

  -- readings one after another
  own-on : {A B : Type 0} (read : Result A Reject) (next : A → Result B Reject) → IsOwn read → ((x : A) → read ≡ Ok x → IsOwn (next x)) → IsOwn (read >>= next)
  own-on (Ok x) next first rest = rest x refl
  own-on (Err fault) next first rest = first

  own-then : {A B : Type 0} (read : Result A Reject) (next : A → Result B Reject) → IsOwn read → ((x : A) → IsOwn (next x)) → IsOwn (read >>= next)
  own-then read next first rest = own-on read next first (λ x read_so. rest x)

  own-price : (read : Result ℕ PriceFault) → IsOwn (price_or_fault read)
  own-price (Ok price) = tt
  own-price (Err Form) = is
  own-price (Err Range) = is

  own-either : {A : Type 0} (test : Bool) (one other : Result A Reject) → IsOwn one → IsOwn other → IsOwn (cond test one other)
  own-either true one other first second = first
  own-either false one other first second = second

  own-bank : (text : List ℕ) → IsOwn (bank_said h text)
  unfolding bank_said
  own-bank text = own-or (bank_named h.banks text) reject.Bank is

  own-other : (bank : ℕ) (text : List ℕ) → IsOwn (other_said h bank text)
  unfolding other_said
  own-other bank text =
      own-then (bank_said h text) (λ other. cond (eqb other bank) (Err reject.Bank) (Ok other)) (own-bank text)
      (λ other. own-either (eqb other bank) (Err reject.Bank) (Ok other) is tt)

  own-order : (way : Side) (fields : List (List ℕ)) → IsOwn (order_said h way fields)
  unfolding order_said pair_said price_said lots_said life_said
  own-order way fields =
      own-then _ _ (own-or (pair_named h (field_at fields 2)) reject.Pair is) (λ pair.
      own-then _ _ (own-price (price_of (decimals_of h pair) (field_at fields 3))) (λ price.
      own-then _ _ (own-or (number_of 1 1000000 (field_at fields 4)) reject.Lots is) (λ lots.
      own-then _ _ (own-or (life_of (field_at fields 5)) reject.Life is) (λ life. tt))))

  own-cancel : (fields : List (List ℕ)) → IsOwn (cancel_said h fields)
  unfolding cancel_said pair_said number_said
  own-cancel fields =
      own-then _ _ (own-or (pair_named h (field_at fields 2)) reject.Pair is) (λ pair.
      own-then _ _ (own-or (number_of 1 4294967295 (field_at fields 3)) reject.Number is) (λ number. tt))

  own-reduce : (fields : List (List ℕ)) → IsOwn (reduce_said h fields)
  unfolding reduce_said pair_said number_said lots_said
  own-reduce fields =
      own-then _ _ (own-or (pair_named h (field_at fields 2)) reject.Pair is) (λ pair.
      own-then _ _ (own-or (number_of 1 4294967295 (field_at fields 3)) reject.Number is) (λ number.
      own-then _ _ (own-or (number_of 1 1000000 (field_at fields 4)) reject.Lots is) (λ lots. tt)))

  own-limit : (text : List ℕ) (made : ℕ → Command) → IsOwn (limit_said text >>= (λ limit. Ok (made limit)))
  unfolding limit_said
  own-limit text made = own-then _ _ (own-or (number_of 0 1000000000000000 text) reject.Limit is) (λ limit. tt)

  own-line : (fields : List (List ℕ)) → IsOwn (line_said h sender fields)
  unfolding line_said
  own-line fields =
      own-then (other_said h sender (field_at fields 2)) (λ other. limit_said (field_at fields 3) >>= (λ limit. Ok (command.Line other limit)))
      (own-other sender (field_at fields 2)) (λ other. own-limit (field_at fields 3) (command.Line other))

  own-settle : (fields : List (List ℕ)) → (h.version ≡ 2) × (sender ≡ host) → IsOwn (settle_said h fields)
  unfolding settle_said units_said
  own-settle fields operator =
      own-then (bank_said h (field_at fields 2)) _ (own-bank (field_at fields 2)) (λ a.
      own-then (other_said h a (field_at fields 3)) _ (own-other a (field_at fields 3)) (λ b.
      own-then _ _ (own-or (number_of 1 1000000000000000 (field_at fields 4)) reject.Units operator) (λ units. tt)))

  own-pair : (fields : List (List ℕ)) (made : ℕ → Command) → IsOwn (pair_said h (field_at fields 2) >>= (λ pair. Ok (made pair)))
  unfolding pair_said
  own-pair fields made = own-then _ _ (own-or (pair_named h (field_at fields 2)) reject.Pair is) (λ pair. tt)

  own-after : (word : Word) (fields : List (List ℕ)) → has_word h sender word ≡ true → IsOwn (said_after h sender word fields)
  own-after Buy fields has = own-order side.Buy fields
  own-after Sell fields has = own-order side.Sell fields
  own-after Cancel fields has = own-cancel fields
  own-after Reduce fields has = own-reduce fields
  own-after Pull fields has = own-pair fields command.Pull
  own-after Line fields has = own-line fields
  own-after Show fields has = own-then (other_said h sender (field_at fields 2)) (λ other. Ok (command.Show other)) (own-other sender (field_at fields 2)) (λ other. tt)
  own-after Book fields has = own-pair fields command.Book
  own-after Total fields has = own-limit (field_at fields 2) command.Total
  own-after Settle fields has = own-settle fields (operator-is h sender has)

  own-word : (fields : List (List ℕ)) → IsOwn (word_said h sender fields)
  unfolding word_said
  own-word fields =
      own-then (ok_or (word_of (field_at fields 1)) reject.Word) (λ word. cond (has_word h sender word) (Ok word) (Err reject.Word))
      (own-or (word_of (field_at fields 1)) reject.Word is) (λ word. own-either (has_word h sender word) (Ok word) (Err reject.Word) tt is)

  own-command : (fields : List (List ℕ)) → IsOwn (command_said h sender fields)
  unfolding command_said
  own-command fields =
      own-on (word_said h sender fields) (λ word. cond (eqb (length fields) (field_count word)) (said_after h sender word fields) (Err reject.Count))
      (own-word fields)
      (λ word said. own-either (eqb (length fields) (field_count word)) (said_after h sender word fields) (Err reject.Count)
      (own-after word fields (word_said-ok h sender fields word said).1) is)

  -- of a line that is read for its command
  pub command_said-fault : (fields : List (List ℕ)) (fault : Reject) → command_said h sender fields ≡ Err fault → Suits h sender (command.Bad fault)
  command_said-fault fields fault read = subst (λ (said : Result Command Reject). IsOwn said) read (own-command fields)

-- The numbers of the faults that a sender's lines can have.
last_fault-least : (h : Header) (sender : ℕ) → 11 ≤ last_fault h sender
last_fault-least h sender =
    ⊎_elim
    (λ (operates : is_operator h sender ≡ true). omega (arith, cond-true {A = ℕ} (is_operator h sender) 12 11 operates))
    (λ (none : is_operator h sender ≡ false). omega (arith, cond-false {A = ℕ} (is_operator h sender) 12 11 none))
    (cases_Bool (is_operator h sender))

pub last_fault-most : (h : Header) (sender : ℕ) → last_fault h sender ≤ 12
last_fault-most h sender =
    ⊎_elim
    (λ (operates : is_operator h sender ≡ true). omega (arith, cond-true {A = ℕ} (is_operator h sender) 12 11 operates))
    (λ (none : is_operator h sender ≡ false). omega (arith, cond-false {A = ℕ} (is_operator h sender) 12 11 none))
    (cases_Bool (is_operator h sender))

pub code_within : (h : Header) (sender : ℕ) (fault : Reject) → Suits h sender (command.Bad fault) → (1 ≤ code_of fault) × (code_of fault ≤ last_fault h sender)
code_within h sender reject.Units suits = (omega arith, omega (arith, cond-true {A = ℕ} (is_operator h sender) 12 11 (is-operator h sender suits)))
code_within h sender reject.Word suits = (omega arith, omega (arith, last_fault-least h sender))
code_within h sender reject.Count suits = (omega arith, omega (arith, last_fault-least h sender))
code_within h sender reject.Pair suits = (omega arith, omega (arith, last_fault-least h sender))
code_within h sender reject.PriceForm suits = (omega arith, omega (arith, last_fault-least h sender))
code_within h sender reject.PriceRange suits = (omega arith, omega (arith, last_fault-least h sender))
code_within h sender reject.Lots suits = (omega arith, omega (arith, last_fault-least h sender))
code_within h sender reject.Bank suits = (omega arith, omega (arith, last_fault-least h sender))
code_within h sender reject.Limit suits = (omega arith, omega (arith, last_fault-least h sender))
code_within h sender reject.Number suits = (omega arith, omega (arith, last_fault-least h sender))
code_within h sender reject.Life suits = (omega arith, omega (arith, last_fault-least h sender))
code_within h sender reject.Long suits = (omega arith, omega (arith, last_fault-least h sender))

operator_alone : (h : Header) (sender : ℕ) → 12 ≤ last_fault h sender → (h.version ≡ 2) × (sender ≡ host)
operator_alone h sender most =
    ⊎_elim
    (λ (operates : is_operator h sender ≡ true). operator-is h sender operates)
    (λ (none : is_operator h sender ≡ false). absurd (omega (arith, most, cond-false {A = ℕ} (is_operator h sender) 12 11 none)))
    (cases_Bool (is_operator h sender))

pub code-suits : (h : Header) (sender : ℕ) (fault : Reject) → IsSender h sender → code_of fault ≤ last_fault h sender → Suits h sender (command.Bad fault)
code-suits h sender reject.Units is most = operator_alone h sender most
code-suits h sender reject.Word is most = is
code-suits h sender reject.Count is most = is
code-suits h sender reject.Pair is most = is
code-suits h sender reject.PriceForm is most = is
code-suits h sender reject.PriceRange is most = is
code-suits h sender reject.Lots is most = is
code-suits h sender reject.Bank is most = is
code-suits h sender reject.Limit is most = is
code-suits h sender reject.Number is most = is
code-suits h sender reject.Life is most = is
code-suits h sender reject.Long is most = is
