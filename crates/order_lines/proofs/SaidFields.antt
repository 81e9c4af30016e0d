-- A field says just what it is the spelling of.
use Rattle.std.proofs.Common.{◌≡◌, ◌≢◌, ℕ, ◌^◌, ◌<◌, ◌≤◌, Bool, true, false, List, [], ◌∷◌, length, map, get_or, take, drop, refl, sym, ap, ◌∙◌, arith, cond, eqb, subst, ⊎_elim, Option, Some, None, Result, Ok, Err, ok_or, position, option_map, slice_get, bytes_eq, find}
use Rattle.std.proofs.lemmas.Bool.{cases_Bool, cases_lt, cond-true, cond-false, lt-ltb, ne_eqb, eq-eqb, eqb-true, false≢true, false_from_ne_true}
use Rattle.std.proofs.lemmas.List.{length-map, take_at, drop_at}
use Rattle.std.proofs.lemmas.List.Sums.{position_or_len_is}
use Rattle.std.proofs.lemmas.Option.{slice_get-map, slice_get_within, get_or_from_slice_get}
use Rattle.std.specs.Cmp.Lexicographic.{bytes_decides}
use Rattle.std.specs.List.{position_or_len}
use Rattle.fx_amounts.specs.Numeral.{numeral}
use Rattle.fx_amounts.specs.Price.{IsPrice}
use Rattle.fx_amounts.specs.PriceText.{price_text, price_of, price_of_ticks}
use Rattle.fx_amounts.specs.Quantity.{IsLots, IsUnits}
use Rattle.fx_amounts.specs.declared.price_text.PriceFault.{PriceFault}
use Rattle.fx_amounts.specs.declared.price_text.PriceFault.TheVariants.{Form, Range}
use Rattle.fx_amounts.proofs.PriceTextLemmas.{Says, Says-price_of, price_of-price_text, price_of_ticks-in, price_of_ticks-out}
use Rattle.fx_text.specs.Faults.{◌>>=◌}
use Rattle.fx_text.specs.Fields.{field_at}
use Rattle.fx_text.specs.Number.{number_of}
use Rattle.fx_text.proofs.NumberLemmas.{Reads, Reads-number_of, number_of-numeral}
use Rattle.fx_rules.specs.Reject.{code_of}
use Rattle.fx_rules.specs.Session.{Header, IsSession, IsPairRule, AreSamePair, bank_count, pair_count, bank_named, pair_named, pair_text, bank_name, decimals_of, pair_name}
use Rattle.fx_rules.specs.Step.{IsNumber}
use Rattle.fx_rules.specs.declared.command.Life.{Life}
use Rattle.fx_rules.specs.declared.command.Life.TheVariants.{Day, Ioc, Fok}
use Rattle.fx_rules.specs.declared.command.Reject.{Reject}
use Rattle.fx_rules.specs.declared.command.Reject.TheVariants as reject
use Rattle.fx_rules.specs.declared.session.PairRule.{PairRule}
use Rattle.fx_rules.proofs.SessionLemmas.{found_from_place}
use Rattle.order_lines.specs.Words.{word_text, word_of, has_word, life_text, life_of, fault_of, faults}
use Rattle.order_lines.specs.Reading.{pair_said, price_said, price_or_fault, lots_said, life_said, number_said, bank_said, other_said, limit_said, units_said, word_said}
use Rattle.order_lines.specs.inside.Printing.{price_spelled}
use Rattle.order_lines.specs.declared.word.Word.{Word}
use Rattle.order_lines.specs.declared.word.Word.TheVariants.{Buy, Sell, Cancel, Reduce, Pull, Line, Show, Book, Total, Settle}
use Rattle.fx_rules.proofs.NameTexts.{HasCodeBytes-code}
use Rattle.order_lines.proofs.FieldTexts.{no_rule, pair_name-is}

-- a fault or a value
pub ok_or-ok : {A : Type 0} (option : Option A) (fault : Reject) (x : A) → ok_or option fault ≡ Ok x → option ≡ Some x
ok_or-ok None fault x e = absurd (cc)
ok_or-ok (Some y) fault x e = cc

find-passes : {A : Type 0} (test : A → Bool) (xs : List A) (x : A) → find test xs ≡ Some x → test x ≡ true
find-passes test [] x e = absurd (cc)
find-passes {A} test (y ∷ ys) x e = ⊎_elim
    (λ (passes : test y ≡ true). let is : find test (y ∷ ys) ≡ Some y = cond-true _ _ _ passes in
    let same : y ≡ x = cc in subst (λ (z : A). test z ≡ true) same passes)
    (λ (fails : test y ≡ false). let is : find test (y ∷ ys) ≡ find test ys = cond-false _ _ _ fails in find-passes test ys x (sym is ∙ e))
    (cases_Bool (test y))

-- the place of an element that passes, where none before it does
position-is : {X : Type 0} (p : X → Bool) (xs : List X) (at : ℕ) (d : X) → at < length xs → p (get_or xs at d) ≡ true → ((k : ℕ) → k < at → p (get_or xs k d) ≡ false) → position p xs ≡ Some at
position-is p xs at d within passes before =
    let is : position_or_len p xs ≡ at = position_or_len_is p xs at d (omega arith) before (λ _. passes) in
    rw (is, lt-ltb at (length xs) within) refl

option_map-id : {A : Type 0} (option : Option A) → option_map (λ x. x) option ≡ option
option_map-id None = refl
option_map-id (Some x) = refl

-- a bank's name
pub bank_named-ok : (h : Header) (text : List ℕ) (bank : ℕ) → bank_named h.banks text ≡ Some bank → (bank < bank_count h) × (text ≡ bank_name h bank)
bank_named-ok h text bank found =
    let at : slice_get h.banks bank ≡ Some text = sym (option_map-id (slice_get h.banks bank)) ∙ found_from_place (λ name. name) text h.banks bank found in
    (slice_get_within h.banks bank text at, sym (get_or_from_slice_get h.banks bank text [] at))

pub bank_named-name : (h : Header) (bank : ℕ) → IsSession h → bank < bank_count h → bank_named h.banks (bank_name h bank) ≡ Some bank
bank_named-name h bank session within =
    position-is (λ name. bytes_eq name (bank_name h bank)) h.banks bank [] within
    ((bytes_decides (bank_name h bank) (bank_name h bank)).1 refl)
    (λ k before. false_from_ne_true _ (λ same. session.names_differ k bank [] before within ((bytes_decides (get_or h.banks k []) (bank_name h bank)).0 same)))

-- a pair
pub pair_named-ok : (h : Header) (text : List ℕ) (pair : ℕ) → pair_named h text ≡ Some pair → (pair < pair_count h) × (text ≡ pair_name h pair)
pair_named-ok h text pair found =
    let at : slice_get (map pair_text h.pairs) pair ≡ Some text = slice_get-map pair_text h.pairs pair ∙ found_from_place pair_text text h.pairs pair found in
    let within : pair < length (map pair_text h.pairs) = slice_get_within (map pair_text h.pairs) pair text at in
    (omega (arith, length-map h.pairs pair_text), sym (get_or_from_slice_get (map pair_text h.pairs) pair text [] at))

same_pair : (a b : PairRule) → IsPairRule a → IsPairRule b → pair_text a ≡ pair_text b → AreSamePair a b
same_pair a b left right same =
    let base : length a.base ≡ 3 = (HasCodeBytes-code a.base left.base).size in
    let base' : length b.base ≡ 3 = (HasCodeBytes-code b.base right.base).size in (
      sym (take_at a.base (47 ∷ a.quote) 3 base) ∙ ap (take 3) same ∙ take_at b.base (47 ∷ b.quote) 3 base',
      ap (drop 1) (sym (drop_at a.base (47 ∷ a.quote) 3 base) ∙ ap (drop 3) same ∙ drop_at b.base (47 ∷ b.quote) 3 base'),
    )

pub pair_named-name : (h : Header) (pair : ℕ) → IsSession h → pair < pair_count h → pair_named h (pair_name h pair) ≡ Some pair
pair_named-name h pair session within =
    let is : pair_name h pair ≡ pair_text (get_or h.pairs pair no_rule) = pair_name-is h pair within in
    position-is (λ rule. bytes_eq (pair_text rule) (pair_name h pair)) h.pairs pair no_rule within
    ((bytes_decides (pair_text (get_or h.pairs pair no_rule)) (pair_name h pair)).1 (sym is))
    (λ k before. false_from_ne_true _ (λ passes.
    let earlier : k < pair_count h = omega arith in
    let same : pair_text (get_or h.pairs k no_rule) ≡ pair_text (get_or h.pairs pair no_rule) = (bytes_decides (pair_text (get_or h.pairs k no_rule)) (pair_name h pair)).0 passes ∙ is in
    session.pairs_differ k pair no_rule before within
    (same_pair (get_or h.pairs k no_rule) (get_or h.pairs pair no_rule) (session.rules k no_rule earlier) (session.rules pair no_rule within) same)))

pub pair_said-ok : (h : Header) (text : List ℕ) (pair : ℕ) → pair_said h text ≡ Ok pair → (pair < pair_count h) × (text ≡ pair_name h pair)
unfolding pair_said
pair_said-ok h text pair said = pair_named-ok h text pair (ok_or-ok (pair_named h text) reject.Pair pair said)

pub pair_said-name : (h : Header) (pair : ℕ) → IsSession h → pair < pair_count h → pair_said h (pair_name h pair) ≡ Ok pair
unfolding pair_said
pair_said-name h pair session within = ap (λ (option : Option ℕ). ok_or option reject.Pair) (pair_named-name h pair session within)

-- a price
price_or_fault-ok : (read : Result ℕ PriceFault) (price : ℕ) → price_or_fault read ≡ Ok price → read ≡ Ok price
price_or_fault-ok (Ok value) price e = cc
price_or_fault-ok (Err Form) price e = absurd (cc)
price_or_fault-ok (Err Range) price e = absurd (cc)

price_in_range : (ticks : ℕ) → price_of_ticks ticks ≡ Ok ticks → IsPrice ticks
price_in_range ticks is = ⊎_elim
    (λ (low : ticks < 1). absurd (let out : price_of_ticks ticks ≡ Err Range = price_of_ticks-out ticks (λ h. omega arith) in cc))
    (λ (some : 1 ≤ ticks). ⊎_elim
    (λ (high : 10 ^ 9 < ticks). absurd (let out : price_of_ticks ticks ≡ Err Range = price_of_ticks-out ticks (λ h. omega arith) in cc))
    (λ (most : ticks ≤ 10 ^ 9). (some, most))
    (cases_lt (10 ^ 9) ticks))
    (cases_lt ticks 1)

pub price_said-ok : (h : Header) (pair : ℕ) (text : List ℕ) (price : ℕ) → price_said h pair text ≡ Ok price → IsPrice price × (text ≡ price_spelled h pair price)
unfolding price_said
price_said-ok h pair text price said =
    let decimals : ℕ = decimals_of h pair in
    let read : price_of decimals text ≡ Ok price = price_or_fault-ok (price_of decimals text) price said in
    let says : Says decimals text (price_of decimals text) = Says-price_of decimals text in
    let spelling : text ≡ price_text decimals price = rw read at says.value in
    (price_in_range price (sym (says.spelled price spelling) ∙ read), spelling)

pub price_said-spelled : (h : Header) (pair price : ℕ) → IsPrice price → price_said h pair (price_spelled h pair price) ≡ Ok price
unfolding price_said
price_said-spelled h pair price is = ap price_or_fault (price_of-price_text (decimals_of h pair) price ∙ price_of_ticks-in price is)

-- numbers
number-ok : (least most : ℕ) (text : List ℕ) (fault : Reject) (value : ℕ) → ok_or (number_of least most text) fault ≡ Ok value → (least ≤ value) × (value ≤ most) × (text ≡ numeral value)
number-ok least most text fault value said =
    let read : number_of least most text ≡ Some value = ok_or-ok (number_of least most text) fault value said in
    let reads : Reads least most text (number_of least most text) = Reads-number_of least most text in
    (rw read at reads.least, rw read at reads.most, rw read at reads.spelling)

number-numeral : (least most : ℕ) (fault : Reject) (value : ℕ) → least ≤ value → value ≤ most → ok_or (number_of least most (numeral value)) fault ≡ Ok value
number-numeral least most fault value low high = ap (λ (option : Option ℕ). ok_or option fault) (number_of-numeral least most value low high)

pub lots_said-ok : (text : List ℕ) (lots : ℕ) → lots_said text ≡ Ok lots → IsLots lots × (text ≡ numeral lots)
unfolding lots_said
lots_said-ok text lots said = let is = number-ok 1 1000000 text reject.Lots lots said in ((is.0, is.1), is.2)

pub lots_said-numeral : (lots : ℕ) → IsLots lots → lots_said (numeral lots) ≡ Ok lots
unfolding lots_said
lots_said-numeral lots is = number-numeral 1 1000000 reject.Lots lots is.0 is.1

pub number_said-ok : (text : List ℕ) (number : ℕ) → number_said text ≡ Ok number → IsNumber number × (text ≡ numeral number)
unfolding number_said
number_said-ok text number said = let is = number-ok 1 4294967295 text reject.Number number said in ((is.0, omega (arith, is.1)), is.2)

pub number_said-numeral : (number : ℕ) → IsNumber number → number_said (numeral number) ≡ Ok number
unfolding number_said
number_said-numeral number is = number-numeral 1 4294967295 reject.Number number is.0 (omega (arith, is.1))

pub limit_said-ok : (text : List ℕ) (limit : ℕ) → limit_said text ≡ Ok limit → IsUnits limit × (text ≡ numeral limit)
unfolding limit_said
limit_said-ok text limit said = let is = number-ok 0 1000000000000000 text reject.Limit limit said in (is.1, is.2)

pub limit_said-numeral : (limit : ℕ) → IsUnits limit → limit_said (numeral limit) ≡ Ok limit
unfolding limit_said
limit_said-numeral limit is = number-numeral 0 1000000000000000 reject.Limit limit (omega arith) is

pub units_said-ok : (text : List ℕ) (units : ℕ) → units_said text ≡ Ok units → (1 ≤ units) × IsUnits units × (text ≡ numeral units)
unfolding units_said
units_said-ok text units said = number-ok 1 1000000000000000 text reject.Units units said

pub units_said-numeral : (units : ℕ) → 1 ≤ units → IsUnits units → units_said (numeral units) ≡ Ok units
unfolding units_said
units_said-numeral units some is = number-numeral 1 1000000000000000 reject.Units units some is

-- words
pub word_of-ok : (text : List ℕ) (word : Word) → word_of text ≡ Some word → text ≡ word_text word
word_of-ok text word found = sym ((bytes_decides (word_text word) text).0 (find-passes (λ word. bytes_eq (word_text word) text) (Buy ∷ Sell ∷ Cancel ∷ Reduce ∷ Pull ∷ Line ∷ Show ∷ Book ∷ Total ∷ Settle ∷ []) word found))

pub word_of-text : (word : Word) → word_of (word_text word) ≡ Some word
word_of-text Buy = refl
word_of-text Sell = refl
word_of-text Cancel = refl
word_of-text Reduce = refl
word_of-text Pull = refl
word_of-text Line = refl
word_of-text Show = refl
word_of-text Book = refl
word_of-text Total = refl
word_of-text Settle = refl

-- a word that its sender has
if_had-ok : (has : Bool) (found word : Word) → cond has (Ok found) (Err reject.Word) ≡ Ok word → (has ≡ true) × (found ≡ word)
if_had-ok true found word said = (refl, cc)
if_had-ok false found word said = absurd (cc)

had-ok : (h : Header) (sender : ℕ) (found : Option Word) (word : Word) → (ok_or found reject.Word >>= (λ one. cond (has_word h sender one) (Ok one) (Err reject.Word))) ≡ Ok word
    → (found ≡ Some word) × (has_word h sender word ≡ true)
had-ok h sender None word said = absurd (cc)
had-ok h sender (Some one) word said =
    let had = if_had-ok (has_word h sender one) one word said in
    (ap Some had.1, subst (λ (w : Word). has_word h sender w ≡ true) had.1 had.0)

pub word_said-ok : (h : Header) (sender : ℕ) (fields : List (List ℕ)) (word : Word) → word_said h sender fields ≡ Ok word → (field_at fields 1 ≡ word_text word) × (has_word h sender word ≡ true)
unfolding word_said
word_said-ok h sender fields word said =
    let had = had-ok h sender (word_of (field_at fields 1)) word said in
    (word_of-ok (field_at fields 1) word had.0, had.1)

pub word_said-text : (h : Header) (sender : ℕ) (fields : List (List ℕ)) (word : Word) → field_at fields 1 ≡ word_text word → has_word h sender word ≡ true → word_said h sender fields ≡ Ok word
unfolding word_said
word_said-text h sender fields word is has =
    ap (λ (found : Option Word). ok_or found reject.Word >>= (λ one. cond (has_word h sender one) (Ok one) (Err reject.Word))) (ap word_of is ∙ word_of-text word)
    ∙ cond-true (has_word h sender word) (Ok word) (Err reject.Word) has

pub life_said-ok : (text : List ℕ) (life : Life) → life_said text ≡ Ok life → text ≡ life_text life
unfolding life_said
life_said-ok text life said =
    sym ((bytes_decides (life_text life) text).0 (find-passes (λ life. bytes_eq (life_text life) text) (Day ∷ Ioc ∷ Fok ∷ []) life (ok_or-ok (life_of text) reject.Life life said)))

pub life_said-text : (life : Life) → life_said (life_text life) ≡ Ok life
unfolding life_said
life_said-text Day = refl
life_said-text Ioc = refl
life_said-text Fok = refl

-- a bank
pub bank_said-ok : (h : Header) (text : List ℕ) (bank : ℕ) → bank_said h text ≡ Ok bank → (bank < bank_count h) × (text ≡ bank_name h bank)
unfolding bank_said
bank_said-ok h text bank said = bank_named-ok h text bank (ok_or-ok (bank_named h.banks text) reject.Bank bank said)

pub bank_said-name : (h : Header) (bank : ℕ) → IsSession h → bank < bank_count h → bank_said h (bank_name h bank) ≡ Ok bank
unfolding bank_said
bank_said-name h bank session within = ap (λ (option : Option ℕ). ok_or option reject.Bank) (bank_named-name h bank session within)

-- another bank
abbrev other_than : ℕ → Option ℕ → Result ℕ Reject
other_than sender found = ok_or found reject.Bank >>= (λ other. cond (eqb other sender) (Err reject.Bank) (Ok other))

other_than-ok : (sender : ℕ) (found : Option ℕ) (other : ℕ) → other_than sender found ≡ Ok other → (found ≡ Some other) × (other ≢ sender)
other_than-ok sender None other said = absurd (cc)
other_than-ok sender (Some bank) other said = ⊎_elim
    (λ (own : eqb bank sender ≡ true). absurd (let is : other_than sender (Some bank) ≡ Err reject.Bank = cond-true _ _ _ own in cc))
    (λ (another : eqb bank sender ≡ false).
    let is : other_than sender (Some bank) ≡ Ok bank = cond-false _ _ _ another in
    let same : bank ≡ other = cc in
    (ap Some same, λ own. false≢true (sym another ∙ eq-eqb bank sender (same ∙ own))))
    (cases_Bool (eqb bank sender))

pub other_said-ok : (h : Header) (sender : ℕ) (text : List ℕ) (other : ℕ) → other_said h sender text ≡ Ok other → (other < bank_count h) × (other ≢ sender) × (text ≡ bank_name h other)
unfolding other_said bank_said
other_said-ok h sender text other said =
    let found = other_than-ok sender (bank_named h.banks text) other said in
    let named = bank_named-ok h text other found.0 in
    (named.0, found.1, named.1)

pub other_said-name : (h : Header) (sender other : ℕ) → IsSession h → other < bank_count h → other ≢ sender → other_said h sender (bank_name h other) ≡ Ok other
unfolding other_said bank_said
other_said-name h sender other session within another =
    ap (other_than sender) (bank_named-name h other session within) ∙ cond-false _ _ _ (ne_eqb other sender another)

-- faults
pub fault_of-code : (fault : Reject) → fault_of (code_of fault) ≡ Some fault
fault_of-code reject.Units = refl
fault_of-code reject.Word = refl
fault_of-code reject.Count = refl
fault_of-code reject.Pair = refl
fault_of-code reject.PriceForm = refl
fault_of-code reject.PriceRange = refl
fault_of-code reject.Lots = refl
fault_of-code reject.Bank = refl
fault_of-code reject.Limit = refl
fault_of-code reject.Number = refl
fault_of-code reject.Life = refl
fault_of-code reject.Long = refl

pub fault_of-ok : (number : ℕ) (fault : Reject) → fault_of number ≡ Some fault → number ≡ code_of fault
fault_of-ok number fault found = sym (eqb-true (code_of fault) number (find-passes (λ fault. eqb (code_of fault) number) faults fault found))
