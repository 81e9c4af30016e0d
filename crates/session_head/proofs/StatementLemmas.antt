-- What is read of a line is spelled so.
use Rattle.std.proofs.Common.{◌≡◌, ◌≢◌, ℕ, ◌%◌, ◌^◌, ◌<◌, ◌≤◌, Bool, true, false, cond, not, ◌&&◌, ◌||◌, List, [], ◌∷◌, ◌++◌, length, take, drop, get_or, slice_index, codes, bytes_eq, position, is_none, Option, Some, None, Result, Ok, Err, ok_or, option_and_then, refl, sym, ap, ap₂, ◌∙◌, subst, arith, IsTrue, inl, inr, ◌⊎◌, eqb, leb, IfOk, nat_lt}
use Rattle.std.specs.List.{All, position_or_len}
use Rattle.std.specs.Cmp.Lexicographic.{bytes_decides}
use Rattle.std.proofs.lemmas.Bool.{cases_Bool, false≢true}
use Rattle.std.proofs.lemmas.Bool.Decides.{nat_tests}
use Rattle.std.proofs.lemmas.List.Sums.{fails_before_first}
use Rattle.std.proofs.lemmas.List.Elements.{All-weaker}
use Rattle.std.proofs.lemmas.List.Quantifiers.{position-Some}
use Rattle.fx_amounts.specs.Numeral.{numeral}
use Rattle.fx_text.specs.Number.{number_of}
use Rattle.fx_text.proofs.NumberLemmas.{Reads-number_of}
use Rattle.fx_rules.specs.Names.{is_name, is_code}
use Rattle.fx_rules.specs.Session.{pair_text, bank_named}
use Rattle.fx_rules.specs.declared.session.PairRule.{PairRule}
use Rattle.fx_rules.proofs.SessionLemmas.{missing_from_place}
use Rattle.session_head.specs.Draft.{Draft}
use Rattle.fx_text.specs.Fields.{field_at}
use Rattle.fx_text.specs.Faults.{◌>>=◌}
use Rattle.session_head.specs.Statement.{new_name, pair_codes, is_new_pair, new_pair, lot_said, bank_statement, pair_statement, line_statement, total_statement, start_statement, statement_of, spelling}
use Rattle.session_head.specs.inside.Statement.{CanState}
use Rattle.session_head.specs.declared.reason.HeadReason.{HeadReason}
use Rattle.session_head.specs.declared.reason.HeadReason.TheVariants as reasons
use Rattle.session_head.specs.declared.statement.Statement.{Statement}
use Rattle.session_head.specs.declared.statement.Statement.TheVariants as statements

-- a test that refuses was not met, a reading that goes on was made
guard_ok : {A : Type 0} (refuses : Bool) (reason : HeadReason) (rest : Result A HeadReason) (x : A) → cond refuses (Err reason) rest ≡ Ok x → (refuses ≡ false) × (rest ≡ Ok x)
guard_ok true reason rest x read = absurd (let wrong : Err reason ≡ Ok x = read in cc)
guard_ok false reason rest x read = (refl, read)

bind_ok : {A B : Type 0} (first : Option A) (reason : HeadReason) (rest : A → Result B HeadReason) (y : B) → (ok_or first reason >>= rest) ≡ Ok y → (x : A) × (first ≡ Some x) × (rest x ≡ Ok y)
bind_ok None reason rest y read = absurd (let wrong : Err reason ≡ Ok y = read in cc)
bind_ok (Some x) reason rest y read = (x, refl, read)

chosen_some : {A : Type 0} (test : Bool) (made x : A) → cond test (Some made) None ≡ Some x → (test ≡ true) × (made ≡ x)
chosen_some true made x some = (refl, cc)
chosen_some false made x some = absurd (let wrong : None ≡ Some x = some in cc)

then_some : {A B : Type 0} (rest : A → Option B) (first : Option A) (y : B) → option_and_then rest first ≡ Some y → (x : A) × (first ≡ Some x) × (rest x ≡ Some y)
then_some rest None y some = absurd (let wrong : None ≡ Some y = some in cc)
then_some rest (Some x) y some = (x, refl, some)

both_parts : (a b : Bool) → (a && b) ≡ true → (a ≡ true) × (b ≡ true)
both_parts true b both = (refl, both)
both_parts false b both = absurd (false≢true both)

not_false : (b : Bool) → not b ≡ false → b ≡ true
not_false true is = refl
not_false false is = absurd (false≢true (sym is))

not_true : (b : Bool) → not b ≡ true → b ≡ false
not_true true is = absurd (false≢true is)
not_true false is = refl

none_is : {A : Type 0} (o : Option A) → is_none o ≡ true → o ≡ None
none_is None is = refl
none_is (Some x) is = absurd (false≢true is)

number_is : (a b : ℕ) → eqb a b ≡ true → a ≡ b
number_is a b same = grind (arith, nat_tests)

-- where no place is found, none passes
pub none_passes : {X : Type 0} (p : X → Bool) (xs : List X) → position p xs ≡ None → All (λ x. p x ≡ false) xs
none_passes p xs none k d within =
    elim (cases_Bool (nat_lt (position_or_len p xs) (length xs))) [
      | inl found ↦ absurd (let wrong : Some (position_or_len p xs) ≡ None = rw found at none in cc)
      | inr past ↦ fails_before_first p xs k d (let bound : length xs ≤ position_or_len p xs = grind (arith, nat_tests) in omega arith)
    ]

-- a list of so many fields is these fields
one_field : (fields : List (List ℕ)) → length fields ≡ 1 → fields ≡ field_at fields 0 ∷ []
one_field [] size = absurd (omega arith)
one_field (a ∷ []) size = refl
one_field (a ∷ b ∷ rest) size = absurd (omega arith)

two_fields : (fields : List (List ℕ)) → length fields ≡ 2 → fields ≡ field_at fields 0 ∷ field_at fields 1 ∷ []
two_fields [] size = absurd (omega arith)
two_fields (a ∷ rest) size = ap (λ (xs : List (List ℕ)). a ∷ xs) (one_field rest (omega arith))

three_fields : (fields : List (List ℕ)) → length fields ≡ 3 → fields ≡ field_at fields 0 ∷ field_at fields 1 ∷ field_at fields 2 ∷ []
three_fields [] size = absurd (omega arith)
three_fields (a ∷ rest) size = ap (λ (xs : List (List ℕ)). a ∷ xs) (two_fields rest (omega arith))

four_fields : (fields : List (List ℕ)) → length fields ≡ 4 → fields ≡ field_at fields 0 ∷ field_at fields 1 ∷ field_at fields 2 ∷ field_at fields 3 ∷ []
four_fields [] size = absurd (omega arith)
four_fields (a ∷ []) size = absurd (omega arith)
four_fields (a ∷ b ∷ rest) size = ap (λ (xs : List (List ℕ)). a ∷ b ∷ xs) (two_fields rest (omega arith))

five_fields : (fields : List (List ℕ)) → length fields ≡ 5 → fields ≡ field_at fields 0 ∷ field_at fields 1 ∷ field_at fields 2 ∷ field_at fields 3 ∷ field_at fields 4 ∷ []
five_fields [] size = absurd (omega arith)
five_fields (a ∷ rest) size = ap (λ (xs : List (List ℕ)). a ∷ xs) (four_fields rest (omega arith))

-- what is read can be stated and is spelled so
pub record IsFound (draft : Draft) (fields : List (List ℕ)) (statement : Statement) : Type 0 where
  pub can : CanState draft statement
  pub spelled : fields ≡ spelling draft.banks statement

new_name-Some : (banks : List (List ℕ)) (text name : List ℕ) → new_name banks text ≡ Some name → IsTrue (is_name name) × All (λ standing. standing ≢ name) banks × (text ≡ name)
unfolding new_name
new_name-Some banks text name some =
    let chosen = chosen_some (is_name text && is_none (bank_named banks text)) text name some in
    let parts = both_parts (is_name text) (is_none (bank_named banks text)) chosen.0 in
    let apart : All (λ standing. standing ≢ text) banks = missing_from_place (λ standing. standing) text banks (none_is (bank_named banks text) parts.1) in
    (subst (λ (t : List ℕ). IsTrue (is_name t)) chosen.1 parts.0, subst (λ (t : List ℕ). All (λ standing. standing ≢ t) banks) chosen.1 apart, chosen.1)

bank_found : (draft : Draft) (fields : List (List ℕ)) (statement : Statement) → field_at fields 0 ≡ codes "BANK" → bank_statement draft fields ≡ Ok statement → IsFound draft fields statement
unfolding bank_statement
bank_found draft fields statement word read =
    let counted = guard_ok (not (eqb (length fields) 2)) reasons.Count _ statement read in
    let roomy = guard_ok (leb 64 (length draft.banks)) reasons.Many _ statement counted.1 in
    let named = bind_ok (new_name draft.banks (field_at fields 1)) reasons.Name _ statement roomy.1 in
    let new = new_name-Some draft.banks (field_at fields 1) named.0 named.1 in
    let is : statements.Bank named.0 ≡ statement = cc in
    let few : length draft.banks < 64 = grind (arith, nat_tests) in
    let size : length fields ≡ 2 = number_is (length fields) 2 (not_false _ counted.0) in
    subst (λ (s : Statement). IsFound draft fields s) is (record {
      can = (few, new.0, new.1);
      spelled = two_fields fields size ∙ ap₂ (λ (a b : List ℕ). a ∷ b ∷ []) word new.2;
    })

or_parts : (a b : Bool) → (a || b) ≡ false → (a ≡ false) × (b ≡ false)
or_parts true b neither = absurd (false≢true (sym neither))
or_parts false b neither = (refl, neither)

bind_result : {A B : Type 0} (first : Result A HeadReason) (rest : A → Result B HeadReason) (y : B) → (first >>= rest) ≡ Ok y → (x : A) × (first ≡ Ok x) × (rest x ≡ Ok y)
bind_result (Ok x) rest y read = (x, refl, read)
bind_result (Err reason) rest y read = absurd (let wrong : Err reason ≡ Ok y = read in cc)

ok_or-Ok : {A : Type 0} (first : Option A) (reason : HeadReason) (x : A) → ok_or first reason ≡ Ok x → first ≡ Some x
ok_or-Ok None reason x read = absurd (let wrong : Err reason ≡ Ok x = read in cc)
ok_or-Ok (Some y) reason x read = let same : Ok y ≡ Ok x = read in cc

made_of : (draft : Draft) (fields : List (List ℕ)) (statement made : Statement) → ◌≡◌ {A = Result Statement HeadReason} (Ok made) (Ok statement) → IsFound draft fields made → IsFound draft fields statement
made_of draft fields statement made same found = let is : made ≡ statement = cc in subst (λ (s : Statement). IsFound draft fields s) is found

start_found : (draft : Draft) (fields : List (List ℕ)) (statement : Statement) → field_at fields 0 ≡ codes "START" → start_statement draft fields ≡ Ok statement → IsFound draft fields statement
unfolding start_statement
start_found draft fields statement word read =
    let counted = guard_ok (not (eqb (length fields) 1)) reasons.Count _ statement read in
    let enough = guard_ok (nat_lt (length draft.banks) 2 || nat_lt (length draft.pairs) 1) reasons.Start _ statement counted.1 in
    let parts = or_parts (nat_lt (length draft.banks) 2) (nat_lt (length draft.pairs) 1) enough.0 in
    let banks : 2 ≤ length draft.banks = let test = parts.0 in grind (arith, nat_tests) in
    let pairs : 1 ≤ length draft.pairs = let test = parts.1 in grind (arith, nat_tests) in
    let is : statements.Start ≡ statement = cc in
    let size : length fields ≡ 1 = number_is (length fields) 1 (not_false _ counted.0) in
    subst (λ (s : Statement). IsFound draft fields s) is (record {
      can = (banks, pairs);
      spelled = one_field fields size ∙ ap (λ (a : List ℕ). a ∷ []) word;
    })

-- the bank that is found has that name
bank_named-Some : (banks : List (List ℕ)) (text : List ℕ) (bank : ℕ) → bank_named banks text ≡ Some bank → (bank < length banks) × (text ≡ field_at banks bank)
bank_named-Some banks text bank found =
    let at = position-Some (λ (name : List ℕ). bytes_eq name text) banks bank [] found in
    (at.0, sym ((bytes_decides (field_at banks bank) text).0 at.1))

-- the number that is read is spelled so
number_of-Some : (least most : ℕ) (text : List ℕ) (value : ℕ) → number_of least most text ≡ Some value → (least ≤ value) × (value ≤ most) × (text ≡ numeral value)
number_of-Some least most text value found =
    let reads = Reads-number_of least most text in
    (rw found at reads.least, rw found at reads.most, rw found at reads.spelling)

line_found : (draft : Draft) (fields : List (List ℕ)) (statement : Statement) → field_at fields 0 ≡ codes "LINE" → line_statement draft fields ≡ Ok statement → IsFound draft fields statement
unfolding line_statement
line_found draft fields statement word read =
    let counted = guard_ok (not (eqb (length fields) 4)) reasons.Count _ statement read in
    let from = bind_ok (bank_named draft.banks (field_at fields 1)) reasons.Banks _ statement counted.1 in
    let to = bind_ok (bank_named draft.banks (field_at fields 2)) reasons.Banks _ statement from.2 in
    let limit = bind_result (cond (eqb from.0 to.0) (Err reasons.Banks) (ok_or (number_of 0 1000000000000000 (field_at fields 3)) reasons.Limit)) _ statement to.2 in
    let apart = guard_ok (eqb from.0 to.0) reasons.Banks _ limit.0 limit.1 in
    let number = number_of-Some 0 1000000000000000 (field_at fields 3) limit.0 (ok_or-Ok _ reasons.Limit limit.0 apart.1) in
    let first = bank_named-Some draft.banks (field_at fields 1) from.0 from.1 in
    let second = bank_named-Some draft.banks (field_at fields 2) to.0 to.1 in
    let differ : from.0 ≢ to.0 = λ same. let test = apart.0 in grind (arith, nat_tests) in
    let is : statements.Line from.0 to.0 limit.0 ≡ statement = let last = limit.2 in cc in
    let size : length fields ≡ 4 = number_is (length fields) 4 (not_false _ counted.0) in
    subst (λ (s : Statement). IsFound draft fields s) is (record {
      can = (first.0, second.0, differ, number.1);
      spelled = four_fields fields size
          ∙ ap₂ (λ (a b : List ℕ). a ∷ b ∷ field_at fields 2 ∷ field_at fields 3 ∷ []) word first.1
          ∙ ap₂ (λ (c d : List ℕ). codes "LINE" ∷ field_at draft.banks from.0 ∷ c ∷ d ∷ []) second.1 number.2;
    })

total_found : (draft : Draft) (fields : List (List ℕ)) (statement : Statement) → draft.version ≡ 2 → field_at fields 0 ≡ codes "TOTAL" → total_statement draft fields ≡ Ok statement → IsFound draft fields statement
unfolding total_statement
total_found draft fields statement second word read =
    let counted = guard_ok (not (eqb (length fields) 3)) reasons.Count _ statement read in
    let bank = bind_ok (bank_named draft.banks (field_at fields 1)) reasons.Banks _ statement counted.1 in
    let limit = bind_ok (number_of 0 1000000000000000 (field_at fields 2)) reasons.Limit _ statement bank.2 in
    let number = number_of-Some 0 1000000000000000 (field_at fields 2) limit.0 limit.1 in
    let name = bank_named-Some draft.banks (field_at fields 1) bank.0 bank.1 in
    let is : statements.Total bank.0 limit.0 ≡ statement = let last = limit.2 in cc in
    let size : length fields ≡ 3 = number_is (length fields) 3 (not_false _ counted.0) in
    subst (λ (s : Statement). IsFound draft fields s) is (record {
      can = (second, name.0, number.1);
      spelled = three_fields fields size
          ∙ ap₂ (λ (a b : List ℕ). a ∷ b ∷ field_at fields 2 ∷ []) word name.1
          ∙ ap (λ (c : List ℕ). codes "TOTAL" ∷ field_at draft.banks bank.0 ∷ c ∷ []) number.2;
    })

regrouped : (text : List ℕ) → 3 < length text → text ≡ take 3 text ++ get_or text 3 0 ∷ drop 4 text
regrouped [] more = absurd (omega arith)
regrouped (a ∷ []) more = absurd (omega arith)
regrouped (a ∷ b ∷ []) more = absurd (omega arith)
regrouped (a ∷ b ∷ c ∷ []) more = absurd (omega arith)
regrouped (a ∷ b ∷ c ∷ d ∷ rest) more = refl

-- the two codes that are read are spelled so
pair_codes-Some : (text : List ℕ) (both : List ℕ × List ℕ) → pair_codes text ≡ Some both → IsTrue (is_code both.0) × IsTrue (is_code both.1) × (text ≡ both.0 ++ 47 ∷ both.1)
unfolding pair_codes
pair_codes-Some text both some =
    let chosen = chosen_some (eqb (length text) 7 && eqb (slice_index text 3) 47 && is_code (take 3 text) && is_code (drop 4 text)) (take 3 text, drop 4 text) both some in
    let last = both_parts (eqb (length text) 7 && eqb (slice_index text 3) 47 && is_code (take 3 text)) (is_code (drop 4 text)) chosen.0 in
    let third = both_parts (eqb (length text) 7 && eqb (slice_index text 3) 47) (is_code (take 3 text)) last.0 in
    let front = both_parts (eqb (length text) 7) (eqb (slice_index text 3) 47) third.0 in
    let size : length text ≡ 7 = number_is (length text) 7 front.0 in
    let slash : get_or text 3 0 ≡ 47 = number_is (slice_index text 3) 47 front.1 in
    subst (λ (b : List ℕ × List ℕ). IsTrue (is_code b.0) × IsTrue (is_code b.1) × (text ≡ b.0 ++ 47 ∷ b.1)) chosen.1
    (third.1, last.1, regrouped text (omega arith) ∙ ap (λ (byte : ℕ). take 3 text ++ byte ∷ drop 4 text) slash)

-- and can be a further pair
pub record IsNewPair (pairs : List PairRule) (base quote : List ℕ) : Type 0 where
  pub differ : base ≢ quote
  pub new : All (λ standing. ¬ ((standing.base ≡ base) × (standing.quote ≡ quote))) pairs

is_new_pair-true : (pairs : List PairRule) (base quote : List ℕ) → is_new_pair pairs base quote ≡ true → IsNewPair pairs base quote
is_new_pair-true pairs base quote is =
    let test : PairRule → Bool = λ rule. bytes_eq rule.base base && bytes_eq rule.quote quote in
    let parts = both_parts (not (bytes_eq base quote)) (is_none (position test pairs)) is in
    record {
      differ = λ same. false≢true (sym (not_true _ parts.0) ∙ (bytes_decides base quote).1 same);
      new = All-weaker (λ standing. test standing ≡ false) (λ standing. ¬ ((standing.base ≡ base) × (standing.quote ≡ quote)))
          (λ standing fails same. false≢true (sym fails ∙ ap₂ (λ (a b : Bool). a && b) ((bytes_decides standing.base base).1 same.0) ((bytes_decides standing.quote quote).1 same.1)))
          pairs (none_passes test pairs (none_is (position test pairs) parts.1));
    }

new_pair-Some : (pairs : List PairRule) (text : List ℕ) (both : List ℕ × List ℕ) → new_pair pairs text ≡ Some both
    → IsTrue (is_code both.0) × IsTrue (is_code both.1) × IsNewPair pairs both.0 both.1 × (text ≡ both.0 ++ 47 ∷ both.1)
unfolding new_pair
new_pair-Some pairs text both some =
    let given = then_some _ (pair_codes text) both some in
    let fresh = chosen_some (is_new_pair pairs given.0.0 given.0.1) given.0 both given.2 in
    let texts = pair_codes-Some text given.0 given.1 in
    let new = is_new_pair-true pairs given.0.0 given.0.1 fresh.0 in
    subst (λ (b : List ℕ × List ℕ). IsTrue (is_code b.0) × IsTrue (is_code b.1) × IsNewPair pairs b.0 b.1 × (text ≡ b.0 ++ 47 ∷ b.1)) fresh.1 (texts.0, texts.1, new, texts.2)

lot_said-Some : (decimals : ℕ) (text : List ℕ) (lot : ℕ) → lot_said decimals text ≡ Some lot → (1 ≤ lot) × (lot ≤ 1000000000) × (lot % 10 ^ decimals ≡ 0) × (text ≡ numeral lot)
unfolding lot_said
lot_said-Some decimals text lot some =
    let read = then_some _ (number_of 1 1000000000 text) lot some in
    let whole = chosen_some (eqb (read.0 % 10 ^ decimals) 0) read.0 lot read.2 in
    let number = number_of-Some 1 1000000000 text read.0 read.1 in
    subst (λ (n : ℕ). (1 ≤ n) × (n ≤ 1000000000) × (n % 10 ^ decimals ≡ 0) × (text ≡ numeral n)) whole.1 (number.0, number.1, number_is _ 0 whole.0, number.2)

-- a pair of what its fields say
pair_of_fields : (draft : Draft) (fields : List (List ℕ)) (rule : PairRule) → length fields ≡ 5 → length draft.pairs < 32 → field_at fields 0 ≡ codes "PAIR"
    → IsTrue (is_code rule.base) × IsTrue (is_code rule.quote) × IsNewPair draft.pairs rule.base rule.quote × (field_at fields 1 ≡ rule.base ++ 47 ∷ rule.quote)
    → (0 ≤ rule.decimals) × (rule.decimals ≤ 6) × (field_at fields 2 ≡ numeral rule.decimals)
    → (1 ≤ rule.lot) × (rule.lot ≤ 1000000000) × (rule.lot % 10 ^ rule.decimals ≡ 0) × (field_at fields 3 ≡ numeral rule.lot)
    → (1 ≤ rule.weight) × (rule.weight ≤ 1000000) × (field_at fields 4 ≡ numeral rule.weight)
    → IsFound draft fields (statements.Pair rule)
pair_of_fields draft fields rule size few word pair decimals lot weight = record {
  can = (
    few,
    record {
      base = pair.0;
      quote = pair.1;
      differ = pair.2.differ;
      decimals = decimals.1;
      lot_least = lot.0;
      lot_most = lot.1;
      lot_whole = lot.2;
      weight_least = weight.0;
      weight_most = weight.1;
    },
    pair.2.new,
  );
  spelled = five_fields fields size
      ∙ ap₂ (λ (a b : List ℕ). a ∷ b ∷ field_at fields 2 ∷ field_at fields 3 ∷ field_at fields 4 ∷ []) word pair.3
      ∙ ap₂ (λ (c d : List ℕ). codes "PAIR" ∷ pair_text rule ∷ c ∷ d ∷ field_at fields 4 ∷ []) decimals.2 lot.3
      ∙ ap (λ (e : List ℕ). codes "PAIR" ∷ pair_text rule ∷ numeral rule.decimals ∷ numeral rule.lot ∷ e ∷ []) weight.2;
}

pair_found : (draft : Draft) (fields : List (List ℕ)) (statement : Statement) → field_at fields 0 ≡ codes "PAIR" → pair_statement draft fields ≡ Ok statement → IsFound draft fields statement
unfolding pair_statement
pair_found draft fields statement word read =
    let counted = guard_ok (not (eqb (length fields) 5)) reasons.Count _ statement read in
    let roomy = guard_ok (leb 32 (length draft.pairs)) reasons.Many _ statement counted.1 in
    let both = bind_ok (new_pair draft.pairs (field_at fields 1)) reasons.Pair _ statement roomy.1 in
    let decimals = bind_ok (number_of 0 6 (field_at fields 2)) reasons.Decimals _ statement both.2 in
    let lot = bind_ok (lot_said decimals.0 (field_at fields 3)) reasons.Lot _ statement decimals.2 in
    let weight = bind_ok (number_of 1 1000000 (field_at fields 4)) reasons.Weight _ statement lot.2 in
    let few : length draft.pairs < 32 = let test = roomy.0 in grind (arith, nat_tests) in
    let size : length fields ≡ 5 = number_is (length fields) 5 (not_false _ counted.0) in
    made_of draft fields statement (statements.Pair (record { base = both.0.0; quote = both.0.1; decimals = decimals.0; lot = lot.0; weight = weight.0 }))
    (weight.2)
    (pair_of_fields draft fields (record { base = both.0.0; quote = both.0.1; decimals = decimals.0; lot = lot.0; weight = weight.0 }) size few word
    (new_pair-Some draft.pairs (field_at fields 1) both.0 both.1)
    (number_of-Some 0 6 (field_at fields 2) decimals.0 decimals.1)
    (lot_said-Some decimals.0 (field_at fields 3) lot.0 lot.1)
    (number_of-Some 1 1000000 (field_at fields 4) weight.0 weight.1))

chosen : {A : Type 0} (test : Bool) (first second made : A) → cond test first second ≡ made → ((test ≡ true) × (first ≡ made)) ⊎ ((test ≡ false) × (second ≡ made))
chosen true first second made is = inl (refl, is)
chosen false first second made is = inr (refl, is)

-- the line's word says which statement it is
statement_found : (draft : Draft) (fields : List (List ℕ)) (statement : Statement) → statement_of draft fields ≡ Ok statement → IsFound draft fields statement
unfolding statement_of
statement_found draft fields statement read =
    let word : (code : List ℕ) → bytes_eq (field_at fields 0) code ≡ true → field_at fields 0 ≡ code = λ code same. (bytes_decides (field_at fields 0) code).0 same in
    elim (chosen (bytes_eq (field_at fields 0) (codes "BANK")) _ _ (Ok statement) read) [
      | inl bank ↦ bank_found draft fields statement (word (codes "BANK") bank.0) bank.1
      | inr second ↦ elim (chosen (bytes_eq (field_at fields 0) (codes "PAIR")) _ _ (Ok statement) second.1) [
        | inl pair ↦ pair_found draft fields statement (word (codes "PAIR") pair.0) pair.1
        | inr third ↦ elim (chosen (bytes_eq (field_at fields 0) (codes "LINE")) _ _ (Ok statement) third.1) [
          | inl line ↦ line_found draft fields statement (word (codes "LINE") line.0) line.1
          | inr fourth ↦ elim (chosen (bytes_eq (field_at fields 0) (codes "START")) _ _ (Ok statement) fourth.1) [
            | inl start ↦ start_found draft fields statement (word (codes "START") start.0) start.1
            | inr fifth ↦ elim (chosen (eqb draft.version 2 && bytes_eq (field_at fields 0) (codes "TOTAL")) _ _ (Ok statement) fifth.1) [
              | inl total ↦
                  let parts = both_parts (eqb draft.version 2) (bytes_eq (field_at fields 0) (codes "TOTAL")) total.0 in
                  total_found draft fields statement (number_is draft.version 2 parts.0) (word (codes "TOTAL") parts.1) total.1
              | inr other ↦ absurd (let wrong : ◌≡◌ {A = Result Statement HeadReason} (Err reasons.Word) (Ok statement) = other.1 in cc)
            ]
          ]
        ]
      ]
    ]

-- what a reading gave can be stated and is spelled so
pub if_found : (draft : Draft) (fields : List (List ℕ)) (read : Result Statement HeadReason) → read ≡ statement_of draft fields
    → IfOk read (λ statement. CanState draft statement × (fields ≡ spelling draft.banks statement))
if_found draft fields (Ok statement) same = let it = statement_found draft fields statement (sym same) in (it.can, it.spelled)
if_found draft fields (Err reason) same = tt
