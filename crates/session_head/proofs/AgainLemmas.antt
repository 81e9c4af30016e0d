-- What is spelled so is read.
use Rattle.std.proofs.Common.{◌≡◌, ◌≢◌, ℕ, ◌%◌, ◌^◌, ◌<◌, ◌≤◌, Bool, true, false, ◌&&◌, List, [], ◌∷◌, ◌++◌, length, get_or, bytes_eq, position, Some, None, Ok, refl, arith, IsTrue, inl, inr}
use Rattle.std.specs.List.{All, AllPairs, position_or_len}
use Rattle.std.specs.Cmp.Lexicographic.{bytes_decides}
use Rattle.std.proofs.lemmas.Bool.{cases_Bool, false≢true, lt-leb, le-ltb, lt-ltb, ne_eqb, eq-eqb}
use Rattle.std.proofs.lemmas.List.Sums.{position_or_len_is}
use Rattle.std.proofs.lemmas.List.Elements.{All-weaker}
use Rattle.fx_amounts.specs.Numeral.{numeral}
use Rattle.fx_text.proofs.NumberLemmas.{number_of-numeral}
use Rattle.fx_rules.specs.Names.{is_name, is_code}
use Rattle.fx_rules.specs.Session.{IsPairRule, bank_named}
use Rattle.fx_rules.specs.declared.session.PairRule.{PairRule}
use Rattle.session_head.specs.Draft.{Draft}
use Rattle.session_head.specs.inside.Draft.{IsDraft}
use Rattle.fx_text.specs.Fields.{field_at}
use Rattle.session_head.specs.Statement.{new_name, pair_codes, is_new_pair, new_pair, lot_said, bank_statement, pair_statement, line_statement, total_statement, start_statement, statement_of, spelling}
use Rattle.session_head.specs.inside.Statement.{CanState}
use Rattle.session_head.specs.declared.statement.Statement.{Statement}
use Rattle.session_head.specs.declared.statement.Statement.TheVariants as statements

-- no place is found where none passes, and the first that passes is found
position-None : {X : Type 0} (p : X → Bool) (xs : List X) → All (λ x. p x ≡ false) xs → position p xs ≡ None
position-None p [] none = refl
position-None p (x ∷ xs) none =
    let all : position_or_len p (x ∷ xs) ≡ length (x ∷ xs) = position_or_len_is p (x ∷ xs) (length (x ∷ xs)) x (omega arith) (λ k less. none k x less) (λ past. absurd (omega arith)) in
    rw (all, le-ltb (length (x ∷ xs)) (length (x ∷ xs)) (omega arith)) refl

position-first : {X : Type 0} (p : X → Bool) (xs : List X) (i : ℕ) (d : X) → i < length xs → ((k : ℕ) → k < i → p (get_or xs k d) ≡ false) → p (get_or xs i d) ≡ true → position p xs ≡ Some i
position-first p xs i d within before passes =
    let first : position_or_len p xs ≡ i = position_or_len_is p xs i d (omega arith) before (λ _. passes) in
    rw (first, lt-ltb i (length xs) within) refl

different : (a b : List ℕ) → a ≢ b → bytes_eq a b ≡ false
different a b apart = elim (cases_Bool (bytes_eq a b)) [ inl same ↦ absurd (apart ((bytes_decides a b).0 same)) | inr other ↦ other ]

-- the place of a bank by its name
bank_named-place : (banks : List (List ℕ)) (bank : ℕ) → AllPairs (λ a b. a ≢ b) banks → bank < length banks → bank_named banks (field_at banks bank) ≡ Some bank
bank_named-place banks bank differ within =
    position-first (λ (name : List ℕ). bytes_eq name (field_at banks bank)) banks bank [] within
    (λ k less. different (field_at banks k) (field_at banks bank) (differ k bank [] less within))
    ((bytes_decides (field_at banks bank) (field_at banks bank)).1 refl)

new_name-again : (banks : List (List ℕ)) (name : List ℕ) → IsTrue (is_name name) → All (λ standing. standing ≢ name) banks → new_name banks name ≡ Some name
unfolding new_name
new_name-again banks name valid apart =
    let missing : bank_named banks name ≡ None = position-None (λ (standing : List ℕ). bytes_eq standing name) banks
    (All-weaker (λ standing. standing ≢ name) (λ standing. bytes_eq standing name ≡ false) (λ standing other. different standing name other) banks apart) in
    rw (valid, missing) refl

pair_codes-again : (base quote : List ℕ) → IsTrue (is_code base) → IsTrue (is_code quote) → pair_codes (base ++ 47 ∷ quote) ≡ Some (base, quote)
unfolding pair_codes
pair_codes-again [] quote valid second = absurd (false≢true valid)
pair_codes-again (a ∷ []) quote valid second = absurd (false≢true valid)
pair_codes-again (a ∷ b ∷ []) quote valid second = absurd (false≢true valid)
pair_codes-again (a ∷ b ∷ c ∷ d ∷ rest) quote valid second = absurd (false≢true valid)
pair_codes-again (a ∷ b ∷ c ∷ []) [] valid second = absurd (false≢true second)
pair_codes-again (a ∷ b ∷ c ∷ []) (d ∷ []) valid second = absurd (false≢true second)
pair_codes-again (a ∷ b ∷ c ∷ []) (d ∷ e ∷ []) valid second = absurd (false≢true second)
pair_codes-again (a ∷ b ∷ c ∷ []) (d ∷ e ∷ f ∷ []) valid second = rw (valid, second) refl
pair_codes-again (a ∷ b ∷ c ∷ []) (d ∷ e ∷ f ∷ g ∷ rest) valid second = absurd (false≢true second)

is_new_pair-again : (pairs : List PairRule) (base quote : List ℕ) → base ≢ quote → All (λ standing. ¬ ((standing.base ≡ base) × (standing.quote ≡ quote))) pairs → is_new_pair pairs base quote ≡ true
is_new_pair-again pairs base quote differ new =
    let missing : position (λ (rule : PairRule). bytes_eq rule.base base && bytes_eq rule.quote quote) pairs ≡ None =
    position-None (λ (rule : PairRule). bytes_eq rule.base base && bytes_eq rule.quote quote) pairs
    (All-weaker (λ standing. ¬ ((standing.base ≡ base) × (standing.quote ≡ quote))) (λ standing. (bytes_eq standing.base base && bytes_eq standing.quote quote) ≡ false)
    (λ standing other. not_both standing base quote other) pairs new) in
    rw (different base quote differ, missing) refl
  where
    not_both : (rule : PairRule) (base quote : List ℕ) → ¬ ((rule.base ≡ base) × (rule.quote ≡ quote)) → (bytes_eq rule.base base && bytes_eq rule.quote quote) ≡ false
    not_both rule base quote other = elim (cases_Bool (bytes_eq rule.base base)) [
      | inl first ↦ elim (cases_Bool (bytes_eq rule.quote quote)) [
        | inl second ↦ absurd (other ((bytes_decides rule.base base).0 first, (bytes_decides rule.quote quote).0 second))
        | inr apart ↦ rw (first, apart) refl
      ]
      | inr apart ↦ rw apart refl
    ]

new_pair-again : (pairs : List PairRule) (base quote : List ℕ) → IsTrue (is_code base) → IsTrue (is_code quote) → base ≢ quote
    → All (λ standing. ¬ ((standing.base ≡ base) × (standing.quote ≡ quote))) pairs → new_pair pairs (base ++ 47 ∷ quote) ≡ Some (base, quote)
unfolding new_pair
new_pair-again pairs base quote first second differ new = rw (pair_codes-again base quote first second, is_new_pair-again pairs base quote differ new) refl

lot_said-again : (decimals lot : ℕ) → 1 ≤ lot → lot ≤ 1000000000 → lot % 10 ^ decimals ≡ 0 → lot_said decimals (numeral lot) ≡ Some lot
unfolding lot_said
lot_said-again decimals lot least most whole = rw (number_of-numeral 1 1000000000 lot least most, whole) refl

bank_again : (d : Draft) (name : List ℕ) → CanState d (statements.Bank name) → statement_of d (spelling d.banks (statements.Bank name)) ≡ Ok (statements.Bank name)
unfolding statement_of bank_statement
bank_again d name can = rw (lt-leb 64 (length d.banks) can.0, new_name-again d.banks name can.1 can.2) refl

pair_again : (d : Draft) (rule : PairRule) → CanState d (statements.Pair rule) → statement_of d (spelling d.banks (statements.Pair rule)) ≡ Ok (statements.Pair rule)
unfolding statement_of pair_statement
pair_again d rule can =
    let valid : IsPairRule rule = can.1 in
    rw (
      lt-leb 32 (length d.pairs) can.0,
      new_pair-again d.pairs rule.base rule.quote valid.base valid.quote valid.differ can.2,
      number_of-numeral 0 6 rule.decimals (omega arith) valid.decimals,
      lot_said-again rule.decimals rule.lot valid.lot_least valid.lot_most valid.lot_whole,
      number_of-numeral 1 1000000 rule.weight valid.weight_least valid.weight_most,
    ) refl

line_again : (d : Draft) (from to limit : ℕ) → IsDraft d → CanState d (statements.Line from to limit) → statement_of d (spelling d.banks (statements.Line from to limit)) ≡ Ok (statements.Line from to limit)
unfolding statement_of line_statement
line_again d from to limit valid can =
    rw (
      bank_named-place d.banks from valid.banks.differ can.0,
      bank_named-place d.banks to valid.banks.differ can.1,
      ne_eqb from to can.2,
      number_of-numeral 0 1000000000000000 limit (omega arith) can.3,
    ) refl

total_again : (d : Draft) (bank limit : ℕ) → IsDraft d → CanState d (statements.Total bank limit) → statement_of d (spelling d.banks (statements.Total bank limit)) ≡ Ok (statements.Total bank limit)
unfolding statement_of total_statement
total_again d bank limit valid can =
    rw (
      eq-eqb d.version 2 can.0,
      bank_named-place d.banks bank valid.banks.differ can.1,
      number_of-numeral 0 1000000000000000 limit (omega arith) can.2,
    ) refl

start_again : (d : Draft) → CanState d statements.Start → statement_of d (spelling d.banks statements.Start) ≡ Ok statements.Start
unfolding statement_of start_statement
start_again d can = rw (le-ltb (length d.banks) 2 can.0, le-ltb (length d.pairs) 1 can.1) refl

-- what can be stated is read from its spelling
pub statement_again : (d : Draft) (statement : Statement) → IsDraft d → CanState d statement → statement_of d (spelling d.banks statement) ≡ Ok statement
statement_again d (statements.Bank name) valid can = bank_again d name can
statement_again d (statements.Pair rule) valid can = pair_again d rule can
statement_again d (statements.Line from to limit) valid can = line_again d from to limit valid can
statement_again d (statements.Total bank limit) valid can = total_again d bank limit valid can
statement_again d statements.Start valid can = start_again d can
