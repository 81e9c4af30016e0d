-- The currencies: each code once, where it first appears.
use Rattle.std.proofs.Common.{ℕ, zero, suc, ◌≡◌, ◌≢◌, ◌+◌, ◌*◌, ◌≤◌, ◌<◌, Bool, true, false, not, ◌||◌, nat_lt, eqb, cond, is_some, Some, None, position, bytes_eq, List, [], ◌∷◌, ◌++◌, length, take, get_or, inl, inr, refl, ap, sym, subst, ◌∙◌, arith, append-nil, append_assoc}
use Rattle.std.proofs.lemmas.Bool.{cases_Bool, cases_eq, cases_order, false≢true, eq-eqb, ne_eqb, false_from_ne_true, lt-ltb}
use Rattle.std.proofs.lemmas.Bool.Decides.{nat_tests}
use Rattle.std.proofs.lemmas.List.{take_more, get_or_append_left, get_or_push, get_or-map, length_push}
use Rattle.std.proofs.lemmas.List.Quantifiers.{position-Some}
use Rattle.std.proofs.lemmas.List.Concat.{flat_map-append}
use Rattle.std.proofs.lemmas.List.Elements.{filter-append}
use Rattle.std.proofs.lemmas.Slice.Eq.{bytes_eq-Decides}
use Rattle.std.specs.List.{filter, flat_map, prefix_len}
use Rattle.fx_rules.specs.declared.session.PairRule.{PairRule}
use Rattle.fx_rules.specs.Lists.{Each, EachPair}
use Rattle.fx_rules.specs.Session.{Header, IsSession}
use Rattle.fx_rules.proofs.ListLemmas.{Each-at, EachPair-filter, filter_cons_true, filter_cons_false}
use Rattle.day_report.specs.declared.currencies.Columns.{Columns}
use Rattle.day_report.specs.Report.{firsts, currencies, base_code, quote_code}
use Rattle.day_report.specs.inside.Parts.{with_code}
use Rattle.day_report.specs.Sums.{code_at, StandsAt}

pub same_code : (a b : List ℕ) → bytes_eq a b ≡ true → a ≡ b
same_code a b is = (bytes_eq-Decides a b).0 is

pub code_is : (a b : List ℕ) → a ≡ b → bytes_eq a b ≡ true
code_is a b same = (bytes_eq-Decides a b).1 same

pub other_code : (a b : List ℕ) → (a ≡ b → ⊥) → bytes_eq a b ≡ false
other_code a b differ = false_from_ne_true (bytes_eq a b) (λ is. differ (same_code a b is))

-- a code is among some
abbrev has : List (List ℕ) → List ℕ → Bool
has codes code = is_some (position (λ other. bytes_eq other code) codes)

step_test : (a b : ℕ) → nat_lt (1 + a) (suc b) ≡ nat_lt a b
step_test a b = grind (arith, nat_tests)

some_if : (t : Bool) (n : ℕ) → is_some (cond t (Some n) None) ≡ t
some_if true n = refl
some_if false n = refl

has_is : (codes : List (List ℕ)) (code : List ℕ) → has codes code ≡ nat_lt (prefix_len (λ other. not (bytes_eq other code)) codes) (length codes)
has_is codes code = some_if (nat_lt (prefix_len (λ other. not (bytes_eq other code)) codes) (length codes)) (prefix_len (λ other. not (bytes_eq other code)) codes)

has_cons : (c : List ℕ) (codes : List (List ℕ)) (code : List ℕ) → has (c ∷ codes) code ≡ (bytes_eq c code || has codes code)
has_cons c codes code =
    elim (cases_Bool (bytes_eq c code)) [
      | inl is ↦
          has_is (c ∷ codes) code
          ∙ ap (λ t. nat_lt (cond (not t) (1 + prefix_len (λ (other : List ℕ). not (bytes_eq other code)) codes) 0) (suc (length codes))) is
          ∙ lt-ltb 0 (suc (length codes)) (omega arith)
          ∙ ap (λ t. t || has codes code) (sym is)
      | inr other ↦
          has_is (c ∷ codes) code
          ∙ ap (λ t. nat_lt (cond (not t) (1 + prefix_len (λ (other : List ℕ). not (bytes_eq other code)) codes) 0) (suc (length codes))) other
          ∙ step_test (prefix_len (λ (other : List ℕ). not (bytes_eq other code)) codes) (length codes)
          ∙ sym (has_is codes code)
          ∙ ap (λ t. t || has codes code) (sym other)
    ]

with_code-there : (codes : List (List ℕ)) (code : List ℕ) → has codes code ≡ true → with_code codes code ≡ codes
with_code-there codes code is = ap (λ t. cond t codes (codes ++ code ∷ [])) is

with_code-new : (codes : List (List ℕ)) (code : List ℕ) → has codes code ≡ false → with_code codes code ≡ codes ++ code ∷ []
with_code-new codes code is = ap (λ t. cond t codes (codes ++ code ∷ [])) is

-- other codes stay where those equal to one are left out
has_filter : (y x : List ℕ) (codes : List (List ℕ)) → bytes_eq y x ≡ false → has (filter (λ other. not (bytes_eq other y)) codes) x ≡ has codes x
has_filter y x [] differ = refl
has_filter y x (z ∷ codes) differ =
    let test : List ℕ → Bool = λ other. not (bytes_eq other y) in
    elim (cases_Bool (bytes_eq z y)) [
      | inl same ↦
          let gone : bytes_eq z x ≡ false = ap (λ c. bytes_eq c x) (same_code z y same) ∙ differ in
          ap (λ cs. has cs x) (filter_cons_false test z codes (ap not same)) ∙ has_filter y x codes differ
          ∙ ap (λ t. t || has codes x) (sym gone) ∙ sym (has_cons z codes x)
      | inr kept ↦
          ap (λ cs. has cs x) (filter_cons_true test z codes (ap not kept)) ∙ has_cons z (filter test codes) x
          ∙ ap (λ t. bytes_eq z x || t) (has_filter y x codes differ) ∙ sym (has_cons z codes x)
    ]

-- a code that would be left out adds nothing
same_filter : (y x : List ℕ) (codes : List (List ℕ)) → bytes_eq x y ≡ true → filter (λ other. not (bytes_eq other y)) (with_code codes x) ≡ filter (λ other. not (bytes_eq other y)) codes
same_filter y x codes same =
    let test : List ℕ → Bool = λ other. not (bytes_eq other y) in
    elim (cases_Bool (has codes x)) [
      | inl is ↦ ap (filter test) (with_code-there codes x is)
      | inr is ↦
          ap (filter test) (with_code-new codes x is) ∙ filter-append test codes (x ∷ [])
          ∙ ap (λ cs. filter test codes ++ cs) (filter_cons_false test x [] (ap not same)) ∙ append-nil (filter test codes)
    ]

-- one code more at the end
firsts_push : (xs : List (List ℕ)) (x : List ℕ) → firsts (xs ++ x ∷ []) ≡ with_code (firsts xs) x
firsts_push [] x = refl
firsts_push (y ∷ xs) x =
    let test : List ℕ → Bool = λ other. not (bytes_eq other y) in
    let step : firsts (y ∷ (xs ++ x ∷ [])) ≡ y ∷ filter test (with_code (firsts xs) x) = ap (λ cs. y ∷ filter test cs) (firsts_push xs x) in
    step ∙ elim (cases_Bool (bytes_eq y x)) [
      | inl same ↦
          let turned : bytes_eq x y ≡ true = code_is x y (sym (same_code y x same)) in
          let there : has (y ∷ filter test (firsts xs)) x ≡ true = has_cons y (filter test (firsts xs)) x ∙ ap (λ t. t || has (filter test (firsts xs)) x) same in
          ap (λ cs. y ∷ cs) (same_filter y x (firsts xs) turned) ∙ sym (with_code-there (y ∷ filter test (firsts xs)) x there)
      | inr differ ↦
          let turned : bytes_eq x y ≡ false = other_code x y (λ is. false≢true (sym differ ∙ code_is y x (sym is))) in
          let now : has (y ∷ filter test (firsts xs)) x ≡ has (firsts xs) x =
          has_cons y (filter test (firsts xs)) x ∙ ap (λ t. t || has (filter test (firsts xs)) x) differ ∙ has_filter y x (firsts xs) differ in
          elim (cases_Bool (has (firsts xs) x)) [
            | inl is ↦ ap (λ cs. y ∷ filter test cs) (with_code-there (firsts xs) x is) ∙ sym (with_code-there (y ∷ filter test (firsts xs)) x (now ∙ is))
            | inr is ↦
                ap (λ cs. y ∷ filter test cs) (with_code-new (firsts xs) x is)
                ∙ ap (λ cs. y ∷ cs) (filter-append test (firsts xs) (x ∷ []))
                ∙ ap (λ cs. y ∷ (filter test (firsts xs) ++ cs)) (filter_cons_true test x [] (ap not turned))
                ∙ sym (with_code-new (y ∷ filter test (firsts xs)) x (now ∙ is))
          ]
    ]

abbrev pub two_codes : PairRule → List (List ℕ)
two_codes rule = rule.base ∷ rule.quote ∷ []

-- one pair more
pub firsts_more : (rules : List PairRule) (i : ℕ) (rule : PairRule) (codes with_base : List (List ℕ)) → i < length rules → rule ≡ get_or rules i rule
    → codes ≡ firsts (flat_map two_codes (take i rules)) → with_base ≡ with_code codes rule.base → with_code with_base rule.quote ≡ firsts (flat_map two_codes (take (i + 1) rules))
firsts_more rules i rule codes with_base within is so_far base =
    let both : flat_map two_codes (take (i + 1) rules) ≡ (flat_map two_codes (take i rules) ++ rule.base ∷ []) ++ rule.quote ∷ [] =
    ap (flat_map two_codes) (take_more rules i rule within) ∙ flat_map-append two_codes (take i rules) (get_or rules i rule ∷ [])
    ∙ ap (λ (r : PairRule). flat_map two_codes (take i rules) ++ flat_map two_codes (r ∷ [])) (sym is)
    ∙ sym (append_assoc (flat_map two_codes (take i rules)) (rule.base ∷ []) (rule.quote ∷ [])) in
    ap (λ cs. with_code cs rule.quote) (base ∙ ap (λ cs. with_code cs rule.base) so_far ∙ sym (firsts_push (flat_map two_codes (take i rules)) rule.base))
    ∙ sym (firsts_push (flat_map two_codes (take i rules) ++ rule.base ∷ []) rule.quote) ∙ ap firsts (sym both)

-- a code stays where it stands
pub stands_on : (codes : List (List ℕ)) (code other : List ℕ) (column : ℕ) → StandsAt codes code column → StandsAt (with_code codes other) code column
stands_on codes code other column stands =
    elim (cases_Bool (has codes other)) [
      | inl is ↦ subst (λ (cs : List (List ℕ)). StandsAt cs code column) (sym (with_code-there codes other is)) stands
      | inr is ↦ subst (λ (cs : List (List ℕ)). StandsAt cs code column) (sym (with_code-new codes other is))
          (record { within = omega (arith, stands.within, length_push codes other); is = get_or_append_left codes (other ∷ []) [] column stands.within ∙ stands.is })
    ]

-- no code stands twice
not_kept : (y : List ℕ) (codes : List (List ℕ)) → Each (λ (other : List ℕ). y ≢ other) (filter (λ other. not (bytes_eq other y)) codes)
not_kept y [] = tt
not_kept y (z ∷ codes) =
    let test : List ℕ → Bool = λ other. not (bytes_eq other y) in
    elim (cases_Bool (bytes_eq z y)) [
      | inl same ↦ subst (Each (λ (other : List ℕ). y ≢ other)) (sym (filter_cons_false test z codes (ap not same))) (not_kept y codes)
      | inr differ ↦ subst (Each (λ (other : List ℕ). y ≢ other)) (sym (filter_cons_true test z codes (ap not differ)))
          (λ is. false≢true (sym differ ∙ code_is z y (sym is)), not_kept y codes)
    ]

pub firsts-apart : (xs : List (List ℕ)) → EachPair (λ a b. a ≢ b) (firsts xs)
firsts-apart [] = tt
firsts-apart (x ∷ xs) = (not_kept x (firsts xs), EachPair-filter (λ a b. a ≢ b) (λ other. not (bytes_eq other x)) (firsts xs) (firsts-apart xs))

pub column_one : (codes : List (List ℕ)) (i j : ℕ) → EachPair (λ a b. a ≢ b) codes → i < length codes → j < length codes → code_at codes i ≡ code_at codes j → i ≡ j
column_one [] i j apart p q same = absurd (omega arith)
column_one (c ∷ codes) zero zero apart p q same = refl
column_one (c ∷ codes) zero (suc j) apart p q same = absurd (Each-at (λ other. c ≢ other) codes j [] apart.0 (omega arith) same)
column_one (c ∷ codes) (suc i) zero apart p q same = absurd (Each-at (λ other. c ≢ other) codes i [] apart.0 (omega arith) (sym same))
column_one (c ∷ codes) (suc i) (suc j) apart p q same = ap suc (column_one codes i j apart.1 (omega arith) (omega arith) same)

-- to ask for a code's column is to ask for the code
pub column-test : (codes : List (List ℕ)) (code : List ℕ) (column other : ℕ) → EachPair (λ a b. a ≢ b) codes → StandsAt codes code column → other < length codes → eqb column other ≡ bytes_eq code (code_at codes other)
column-test codes code column other apart stands within =
    elim (cases_eq column other) [
      | inl same ↦ eq-eqb column other same ∙ sym (code_is code (code_at codes other) (sym stands.is ∙ ap (code_at codes) same))
      | inr differ ↦ ne_eqb column other differ
          ∙ sym (other_code code (code_at codes other) (λ is. differ (column_one codes column other apart stands.within within (stands.is ∙ is))))
    ]

-- there are no more than two to a pair
length_filter_le : (test : List ℕ → Bool) (codes : List (List ℕ)) → length (filter test codes) ≤ length codes
length_filter_le test [] = omega arith
length_filter_le test (c ∷ codes) =
    let rest : length (filter test codes) ≤ length codes = length_filter_le test codes in
    elim (cases_Bool (test c)) [
      | inl is ↦ let kept : length (filter test (c ∷ codes)) ≡ suc (length (filter test codes)) = ap length (filter_cons_true test c codes is) in omega arith
      | inr is ↦ let gone : length (filter test (c ∷ codes)) ≡ length (filter test codes) = ap length (filter_cons_false test c codes is) in omega arith
    ]

firsts_length : (xs : List (List ℕ)) → length (firsts xs) ≤ length xs
firsts_length [] = omega arith
firsts_length (x ∷ xs) = omega (arith, firsts_length xs, length_filter_le (λ other. not (bytes_eq other x)) (firsts xs))

two_length : (rules : List PairRule) → length (flat_map two_codes rules) ≡ 2 * length rules
two_length [] = refl
two_length (rule ∷ rules) = let rest : length (flat_map two_codes rules) ≡ 2 * length rules = two_length rules in omega arith

pub currencies-most : (h : Header) → IsSession h → length (currencies h) ≤ 64
currencies-most h session = omega (arith, firsts_length (flat_map two_codes h.pairs), two_length h.pairs, session.pairs_most)

-- where a code stands by the position that was found
pub placed : (codes : List (List ℕ)) (code : List ℕ) (column : ℕ) → position (λ other. bytes_eq other code) codes ≡ Some column → StandsAt codes code column
placed codes code column found =
    let at = position-Some (λ (other : List ℕ). bytes_eq other code) codes column [] found in
    record { within = at.0; is = same_code (code_at codes column) code at.1 }

-- the codes of a pair that was read
pub base_read : (h : Header) (i : ℕ) (rule : PairRule) → i < length h.pairs → rule ≡ get_or h.pairs i rule → rule.base ≡ base_code h i
base_read h i rule within is = ap (λ (r : PairRule). r.base) is ∙ sym (get_or-map (λ (r : PairRule). r.base) h.pairs i rule [] within)

pub quote_read : (h : Header) (i : ℕ) (rule : PairRule) → i < length h.pairs → rule ≡ get_or h.pairs i rule → rule.quote ≡ quote_code h i
quote_read h i rule within is = ap (λ (r : PairRule). r.quote) is ∙ sym (get_or-map (λ (r : PairRule). r.quote) h.pairs i rule [] within)

-- where the codes of the pairs stand once two more codes were looked for
pub stand-more : (code_of : ℕ → List ℕ) (part : Columns → ℕ) (codes middle new : List (List ℕ)) (columns more : List Columns) (i : ℕ) (two : Columns) (b q code : List ℕ)
    → length columns ≡ i → middle ≡ with_code codes b → new ≡ with_code middle q → more ≡ columns ++ two ∷ [] → StandsAt new code (part two) → code ≡ code_of i
    → ((pair : ℕ) (d : Columns) → pair < i → StandsAt codes (code_of pair) (part (get_or columns pair d)))
    → (pair : ℕ) (d : Columns) → pair < i + 1 → StandsAt new (code_of pair) (part (get_or more pair d))
stand-more code_of part codes middle new columns more i two b q code count is_middle is_new is_more here is_code before pair d within =
    subst (λ (cs : List Columns). StandsAt new (code_of pair) (part (get_or cs pair d))) (sym is_more)
    (elim (cases_order pair i) [
      | inl same ↦
          subst (λ k. StandsAt new (code_of k) (part (get_or (columns ++ two ∷ []) k d))) (sym same)
          (subst (λ (at : Columns). StandsAt new (code_of i) (part at)) (sym (get_or_push columns two d i count)) (subst (λ c. StandsAt new c (part two)) is_code here))
      | inr other ↦ elim other [
        | inl earlier ↦
            subst (λ (at : Columns). StandsAt new (code_of pair) (part at)) (sym (get_or_append_left columns (two ∷ []) d pair (omega arith)))
            (subst (λ (cs : List (List ℕ)). StandsAt cs (code_of pair) (part (get_or columns pair d))) (sym is_new)
            (stands_on middle (code_of pair) q (part (get_or columns pair d))
            (subst (λ (cs : List (List ℕ)). StandsAt cs (code_of pair) (part (get_or columns pair d))) (sym is_middle)
            (stands_on codes (code_of pair) b (part (get_or columns pair d)) (before pair d earlier)))))
        | inr past ↦ absurd (omega arith)
      ]
    ])

-- a code that stood before one more was looked for
pub stands_then : (middle new : List (List ℕ)) (q code : List ℕ) (column : ℕ) → new ≡ with_code middle q → StandsAt middle code column → StandsAt new code column
stands_then middle new q code column is stands = subst (λ (cs : List (List ℕ)). StandsAt cs code column) (sym is) (stands_on middle code q column stands)
