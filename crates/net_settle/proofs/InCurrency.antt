-- The payments of one currency among those of all, currency by currency.
use Rattle.std.proofs.Common.{ℕ, zero, suc, ◌≡◌, ◌≢◌, ◌<◌, true, false, bytes_eq, List, [], ◌∷◌, ◌++◌, map, length, inl, inr, refl, ap, sym, subst, ◌∙◌, arith, append-nil}
use Rattle.std.specs.Prelude.{◌⊎◌}
use Rattle.std.specs.List.{flat_map}
use Rattle.std.proofs.lemmas.Bool.{cases_Bool, cases_eq}
use Rattle.std.proofs.lemmas.List.Concat.{flat_map-append}
use Rattle.std.proofs.lemmas.List.Elements.{filter-append}
use Rattle.fx_rules.specs.Lists.{Each, below}
use Rattle.fx_rules.specs.Session.{Header}
use Rattle.fx_rules.proofs.ListLemmas.{filter_cons_true, filter_cons_false, Each-append}
use Rattle.day_report.specs.Report.{currencies}
use Rattle.day_report.specs.Sums.{code_at, StandsAt}
use Rattle.day_report.proofs.Codes.{same_code, code_is, other_code, column_one, firsts-apart}
use Rattle.day_report.proofs.Listing.{by_columns}
use Rattle.net_settle.specs.declared.payment.Payment.{Payment}
use Rattle.net_settle.specs.Payments.{payments_in}
use Rattle.net_settle.proofs.Flows.{Absent}

-- all payments are of a currency
abbrev pub AreOf : List ℕ → List Payment → Type 0
AreOf code ps = Each (λ (p : Payment). p.currency ≡ code) ps

all_of : (code c : List ℕ) (ps : List Payment) → AreOf code ps → bytes_eq code c ≡ true → payments_in c ps ≡ ps
all_of code c [] are is = refl
all_of code c (p ∷ ps) are is =
    filter_cons_true (λ (q : Payment). bytes_eq q.currency c) p ps (ap (λ x. bytes_eq x c) are.0 ∙ is) ∙ ap (λ qs. p ∷ qs) (all_of code c ps are.1 is)

none_of : (code c : List ℕ) (ps : List Payment) → AreOf code ps → bytes_eq code c ≡ false → payments_in c ps ≡ []
none_of code c [] are other = refl
none_of code c (p ∷ ps) are other =
    filter_cons_false (λ (q : Payment). bytes_eq q.currency c) p ps (ap (λ x. bytes_eq x c) are.0 ∙ other) ∙ none_of code c ps are.1 other

-- the payments of so many currencies, and of one more
last-part : (c : List ℕ) (part : ℕ → List Payment) (n : ℕ) → payments_in c (flat_map part (below (suc n))) ≡ payments_in c (flat_map part (below n)) ++ payments_in c (part n)
last-part c part n =
    ap (payments_in c) (flat_map-append part (below n) (n ∷ []) ∙ ap (λ ps. flat_map part (below n) ++ ps) (append-nil (part n)))
    ∙ filter-append (λ (p : Payment). bytes_eq p.currency c) (flat_map part (below n)) (part n)

in-none : (c : List ℕ) (code : ℕ → List ℕ) (part : ℕ → List Payment) (n : ℕ) → ((k : ℕ) → k < n → AreOf (code k) (part k)) → ((k : ℕ) → k < n → bytes_eq (code k) c ≡ false) → payments_in c (flat_map part (below n)) ≡ []
in-none c code part zero are other = refl
in-none c code part (suc n) are other =
    last-part c part n
    ∙ ap (λ ps. ps ++ payments_in c (part n)) (in-none c code part n (λ k within. are k (omega arith)) (λ k within. other k (omega arith)))
    ∙ none_of (code n) c (part n) (are n (omega arith)) (other n (omega arith))

in-one : (c : List ℕ) (code : ℕ → List ℕ) (part : ℕ → List Payment) (n at : ℕ) → ((k : ℕ) → k < n → AreOf (code k) (part k)) → at < n → bytes_eq (code at) c ≡ true → ((k : ℕ) → k < n → k ≢ at → bytes_eq (code k) c ≡ false)
    → payments_in c (flat_map part (below n)) ≡ part at
in-one c code part zero at are within is other = absurd (omega arith)
in-one c code part (suc n) at are within is other =
    last-part c part n
    ∙ elim (cases_eq at n) [
      | inl same ↦
          ap (λ ps. ps ++ payments_in c (part n)) (in-none c code part n (λ k p. are k (omega arith)) (λ k p. other k (omega arith) (λ q. absurd (omega arith))))
          ∙ all_of (code n) c (part n) (are n (omega arith)) (ap (λ k. bytes_eq (code k) c) (sym same) ∙ is) ∙ ap part (sym same)
      | inr differ ↦
          ap (λ ps. payments_in c (flat_map part (below n)) ++ ps) (none_of (code n) c (part n) (are n (omega arith)) (other n (omega arith) (λ q. differ (sym q))))
          ∙ append-nil (payments_in c (flat_map part (below n)))
          ∙ in-one c code part n at (λ k p. are k (omega arith)) (omega arith) is (λ k p q. other k (omega arith) q)
    ]

-- where a code stands, if it does
find-code : (codes : List (List ℕ)) (c : List ℕ) → ((k : ℕ) × StandsAt codes c k) ⊎ ((k : ℕ) → k < length codes → bytes_eq (code_at codes k) c ≡ false)
find-code [] c = inr (λ k within. absurd (omega arith))
find-code (x ∷ codes) c =
    elim (cases_Bool (bytes_eq x c)) [
      | inl is ↦ inl (0, record { within = omega arith; is = same_code x c is })
      | inr other ↦ elim (find-code codes c) [
        | inl found ↦ inl (suc found.0, record { within = omega (arith, found.1.within); is = found.1.is })
        | inr none ↦ inr (λ k. elim k as (λ j. j < length (x ∷ codes) → bytes_eq (code_at (x ∷ codes) j) c ≡ false) [
          | zero ↦ λ within. other
          | suc j ↦ λ within. none j (omega arith)
        ])
      ]
    ]

-- Payments by currencies have of each currency its part, and none of a code that is no currency.
pub part-of : (h : Header) (part : ℕ → List Payment) (c : List ℕ) → ((k : ℕ) → k < length (currencies h) → AreOf (code_at (currencies h) k) (part k))
    → ((k : ℕ) × StandsAt (currencies h) c k × (payments_in c (flat_map part (below (length (currencies h)))) ≡ part k))
    ⊎ (Absent h c × (payments_in c (flat_map part (below (length (currencies h)))) ≡ []))
part-of h part c are =
    elim (find-code (currencies h) c) [
      | inl found ↦
          inl (
            found.0,
            found.1,
            in-one c (code_at (currencies h)) part (length (currencies h)) found.0 are found.1.within (code_is (code_at (currencies h) found.0) c found.1.is)
                (λ k within differ. other_code (code_at (currencies h) k) c
                (λ same. differ (column_one (currencies h) k found.0 (firsts-apart _) within found.1.within (same ∙ sym found.1.is)))),
          )
      | inr absent ↦ inr (absent, in-none c (code_at (currencies h)) part (length (currencies h)) are absent)
    ]

-- Lists by codes and by their places.

flat-by-map : {X Y : Type 0} (f : X → List Y) (xs : List X) → flat_map f xs ≡ flat_map (λ ys. ys) (map f xs)
flat-by-map f [] = refl
flat-by-map f (x ∷ xs) = ap (λ ys. f x ++ ys) (flat-by-map f xs)

pub by-places : (f : List ℕ → List Payment) (codes : List (List ℕ)) → flat_map f codes ≡ flat_map (λ k. f (code_at codes k)) (below (length codes))
by-places f codes =
    flat-by-map f codes ∙ ap (flat_map (λ ps. ps)) (by_columns f codes) ∙ sym (flat-by-map (λ k. f (code_at codes k)) (below (length codes)))

pub each-flat : (P : Payment → Type 0) (part : ℕ → List Payment) (n : ℕ) → ((k : ℕ) → k < n → Each P (part k)) → Each P (flat_map part (below n))
each-flat P part zero all = tt
each-flat P part (suc n) all =
    subst (Each P) (sym (flat_map-append part (below n) (n ∷ []) ∙ ap (λ ps. flat_map part (below n) ++ ps) (append-nil (part n))))
    (Each-append P (flat_map part (below n)) (part n) (each-flat P part n (λ k within. all k (omega arith))) (all n (omega arith)))
