-- A bank's orders of a side, gone through from the best one on, and all orders of a book.
use Rattle.std.proofs.Common.{ℕ, zero, suc, ◌≡◌, ◌+◌, ◌*◌, ◌^◌, ◌≤◌, ◌<◌, eqb, ltb, List, [], ◌∷◌, length, None, inl, inr, refl, ap, ◌∙◌, arith}
use Rattle.std.proofs.lemmas.Bool.{cases_eq, cases_lt, eq-eqb, ne_eqb, lt-ltb, le-ltb}
use Rattle.std.specs.List.{filter}
use Rattle.fx_amounts.specs.declared.side.Side.{Side}
use Rattle.fx_rules.specs.declared.orders.Resting.{Resting}
use Rattle.fx_rules.specs.Lists.{Each}
use Rattle.fx_rules.proofs.ListLemmas.{Each-weaker, filter_cons_true, filter_cons_false}
use Rattle.global_book.specs.Behind.{owned_behind}
use Rattle.global_book.specs.Book.{Book, IsBook, IsHeld}
use Rattle.global_book.proofs.Pulling.{few_orders, few_own, owned_all}

pub few_owned : (book : Book) (bank : ℕ) (side : Side) → IsBook book → length (owned_behind side bank (2 ^ 64) None book.orders) < 2 ^ 32
few_owned book bank side valid = omega (arith, few_own book bank side valid, ap (λ (os : List Resting). length os) (owned_all book side bank valid))

-- ---- all orders, by their banks

-- those whose key is below a number, and those that have it
pub length-keys : {X : Type 0} (key : X → ℕ) (n : ℕ) (xs : List X) → length (filter (λ x. ltb (key x) (n + 1)) xs) ≡ length (filter (λ x. ltb (key x) n) xs) + length (filter (λ x. eqb (key x) n) xs)
length-keys key n [] = refl
length-keys key n (x ∷ xs) =
    let rest = length-keys key n xs in
    elim (cases_lt (key x) n) [
      | inl low ↦ omega (
        arith,
        rest,
        ap length (filter_cons_true (λ y. ltb (key y) (n + 1)) x xs (lt-ltb (key x) (n + 1) (omega (arith, low)))),
        ap length (filter_cons_true (λ y. ltb (key y) n) x xs (lt-ltb (key x) n low)),
        ap length (filter_cons_false (λ y. eqb (key y) n) x xs (ne_eqb (key x) n (λ same. absurd (omega (arith, same, low))))),
      )
      | inr high ↦ elim (cases_eq (key x) n) [
        | inl same ↦ omega (
          arith,
          rest,
          ap length (filter_cons_true (λ y. ltb (key y) (n + 1)) x xs (lt-ltb (key x) (n + 1) (omega (arith, same)))),
          ap length (filter_cons_false (λ y. ltb (key y) n) x xs (le-ltb (key x) n high)),
          ap length (filter_cons_true (λ y. eqb (key y) n) x xs (eq-eqb (key x) n same)),
        )
        | inr differ ↦ omega (
          arith,
          rest,
          ap length (filter_cons_false (λ y. ltb (key y) (n + 1)) x xs (le-ltb (key x) (n + 1) (omega (arith, high, differ)))),
          ap length (filter_cons_false (λ y. ltb (key y) n) x xs (le-ltb (key x) n high)),
          ap length (filter_cons_false (λ y. eqb (key y) n) x xs (ne_eqb (key x) n differ)),
        )
      ]
    ]

-- the orders of the banks below a number
abbrev pub of_banks_below : ℕ → List Resting → List Resting
of_banks_below n orders = filter (λ order. ltb order.bank n) orders

pub none-below : {X : Type 0} (key : X → ℕ) (xs : List X) → filter (λ x. ltb (key x) 0) xs ≡ []
none-below key [] = refl
none-below key (x ∷ xs) = filter_cons_false (λ y. ltb (key y) 0) x xs (le-ltb (key x) 0 (omega arith)) ∙ none-below key xs

pub all-below : {X : Type 0} (key : X → ℕ) (n : ℕ) (xs : List X) → Each (λ x. key x < n) xs → filter (λ x. ltb (key x) n) xs ≡ xs
all-below key n [] all = refl
all-below key n (x ∷ xs) all = filter_cons_true (λ y. ltb (key y) n) x xs (lt-ltb (key x) n all.0) ∙ ap (λ ys. x ∷ ys) (all-below key n xs all.1)

-- no bank has more orders than numbers
few_below : (book : Book) (n : ℕ) → IsBook book → length (of_banks_below n book.orders) ≤ n * 2 ^ 32
few_below book zero valid = omega (arith, ap (λ (os : List Resting). length os) (none-below (λ (order : Resting). order.bank) book.orders))
few_below book (suc n) valid =
    omega (
      arith,
      few_below book n valid,
      few_orders book n valid,
      length-keys (λ (order : Resting). order.bank) n book.orders,
      ap (λ (k : ℕ). length (of_banks_below k book.orders)) (let it : suc n ≡ n + 1 = omega arith in it),
    )

pub few_resting : (book : Book) → IsBook book → book.banks ≤ 64 → length book.orders ≤ 2 ^ 38
few_resting book valid most =
    let all : length (of_banks_below book.banks book.orders) ≡ length book.orders =
    ap (λ (os : List Resting). length os) (all-below (λ (order : Resting). order.bank) book.banks book.orders
    (Each-weaker (IsHeld book.banks) (λ (order : Resting). order.bank < book.banks) (λ order held. held.bank) book.orders valid.held)) in
    omega (arith, all, few_below book book.banks valid, most)
