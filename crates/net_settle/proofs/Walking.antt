-- What follows from a walk, and how the loop comes to one.
use Rattle.std.proofs.Common.{ℕ, suc, ◌≡◌, ◌+◌, ◌-◌, ◌≤◌, ◌<◌, List, [], ◌∷◌, ◌++◌, length, set, min, refl, ap, sym, subst, ◌∙◌, arith, inl, inr, append-nil, append_assoc}
use Rattle.std.specs.Prelude.{◌⊎◌}
use Rattle.std.proofs.lemmas.List.{get_or-set_other, length-set}
use Rattle.fx_rules.specs.Lists.{Each, total}
use Rattle.fx_rules.specs.Session.{Header, bank_count}
use Rattle.net_settle.specs.declared.payment.Payment.{Payment}
use Rattle.net_settle.specs.Payments.{IsFirst, IsOfBanks, Walks, got_by, paid_by}
use Rattle.net_settle.specs.inside.Dues.{Appends}
use Rattle.net_settle.proofs.Amounts.{at, sum, sign, some, at_within, some_at, sum_none, none_at, sum-taken, some-taken, at-taken, lesser_left, lesser_right, some_lesser, one_done}

-- what is left of the amounts behind a payment
abbrev left_by : List ℕ → ℕ → Payment → List ℕ
left_by xs bank p = set xs bank (at xs bank - p.amount)

pub walk-code : (c : List ℕ) (X Y : List ℕ) (ps : List Payment) → Walks c X Y ps → Each (λ (p : Payment). p.currency ≡ c) ps
walk-code c X Y [] is = tt
walk-code c X Y (p ∷ ps) is = (is.2, walk-code c (left_by X p.payer p) (left_by Y p.payee p) ps is.4)

pub walk-banks : (h : Header) (c : List ℕ) (X Y : List ℕ) (ps : List Payment) → length X ≡ bank_count h → length Y ≡ bank_count h → Walks c X Y ps → Each (IsOfBanks h) ps
walk-banks h c X Y [] owing owned is = tt
walk-banks h c X Y (p ∷ ps) owing owned is = (
  (subst (λ n. p.payer < n) owing (at_within X p.payer is.0.some), subst (λ n. p.payee < n) owned (at_within Y p.payee is.1.some)),
  walk-banks h c (left_by X p.payer p) (left_by Y p.payee p) ps (length-set X p.payer (at X p.payer - p.amount) ∙ owing) (length-set Y p.payee (at Y p.payee - p.amount) ∙ owned) is.4,
)

pub walk-some : (c : List ℕ) (X Y : List ℕ) (ps : List Payment) → Walks c X Y ps → Each (λ (p : Payment). 1 ≤ p.amount) ps
walk-some c X Y [] is = tt
walk-some c X Y (p ∷ ps) is =
    (some_lesser (at X p.payer) (at Y p.payee) p.amount is.0.some is.1.some is.3, walk-some c (left_by X p.payer p) (left_by Y p.payee p) ps is.4)

pub walk-paid : (c : List ℕ) (X Y : List ℕ) (ps : List Payment) (bank : ℕ) → Walks c X Y ps → total (paid_by bank) ps ≡ at X bank
walk-paid c X Y [] bank is = sym (is bank)
walk-paid c X Y (p ∷ ps) bank is =
    ap (λ n. paid_by bank p + n) (walk-paid c (left_by X p.payer p) (left_by Y p.payee p) ps bank is.4)
    ∙ at-taken X p.payer p.amount bank (at_within X p.payer is.0.some) (lesser_left (at X p.payer) (at Y p.payee) p.amount is.3)

-- what is owed in all stays what all are owed
next_sums : (x y x1 y1 m : ℕ) → x1 + m ≡ x → y1 + m ≡ y → x ≡ y → x1 ≡ y1
next_sums x y x1 y1 m p q same = omega arith

sums-left : (c : List ℕ) (X Y : List ℕ) (p : Payment) (ps : List Payment) → Walks c X Y (p ∷ ps) → sum X ≡ sum Y → sum (left_by X p.payer p) ≡ sum (left_by Y p.payee p)
sums-left c X Y p ps is same =
    next_sums (sum X) (sum Y) (sum (left_by X p.payer p)) (sum (left_by Y p.payee p)) p.amount
    (sum-taken X p.payer p.amount (at_within X p.payer is.0.some) (lesser_left (at X p.payer) (at Y p.payee) p.amount is.3))
    (sum-taken Y p.payee p.amount (at_within Y p.payee is.1.some) (lesser_right (at X p.payer) (at Y p.payee) p.amount is.3)) same

pub walk-got : (c : List ℕ) (X Y : List ℕ) (ps : List Payment) (bank : ℕ) → Walks c X Y ps → sum X ≡ sum Y → total (got_by bank) ps ≡ at Y bank
walk-got c X Y [] bank is same = sym (none_at Y bank (sym same ∙ sum_none X (λ k within. is k)))
walk-got c X Y (p ∷ ps) bank is same =
    ap (λ n. got_by bank p + n) (walk-got c (left_by X p.payer p) (left_by Y p.payee p) ps bank is.4 (sums-left c X Y p ps is same))
    ∙ at-taken Y p.payee p.amount bank (at_within Y p.payee is.1.some) (lesser_right (at X p.payer) (at Y p.payee) p.amount is.3)

pub walk-sum : (c : List ℕ) (X Y : List ℕ) (ps : List Payment) → Walks c X Y ps → total (λ (p : Payment). p.amount) ps ≡ sum X
walk-sum c X Y [] is = sym (sum_none X (λ k within. is k))
walk-sum c X Y (p ∷ ps) is =
    let rest : total (λ (q : Payment). q.amount) ps ≡ sum (left_by X p.payer p) = walk-sum c (left_by X p.payer p) (left_by Y p.payee p) ps is.4 in
    let less : sum (left_by X p.payer p) + p.amount ≡ sum X =
    sum-taken X p.payer p.amount (at_within X p.payer is.0.some) (lesser_left (at X p.payer) (at Y p.payee) p.amount is.3) in
    omega arith

count_falls : (n x y x1 y1 sa sb : ℕ) → n ≤ x1 + y1 - 1 → x1 + 1 ≡ x + sa → y1 + 1 ≡ y + sb → sa + sb ≤ 1 → 1 ≤ x → 1 ≤ y → suc n ≤ x + y - 1
count_falls n x y x1 y1 sa sb few p q one a b = omega arith

pub walk-few : (c : List ℕ) (X Y : List ℕ) (ps : List Payment) → Walks c X Y ps → length ps ≤ some X + some Y - 1
walk-few c X Y [] is = omega arith
walk-few c X Y (p ∷ ps) is =
    count_falls (length ps) (some X) (some Y) (some (left_by X p.payer p)) (some (left_by Y p.payee p)) (sign (at X p.payer - p.amount)) (sign (at Y p.payee - p.amount))
    (walk-few c (left_by X p.payer p) (left_by Y p.payee p) ps is.4)
    (some-taken X p.payer p.amount (at_within X p.payer is.0.some) is.0.some) (some-taken Y p.payee p.amount (at_within Y p.payee is.1.some) is.1.some)
    (one_done (at X p.payer) (at Y p.payee) p.amount is.3) (some_at X p.payer is.0.some) (some_at Y p.payee is.1.some)

-- The loop.

-- what is so far: `X` and `Y` are what is left of `X0` and `Y0`, and what still comes completes a walk
pub record SoFar (c : List ℕ) (X0 Y0 X Y : List ℕ) (payer payee : ℕ) (old now : List Payment) : Type 0 where
  pub owing : length X ≡ length X0
  pub owning : length Y ≡ length Y0
  pub before_payer : (k : ℕ) → k < payer → at X k ≡ 0
  pub before_payee : (k : ℕ) → k < payee → at Y k ≡ 0
  pub sums : sum X ≡ sum Y
  pub walks : (more : List Payment) → Walks c X Y more → Appends (Walks c X0 Y0) old (now ++ more)

pub begun : (c : List ℕ) (X Y : List ℕ) (old : List Payment) → sum X ≡ sum Y → SoFar c X Y X Y 0 0 old old
begun c X Y old same = record {
  owing = refl;
  owning = refl;
  before_payer = λ k within. absurd (omega arith);
  before_payee = λ k within. absurd (omega arith);
  sums = same;
  walks = λ more is. (more, is, refl);
}

before_set : (xs : List ℕ) (i v : ℕ) → ((k : ℕ) → k < i → at xs k ≡ 0) → (k : ℕ) → k < i → at (set xs i v) k ≡ 0
before_set xs i v before k within = get_or-set_other xs i k v 0 (λ same. omega arith) ∙ before k within

-- the two that were found are the first, and one pays the other
pub paid-one : (c : List ℕ) (X0 Y0 X Y : List ℕ) (payer payee : ℕ) (old now after : List Payment) (p : Payment) → SoFar c X0 Y0 X Y payer payee old now → 1 ≤ at X payer → 1 ≤ at Y payee
    → p.payer ≡ payer → p.payee ≡ payee → p.currency ≡ c → p.amount ≡ min (at X payer) (at Y payee) → after ≡ now ++ p ∷ []
    → SoFar c X0 Y0 (set X payer (at X payer - p.amount)) (set Y payee (at Y payee - p.amount)) payer payee old after
paid-one c X0 Y0 X Y payer payee old now after p is some_owes some_owed is_payer is_payee code least pushed =
    let most_owes : p.amount ≤ at X payer = lesser_left (at X payer) (at Y payee) p.amount least in
    let most_owed : p.amount ≤ at Y payee = lesser_right (at X payer) (at Y payee) p.amount least in
    record {
      owing = length-set X payer (at X payer - p.amount) ∙ is.owing;
      owning = length-set Y payee (at Y payee - p.amount) ∙ is.owning;
      before_payer = before_set X payer (at X payer - p.amount) is.before_payer;
      before_payee = before_set Y payee (at Y payee - p.amount) is.before_payee;
      sums = next_sums (sum X) (sum Y) _ _ p.amount
          (sum-taken X payer p.amount (at_within X payer some_owes) most_owes) (sum-taken Y payee p.amount (at_within Y payee some_owed) most_owed) is.sums;
      walks = λ more next.
          let From : ℕ → ℕ → Type 0 = λ i j. IsFirst X i × IsFirst Y j × (p.currency ≡ c) × (p.amount ≡ min (at X i) (at Y j)) × Walks c (set X i (at X i - p.amount)) (set Y j (at Y j - p.amount)) more in
          let here : From payer payee = (record { some = some_owes; first = is.before_payer }, record { some = some_owed; first = is.before_payee }, code, least, next) in
          subst (Appends (Walks c X0 Y0) old) (sym (append_assoc now (p ∷ []) more) ∙ ap (λ ps. ps ++ more) (sym pushed))
          (is.walks (p ∷ more) (subst (λ i. From i p.payee) (sym is_payer) (subst (From payer) (sym is_payee) here)));
    }

-- behind the last place nothing is left on either side, and the walk is whole
pub walked : (c : List ℕ) (X0 Y0 X Y : List ℕ) (payer payee : ℕ) (old now : List Payment) → SoFar c X0 Y0 X Y payer payee old now → (length X ≤ payer) ⊎ (length Y ≤ payee) → Appends (Walks c X0 Y0) old now
walked c X0 Y0 X Y payer payee old now is past =
    let none : sum X ≡ 0 = elim past [
      | inl p ↦ sum_none X (λ k within. is.before_payer k (omega arith))
      | inr p ↦ is.sums ∙ sum_none Y (λ k within. is.before_payee k (omega arith))
    ] in
    subst (Appends (Walks c X0 Y0) old) (append-nil now) (is.walks [] (λ bank. none_at X bank none))

fell : (before after m len len1 other other1 i j : ℕ) → after + m ≡ before → 1 ≤ m → len1 ≡ len → other1 ≡ other → after + (len1 - i) + (other1 - j) < before + (len - i) + (other - j)
fell before after m len len1 other other1 i j less some p q = omega arith

pub falls : (X Y : List ℕ) (payer payee m : ℕ) → 1 ≤ at X payer → 1 ≤ at Y payee → m ≡ min (at X payer) (at Y payee)
    → sum (set X payer (at X payer - m)) + (length (set X payer (at X payer - m)) - payer) + (length (set Y payee (at Y payee - m)) - payee) < sum X + (length X - payer) + (length Y - payee)
falls X Y payer payee m some other least =
    fell (sum X) (sum (set X payer (at X payer - m))) m (length X) _ (length Y) _ payer payee
    (sum-taken X payer m (at_within X payer some) (lesser_left (at X payer) (at Y payee) m least))
    (some_lesser (at X payer) (at Y payee) m some other least)
    (length-set X payer (at X payer - m)) (length-set Y payee (at Y payee - m))
