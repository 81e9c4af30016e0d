-- The lists that are made from the dues are those of the definitions.
use Rattle.std.proofs.Common.{ℕ, ◌≡◌, ◌+◌, ◌<◌, true, nat_lt, List, [], ◌∷◌, ◌++◌, length, ap, sym, ◌∙◌, append-nil, append_assoc}
use Rattle.std.specs.List.{filter, flat_map}
use Rattle.std.proofs.lemmas.List.Concat.{flat_map-append}
use Rattle.fx_rules.specs.Lists.{below}
use Rattle.fx_rules.specs.Session.{Header, bank_count}
use Rattle.fx_rules.specs.State.{State}
use Rattle.day_report.specs.Report.{currencies, banks_behind}
use Rattle.day_report.specs.Sums.{code_at}
use Rattle.fx_rules.proofs.Below.{flat_map-more}
use Rattle.day_report.proofs.Listing.{behind-more, each-below, each-kept, flat_map-agree}
use Rattle.net_settle.specs.declared.payment.Payment.{Payment}
use Rattle.net_settle.specs.declared.dues.Dues.{Dues}
use Rattle.net_settle.specs.Payments.{due, pay_two, twos_of, bilateral_of}
use Rattle.net_settle.specs.inside.Dues.{AreDues, due_in, two_in, column_in}
use Rattle.net_settle.proofs.InCurrency.{by-places}

-- The steps of the loops.

pub flat-step : (f : ℕ → List Payment) (n : ℕ) (old before after : List Payment) → before ≡ old ++ flat_map f (below n) → after ≡ before ++ f n → after ≡ old ++ flat_map f (below (n + 1))
flat-step f n old before after so_far pushed =
    pushed ∙ ap (λ ps. ps ++ f n) so_far ∙ append_assoc old (flat_map f (below n)) (f n) ∙ ap (λ ps. old ++ ps) (sym (flat_map-more f n))

pub behind-step : (f : ℕ → List Payment) (i n : ℕ) (old before after : List Payment) → i < n → before ≡ old ++ flat_map f (filter (nat_lt i) (below n)) → after ≡ before ++ f n
    → after ≡ old ++ flat_map f (filter (nat_lt i) (below (n + 1)))
behind-step f i n old before after within so_far pushed =
    let more : flat_map f (filter (nat_lt i) (below (n + 1))) ≡ flat_map f (filter (nat_lt i) (below n)) ++ f n =
    ap (flat_map f) (behind-more i n within) ∙ flat_map-append f (filter (nat_lt i) (below n)) (n ∷ [])
    ∙ ap (λ ps. flat_map f (filter (nat_lt i) (below n)) ++ ps) (append-nil (f n)) in
    pushed ∙ ap (λ ps. ps ++ f n) so_far ∙ append_assoc old (flat_map f (filter (nat_lt i) (below n))) (f n) ∙ ap (λ ps. old ++ ps) (sym more)

-- The lists.

two-is : (h : Header) (S : State) (dues : Dues) (k a b : ℕ) → AreDues h S.fills dues → a < bank_count h → b < bank_count h → k < length (currencies h)
    → two_in dues k a b ≡ pay_two (code_at (currencies h) k) a b (due h S a b (code_at (currencies h) k)) (due h S b a (code_at (currencies h) k))
two-is h S dues k a b are p q within =
    ap (λ (codes : List (List ℕ)). pay_two (code_at codes k) a b (due_in dues a b k) (due_in dues b a k)) are.currencies_are.codes_are
    ∙ ap (λ n. pay_two (code_at (currencies h) k) a b n (due_in dues b a k)) (are.each a b k p q within)
    ∙ ap (pay_two (code_at (currencies h) k) a b (due h S a b (code_at (currencies h) k))) (are.each b a k q p within)

pub column-is : (h : Header) (S : State) (dues : Dues) (k : ℕ) → AreDues h S.fills dues → k < length (currencies h) → column_in dues k ≡ twos_of h S (code_at (currencies h) k)
column-is h S dues k are within =
    let c : List ℕ = code_at (currencies h) k in
    let all : ℕ → List Payment = λ banks. flat_map (λ a. flat_map (two_in dues k a) (filter (nat_lt a) (below banks))) (below banks) in
    ap all are.banks_are
    ∙ flat_map-agree (λ a. a < bank_count h) (λ a. flat_map (two_in dues k a) (banks_behind h a)) (λ a. flat_map (λ b. pay_two c a b (due h S a b c) (due h S b a c)) (banks_behind h a)) (below (bank_count h))
    (λ a p. flat_map-agree (λ b. (b < bank_count h) × (nat_lt a b ≡ true)) (two_in dues k a) (λ b. pay_two c a b (due h S a b c) (due h S b a c)) (banks_behind h a)
    (λ b both. two-is h S dues k a b are p both.0 within)
    (each-kept (λ b. b < bank_count h) (nat_lt a) (below (bank_count h)) (each-below (λ b. b < bank_count h) (bank_count h) (λ i inside. inside))))
    (each-below (λ a. a < bank_count h) (bank_count h) (λ i inside. inside))

pub all-are : (h : Header) (S : State) (dues : Dues) → AreDues h S.fills dues → flat_map (column_in dues) (below (length dues.currencies.codes.items)) ≡ bilateral_of h S
all-are h S dues are =
    ap (λ (codes : List (List ℕ)). flat_map (column_in dues) (below (length codes))) are.currencies_are.codes_are
    ∙ flat_map-agree (λ k. k < length (currencies h)) (column_in dues) (λ k. twos_of h S (code_at (currencies h) k)) (below (length (currencies h)))
    (λ k within. column-is h S dues k are within) (each-below (λ k. k < length (currencies h)) (length (currencies h)) (λ i inside. inside))
    ∙ sym (by-places (twos_of h S) (currencies h))
