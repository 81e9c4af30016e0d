-- The orders of a book, put to rest in another one after the other.
use Rattle.std.proofs.Common.{ℕ, zero, suc, ◌≡◌, ◌<◌, false, List, [], ◌∷◌, inl, inr, arith, length, get_or, take}
use Rattle.std.proofs.lemmas.Bool.{false_from_ne_true}
use Rattle.fx_rules.specs.declared.orders.Resting.{Resting}
use Rattle.fx_rules.specs.Lists.{Among, Each, EachPair}
use Rattle.fx_rules.specs.Sound.{ArrivesBefore}
use Rattle.fx_rules.specs.Sweep.{is_order}
use Rattle.fx_rules.proofs.ListLemmas.{Each-among, Each-weaker}
use Rattle.fx_rules.proofs.Lowering.{is_order-says}
use Rattle.global_book.specs.Book.{IsHeld}

among-at : (orders : List Resting) (k : ℕ) (o : Resting) → k < length orders → o ≡ get_or orders k o → Among o orders
among-at [] k o within is = absurd (omega (arith, within))
among-at (x ∷ orders) zero o within is = inl is
among-at (x ∷ orders) (suc k) o within is = inr (among-at orders k o (omega (arith, within)) is)

-- an order of the list is one of the book's banks
pub held-at : (banks : ℕ) (orders : List Resting) (k : ℕ) (o : Resting) → Each (IsHeld banks) orders → k < length orders → o ≡ get_or orders k o → IsHeld banks o
held-at banks orders k o held within is = Each-among (IsHeld banks) orders o held (among-at orders k o within is)

-- those before it arrived before it, and are of other commands
before-at : (orders : List Resting) (k : ℕ) (o : Resting) → EachPair ArrivesBefore orders → k < length orders → o ≡ get_or orders k o → Each (λ (w : Resting). ArrivesBefore w o) (take k orders)
before-at [] k o rising within is = absurd (omega (arith, within))
before-at (x ∷ orders) zero o rising within is = tt
before-at (x ∷ orders) (suc k) o rising within is = (
  Each-among (ArrivesBefore x) orders o rising.0 (among-at orders k o (omega (arith, within)) is),
  before-at orders k o rising.1 (omega (arith, within)) is,
)

pub earlier-at : (orders : List Resting) (k : ℕ) (o : Resting) → EachPair ArrivesBefore orders → k < length orders → o ≡ get_or orders k o → Each (λ (w : Resting). w.arrival < o.arrival) (take k orders)
earlier-at orders k o rising within is =
    Each-weaker (λ (w : Resting). ArrivesBefore w o) (λ (w : Resting). w.arrival < o.arrival) (λ w before. before.arrival) (take k orders) (before-at orders k o rising within is)

pub absent-at : (orders : List Resting) (k : ℕ) (o : Resting) → EachPair ArrivesBefore orders → k < length orders → o ≡ get_or orders k o → Each (λ (w : Resting). is_order o.bank o.number w ≡ false) (take k orders)
absent-at orders k o rising within is =
    Each-weaker (λ (w : Resting). ArrivesBefore w o) (λ (w : Resting). is_order o.bank o.number w ≡ false)
    (λ w before. false_from_ne_true (is_order o.bank o.number w) (λ own.
    let says = is_order-says o.bank o.number w own in before.number says.0 says.1)) (take k orders) (before-at orders k o rising within is)
