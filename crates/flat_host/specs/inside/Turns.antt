-- What private functions and proofs alone say of it, beside `specs/Turns.antt`.
use Rattle.std.specs.Prelude.{ℕ, ◌≡◌, List, [], find, max, min, length, slice_index, MatchOption}
use Rattle.fx_rules.specs.declared.orders.ActiveOrder.{ActiveOrder}
use Rattle.fx_rules.specs.declared.orders.Resting.{Resting}
use Rattle.fx_rules.specs.declared.orders.Fill.{Fill}
use Rattle.fx_rules.specs.State.{orders_in}
use Rattle.fx_rules.specs.Sweep.{is_order}
use Rattle.fx_rules.specs.Raise.{taker_of_resting}
use Rattle.fx_rules.specs.declared.outcome.Outcome.{Outcome}
use Rattle.fx_rules.specs.declared.outcome.Outcome.TheVariants.{LineSet, TotalSet, Settled}
use Rattle.flat_host.specs.FlatState.{FlatCredit, FlatState, use_in, spent_in}
use Rattle.flat_host.specs.Parts.{PlannedBy}
use Rattle.flat_host.specs.inside.Parts.{filled_in, limited_in, totalled_in, settled_in}
use Rattle.flat_host.specs.Turns.{RaisedIn}

-- the fills of one order's turn: none where it no longer rests, else those of its sweep
abbrev pub TurnOf : List ℕ → ℕ → List ActiveOrder → FlatCredit → Resting → List Fill → Type 0
TurnOf weights pair book credit order own =
    MatchOption (find (λ o. is_order order.bank order.number o) (orders_in pair book))
    (own ≡ [])
    (λ now. (left : ℕ) × PlannedBy (slice_index weights pair) credit (orders_in pair book) (taker_of_resting pair now) own left)

-- the fills that a credit change makes, once it has changed the tables of credit
abbrev pub MadeIn : FlatState → FlatCredit → List Fill → Type 0
MadeIn l credit fills = RaisedIn l.weights l.orders (length l.weights) 0 credit fills

-- what a bank's asking for a limit on another answers: the greater of what it asks and what they have used, and the fills
-- that the new limit makes
abbrev pub LineSetIn : FlatState → ℕ → ℕ → ℕ → Outcome → Type 0
LineSetIn l bank other asked (LineSet limit fills) =
    (limit ≡ max asked (use_in l.credit.uses bank other)) × MadeIn l (limited_in l.credit bank other limit) fills
LineSetIn _ _ _ _ _ = ⊥

-- a bank's asking for a total: the greater of what it asks and what it has used with all others
abbrev pub TotalSetIn : FlatState → ℕ → ℕ → Outcome → Type 0
TotalSetIn l bank asked (TotalSet most fills) =
    (most ≡ max asked (spent_in l.credit bank)) × MadeIn l (totalled_in l.credit bank most) fills
TotalSetIn _ _ _ _ = ⊥

-- and a settlement: the lesser of what is asked and what the two banks have used
abbrev pub SettledIn : FlatState → ℕ → ℕ → ℕ → Outcome → Type 0
SettledIn l a b asked (Settled given fills) =
    (given ≡ min asked (use_in l.credit.uses a b)) × MadeIn l (settled_in l.credit a b given) fills
SettledIn _ _ _ _ _ = ⊥

-- the flat state with its tables of credit changed, and these fills made
abbrev pub raised_in : FlatState → FlatCredit → List Fill → FlatState
raised_in l credit fills = filled_in (record l { credit = credit }) fills

-- the flat state with that limit set and fills made
abbrev pub line_raised_in : FlatState → ℕ → ℕ → ℕ → List Fill → FlatState
line_raised_in l bank other asked fills = raised_in l (limited_in l.credit bank other (max asked (use_in l.credit.uses bank other))) fills

-- with that total
abbrev pub total_raised_in : FlatState → ℕ → ℕ → List Fill → FlatState
total_raised_in l bank asked fills = raised_in l (totalled_in l.credit bank (max asked (spent_in l.credit bank))) fills

-- with that much given back
abbrev pub settled_raised_in : FlatState → ℕ → ℕ → ℕ → List Fill → FlatState
settled_raised_in l a b asked fills = raised_in l (settled_in l.credit a b (min asked (use_in l.credit.uses a b))) fills
