-- The fields of a reply that shows no local book.
use Rattle.std.specs.Prelude.{Bool, false, List, ℕ, [], true, ◌∷◌, codes}
use Rattle.fx_amounts.specs.Numeral.{numeral}
use Rattle.fx_rules.specs.Reject.{code_of}
use Rattle.fx_rules.specs.declared.outcome.Outcome.{Outcome}
use Rattle.fx_rules.specs.declared.outcome.Outcome.TheVariants.{Ordered, Killed, Cancelled, Reduced, NotLess, Nothing, Pulled, LineSet, TotalSet, Settled, Shown, Depth, Rejected}

-- of a reply that shows one there are none here
abbrev pub plain_fields : Outcome → List (List ℕ)
plain_fields (Ordered done rests fills) = codes "ORDERED" ∷ numeral done ∷ numeral rests ∷ []
plain_fields Killed = codes "KILLED" ∷ []
plain_fields (Cancelled left) = codes "CANCELLED" ∷ numeral left ∷ []
plain_fields (Reduced left) = codes "REDUCED" ∷ numeral left ∷ []
plain_fields (NotLess left) = codes "NOTLESS" ∷ numeral left ∷ []
plain_fields Nothing = codes "NOTHING" ∷ []
plain_fields (Pulled count) = codes "PULLED" ∷ numeral count ∷ []
plain_fields (LineSet limit fills) = codes "LIMIT" ∷ numeral limit ∷ []
plain_fields (TotalSet most fills) = codes "TOTAL" ∷ numeral most ∷ []
plain_fields (Settled given fills) = codes "SETTLED" ∷ numeral given ∷ []
plain_fields (Shown limit spent eff) = codes "SHOWN" ∷ numeral limit ∷ numeral spent ∷ numeral eff ∷ []
plain_fields (Depth bids asks) = []
plain_fields (Rejected reason) = codes "BAD" ∷ numeral (code_of reason) ∷ []

-- an order was swept, or taken out at its bank's wish
abbrev pub is_of_order : Outcome → Bool
is_of_order (Ordered done rests fills) = true
is_of_order (Cancelled left) = true
is_of_order _ = false
