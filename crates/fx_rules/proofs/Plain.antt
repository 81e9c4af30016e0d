-- Version 1, in which no bank has a total and nothing is given back: what a line and a use are there, and who sends.
use Rattle.std.proofs.Common.{ℕ, ◌≡◌, ◌≢◌, ◌+◌, ◌-◌, ◌≤◌, eqb, List, [], ◌∷◌, ◌++◌, refl, ap, ◌∙◌, arith, length, Option, None}
use Rattle.std.proofs.lemmas.Bool.{cond-false, ne_eqb}
use Rattle.std.proofs.lemmas.List.{append-nil}
use Rattle.std.specs.Option.{option_map}
use Rattle.fx_rules.specs.Lists.{below}
use Rattle.fx_rules.specs.Session.{Header, IsSession, bank_count, host, newest, senders}
use Rattle.fx_rules.specs.State.{State, spent, headroom, at_most, left_of_limits, line}
use Rattle.fx_rules.specs.Sound.{IsPlain}

-- there is the first version
pub first-known : 1 ≤ newest
unfolding newest
first-known = omega arith

-- and no other one than the second
pub first_or_second : (version : ℕ) → 1 ≤ version → version ≤ newest → version ≢ 2 → version ≡ 1
unfolding newest
first_or_second version least most other = omega (arith, least, most, other)

-- ---- totals and senders in version 1

none_of : (totals : List (Option ℕ)) → length totals ≡ 0 → totals ≡ []
none_of [] none = refl
none_of (total ∷ totals) none = absurd (omega (arith, none))

pub first-totals : (h : Header) → IsSession h → h.version ≡ 1 → h.totals ≡ []
first-totals h session first =
    none_of h.totals (session.totals_full ∙ cond-false (eqb h.version 2) (bank_count h) 0 (ne_eqb h.version 2 (λ second. omega (arith, first, second))))

pub first-senders : (h : Header) → h.version ≡ 1 → senders h ≡ below (bank_count h)
first-senders h first =
    ap (λ (more : List ℕ). below (bank_count h) ++ more)
    (cond-false (eqb h.version 2) (host ∷ []) [] (ne_eqb h.version 2 (λ second. omega (arith, first, second))))
    ∙ append-nil (below (bank_count h))

-- ---- uses and lines in version 1

plain-room : (h : Header) (S : State) (bank : ℕ) → IsPlain S → headroom h S bank ≡ None
plain-room h S bank plain = ap (option_map (λ most. most - spent h S bank)) (plain.totals bank)

pub plain-line : (h : Header) (S : State) (i j : ℕ) → IsPlain S → line h S i j ≡ left_of_limits h S i j
plain-line h S i j plain =
    ap (λ o. at_most o (at_most (headroom h S j) (left_of_limits h S i j))) (plain-room h S i plain)
    ∙ ap (λ o. at_most o (left_of_limits h S i j)) (plain-room h S j plain)
