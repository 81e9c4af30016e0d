-- Where the line pays for nothing more, the turns that are left make no fills.
use Rattle.std.proofs.Common.{ℕ, ◌≡◌, ◌/◌, false, List, [], ◌∷◌, inr, refl, arith}
use Rattle.std.proofs.lemmas.Bool.{false_from_ne_true}
use Rattle.fx_rules.specs.declared.orders.Resting.{Resting}
use Rattle.fx_rules.specs.Sweep.{is_open, open_in}
use Rattle.fx_rules.specs.Raise.{taker_of_resting}
use Rattle.fx_rules.proofs.ListLemmas.{Each-of}
use Rattle.fx_rules.proofs.Opens.{is_open-says}
use Rattle.credit_raise.specs.inside.Playing.{only, other_of, joined, Played}
use Rattle.credit_raise.proofs.Playing.{only_most}
use Rattle.credit_raise.proofs.Living.{none_kept}

-- no order is open
pub unpaid-closed : (pair other lots : ℕ) (o : Resting) (waiting : List Resting) → lots ≡ 0 → open_in (only other lots) (taker_of_resting pair o) waiting ≡ []
unpaid-closed pair other lots o waiting none =
    none_kept (λ (w : Resting). is_open (taker_of_resting pair o) (only other lots w.bank) w) waiting
    (Each-of (λ (w : Resting). is_open (taker_of_resting pair o) (only other lots w.bank) w ≡ false) waiting
    (λ w _. false_from_ne_true (is_open (taker_of_resting pair o) (only other lots w.bank) w)
    (λ opens. absurd (omega (arith, none, only_most other lots w.bank, (is_open-says (taker_of_resting pair o) (only other lots w.bank) w opens).reach)))))

pub unpaid-plays : (pair weight i j line : ℕ) (waiting coming : List Resting) → line / weight ≡ 0 → Played pair weight i j line waiting coming []
unpaid-plays pair weight i j line waiting [] none = refl
unpaid-plays pair weight i j line waiting (o ∷ coming) none = (
  [],
  [],
  o.left,
  (refl, inr (unpaid-closed pair (other_of i j o.bank) (line / weight) o waiting none)),
  refl,
  unpaid-plays pair weight i j line (joined o o.left waiting) coming none,
)
