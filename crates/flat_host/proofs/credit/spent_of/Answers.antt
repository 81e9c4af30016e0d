-- What was used with one bank more is added, but with the bank itself.
use Rattle.std.proofs.Common.{ℕ, ◌≡◌, ◌≢◌, ◌<◌, eqb, not, List, inl, inr, arith, sym, ap, ◌∙◌, length, get_or}
use Rattle.std.proofs.lemmas.Bool.{cases_eq, both_ways, eq-eqb, ne_eqb}
use Rattle.std.proofs.lemmas.List.{get_or_default}
use Rattle.flat_host.specs.FlatState.{use_place, use_in}
use Rattle.flat_host.proofs.Spending.{others-other, others-own}
use Rattle.flat_host.proofs.credit.spent_of.Goals as goal
use Rattle.flat_host.proofs.credit.spent_of.Goals.{then-ne, else-ne}

use_read : (uses : List ℕ) (place at' read : ℕ) → place ≡ at' → read ≡ get_or uses place read → place < length uses → read ≡ get_or uses at' 0
use_read uses place at' read same is within = is ∙ get_or_default uses place read 0 within ∙ ap (λ p. get_or uses p 0) same

pub loop-place-preserved : goal.loop-place-preserved
loop-place-preserved c =
    let uses : List ℕ = c.args.uses.now in
    let bank : ℕ = c.args.bank in
    let place : ℕ = c.loop-place.place in
    let other : ℕ = c.at-other.result in
    elim c.if-ne.branch [
      | then-ne w ↦
          let differ : place ≢ bank = λ same.
          both_ways (not (eqb other bank)) (ap not (eq-eqb other bank (c.at-other.ensures.value ∙ same))) (sym c.ne.ensures ∙ w.if-ne.true) in
          let read : w.index-uses-use_place.result ≡ use_in uses bank place =
          use_read uses w.use_place.result (use_place bank place) w.index-uses-use_place.result
          (w.use_place.ensures.value ∙ ap (use_place bank) c.at-other.ensures.value) w.index-uses-use_place.is
          (omega (arith, w.use_place.ensures.most, c.requires.uses)) in
          record {
            spent = omega (arith, w.spent-is, w.get-spent.ensures.value, read, c.loop-place.invariant.spent, others-other (use_in uses bank) place bank differ);
            most = omega (arith, w.spent-is, w.get-spent.ensures.most, c.loop-place.invariant.most);
          }
      | else-ne w ↦
          let same : place ≡ bank = elim (cases_eq other bank) [
            | inl is ↦ sym c.at-other.ensures.value ∙ is
            | inr apart ↦ absurd (both_ways (not (eqb other bank)) (sym c.ne.ensures ∙ w.if-ne.false) (ap not (ne_eqb other bank apart)))
          ] in
          record {
            spent = omega (arith, w.spent-is, c.loop-place.invariant.spent, others-own (use_in uses bank) place bank same);
            most = omega (arith, w.spent-is, c.loop-place.invariant.most);
          }
    ]
