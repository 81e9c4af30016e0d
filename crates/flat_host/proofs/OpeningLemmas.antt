-- The flat state as a day opens.
use Rattle.std.proofs.Common.{ℕ, zero, suc, ◌≡◌, ◌/◌, ◌%◌, ◌≤◌, ◌<◌, ◌^◌, List, [], ◌∷◌, ◌&&◌, ltb, refl, ap, sym, subst, ◌∙◌, arith, length, map, replicate}
use Rattle.std.proofs.lemmas.Bool.{and_from, lt-ltb, cond-true}
use Rattle.std.proofs.lemmas.List.{length-map, length-replicate}
use Rattle.std.proofs.lemmas.List.Elements.{recursion_from_All}
use Rattle.fx_rules.specs.declared.session.PairRule.{PairRule}
use Rattle.fx_rules.specs.Lists.{Each, total}
use Rattle.fx_rules.specs.Session.{Header, IsSession, IsPairRule, bank_count, sender_places, opening_limit}
use Rattle.fx_rules.specs.State.{opening}
use Rattle.fx_rules.proofs.Senders.{places-most}
use Rattle.flat_host.specs.FlatState.{FlatCredit, FlatState, StandsFor, limit_place, use_place, use_in, others_of}
use Rattle.flat_host.specs.inside.FlatState.{IsCredit, IsFlatState}
use Rattle.flat_host.specs.inside.Opening.{limit_at, OpensWith}
use Rattle.flat_host.proofs.Spending.{total_none}

each_zero : (n : ℕ) → Each (λ count. count < 2 ^ 32) (replicate n 0)
each_zero zero = tt
each_zero (suc n) = (omega arith, each_zero n)

pub total_zero : (n : ℕ) → total (λ count. count) (replicate n 0) ≡ 0
total_zero zero = refl
total_zero (suc n) = omega (arith, total_zero n)

weights_in : (rules : List PairRule) → Each IsPairRule rules → Each (λ weight. (1 ≤ weight) × (weight ≤ 10 ^ 6)) (map (λ (rule : PairRule). rule.weight) rules)
weights_in [] all = tt
weights_in (rule ∷ rules) all = ((all.0.weight_least, all.0.weight_most), weights_in rules all.1)

-- tables of credit as they open
pub opening-credit : (h : Header) (credit : FlatCredit) → IsSession h → OpensWith h credit → length credit.limits ≡ 4225 → length credit.uses ≡ 4225 → length credit.totals ≡ 65 → IsCredit credit
opening-credit h credit session opens limits_full uses_full totals_full = record {
  limits_full = limits_full;
  uses_full = uses_full;
  totals_full = totals_full;
  banks = omega (arith, opens.banks, session.banks_most);
  within = record {
    lines = λ i j _ _ _. omega (arith, opens.uses (use_place i j));
    totals = λ bank most _ _. omega (arith, total_none (use_in credit.uses bank) (others_of credit.banks bank) (λ other. opens.uses (use_place bank other)));
  };
}

-- a flat state as it opens
pub record IsOpening (h : Header) (l : FlatState) : Type 0 where
  pub session : IsSession h
  pub orders : l.orders ≡ []
  pub credit : OpensWith h l.credit
  pub counts : l.counts ≡ replicate (sender_places h) 0
  pub weights : l.weights ≡ map (λ rule. rule.weight) h.pairs

pub opening-state : (h : Header) (l : FlatState) → IsOpening h l → IsFlatState l
opening-state h l is = record {
  senders = omega (arith, ap length is.counts, length-replicate {A = ℕ} (sender_places h) 0, places-most h is.session);
  counts = subst (Each (λ count. count < 2 ^ 32)) (sym is.counts) (each_zero (sender_places h));
  pairs = omega (arith, ap length is.weights, length-map h.pairs (λ (rule : PairRule). rule.weight), is.session.pairs_most);
  weights = subst (Each (λ weight. (1 ≤ weight) × (weight ≤ 10 ^ 6))) (sym is.weights)
      (weights_in h.pairs (recursion_from_All IsPairRule h.pairs is.session.rules));
}

limit_at-place : (h : Header) (i j : ℕ) → i < bank_count h → j < bank_count h → bank_count h ≤ 64 → limit_at h (limit_place i j) ≡ opening_limit h i j
limit_at-place h i j i_in j_in most =
    let row : limit_place i j / 65 ≡ i = omega arith in
    let column : limit_place i j % 65 ≡ j = omega arith in
    cond-true (ltb (limit_place i j / 65) (bank_count h) && ltb (limit_place i j % 65) (bank_count h)) (opening_limit h (limit_place i j / 65) (limit_place i j % 65)) 0
    (and_from (ltb (limit_place i j / 65) (bank_count h)) (ltb (limit_place i j % 65) (bank_count h))
    (lt-ltb (limit_place i j / 65) (bank_count h) (omega (arith, row))) (lt-ltb (limit_place i j % 65) (bank_count h) (omega (arith, column))))
    ∙ ap (λ r. opening_limit h r (limit_place i j % 65)) row ∙ ap (opening_limit h i) column

pub opening-stands : (h : Header) (l : FlatState) → IsOpening h l → StandsFor h (opening h) l
opening-stands h l is = record {
  banks = is.credit.banks;
  orders = is.orders;
  counts = is.counts;
  weights = is.weights;
  limits = λ i j i_in j_in _. is.credit.limits (limit_place i j) (omega (arith, is.session.banks_most)) ∙ limit_at-place h i j i_in j_in is.session.banks_most;
  uses = λ i j _ _ _. is.credit.uses (use_place i j);
  totals = λ bank bank_in. is.credit.totals bank (omega (arith, bank_in, is.session.banks_most));
}
