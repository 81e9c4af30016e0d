-- What was made is the flat state as the day opens.
use Rattle.std.proofs.Common.{ℕ, List, ◌≡◌, sym, ap, subst, ◌∙◌, replicate, map}
use Rattle.fx_rules.specs.declared.session.PairRule.{PairRule}
use Rattle.fx_rules.specs.Lists.{total}
use Rattle.fx_rules.specs.Session.{sender_places}
use Rattle.flat_host.specs.inside.Host.{flat_state_of}
use Rattle.flat_host.proofs.OpeningLemmas.{IsOpening, opening-state, opening-stands, total_zero}
use Rattle.flat_host.proofs.host.FlatHost.open.Goals as goal

zeros_same : (counts : List ℕ) (read banks : ℕ) → read ≡ banks → counts ≡ replicate read 0 → counts ≡ replicate banks 0
zeros_same counts read banks same are = subst (λ n. counts ≡ replicate n 0) same are

opened : (c : goal.In_ok-weights_of) → IsOpening c.args.session.now (flat_state_of (record {
  orders = c.new.result;
  credit = c.in_ok-open.field-0;
  counts = c.in_ok-vec.field-0;
  arrivals = 0;
  weights = c.in_ok-weights_of.field-0;
}))
opened c = record {
  session = c.sender_places-places.ensures.valid;
  orders = c.new.ensures.items;
  credit = c.in_ok-open.ensures.opens;
  counts = zeros_same c.in_ok-vec.field-0.items c.sender_places-places.result (sender_places c.args.session.now) c.sender_places-places.ensures.value
      (c.in_ok-vec.ensures.items_if_clones_equal (λ y same. same));
  weights = c.in_ok-weights_of.ensures.weights ∙ ap (map (λ (rule : PairRule). rule.weight)) c.pairs.ensures.value;
}

pub invariant_of-result : goal.invariant_of-result
invariant_of-result c = record {
  state = opening-state c.args.session.now _ (opened c);
  arrivals = sym (ap (total (λ n. n)) (opened c).counts ∙ total_zero (sender_places c.args.session.now));
}

pub returns : goal.returns
returns c = record {
  banks = (opened c).credit.banks;
  opens = opening-stands c.args.session.now _ (opened c);
  counts = (opened c).counts;
  weights = (opened c).weights;
}
