use Rattle.credit_lines.proofs.TableFollowing.{opens, none_sent, opening_stands}
use Rattle.credit_lines.proofs.table.CreditTable.open.Goals as goal

pub invariant_of-result : goal.invariant_of-result
invariant_of-result c = record {
  table = opens c.args.session.now _ _ c.in_ok-vec.field-0.items c.sender_places-places.result c.sender_places-places.ensures.valid c.in_ok-copy_of.ensures.same c.in_ok-open.ensures.value
      (c.in_ok-vec.ensures.items_if_clones_equal (λ y same. same)) c.sender_places-places.ensures.value;
  arrivals = none_sent c.in_ok-vec.field-0.items c.sender_places-places.result (c.in_ok-vec.ensures.items_if_clones_equal (λ y same. same));
}

pub returns : goal.returns
returns c = record {
  stands = opening_stands c.args.session.now _ c.sender_places-places.result c.in_ok-copy_of.ensures.same c.in_ok-open.ensures.value
      (c.in_ok-vec.ensures.items_if_clones_equal (λ y same. same)) c.sender_places-places.ensures.value;
}
