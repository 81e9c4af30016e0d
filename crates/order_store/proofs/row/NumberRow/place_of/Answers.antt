use Rattle.std.proofs.Common.{List, ◌≡◌, rules, ap, sym, subst, ◌∙◌}
use Rattle.std.proofs.lemmas.List.Sorted.{IsPartitionPoint-from_clause}
use Rattle.order_store.specs.declared.row.Numbered.{Numbered}
use Rattle.order_store.specs.inside.Rows.{Row, AreRising}
use Rattle.order_store.proofs.Numbering.{IsPlace, is_lower, rising-parted}
use Rattle.order_store.proofs.row.NumberRow.place_of.Goals as goal

pub returns-clause-parted : goal.returns-clause-parted
returns-clause-parted c =
    let seen : c.deref.result.now ≡ c.args.self.now.entries = c.deref.ensures.value ∙ ap (λ (r : Row). r.entries) c.self.view_is in
    subst (λ (es : List Numbered). IsPlace c.args.number es c.partition_point.result) seen
    (IsPartitionPoint-from_clause (is_lower c.args.number) c.deref.result.now c.partition_point.result c.partition_point.ensures.partitioned
    (rising-parted c.args.number c.deref.result.now (subst AreRising (sym c.deref.ensures.value) c.self.invariant)) (λ a r f' called. search rules))
