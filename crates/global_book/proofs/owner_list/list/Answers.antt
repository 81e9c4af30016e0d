use Rattle.std.proofs.Common.{List, ℕ, true, false, ltb, rules, ap, sym, subst, ◌∙◌, ◌≡◌, arith, length, if◌then◌else◌}
use Rattle.std.specs.Result.{is_ok}
use Rattle.std.specs.List.{insert}
use Rattle.std.specs.List.Sorted.{IsPartitionedBy, IsPartitionPoint}
use Rattle.std.proofs.lemmas.List.Sorted.{IsPartitionPoint-from_clause}
use Rattle.global_book.proofs.Owning.{inserts_bank}
use Rattle.global_book.proofs.owner_list.list.Goals as goal

pub returns-clause-banks : goal.returns-clause-banks
returns-clause-banks c =
    let banks : List ℕ = c.args.banks.now.items in
    let parted : IsPartitionPoint (λ other. ltb other c.args.bank ≡ true) (λ other. ltb other c.args.bank ≡ false) banks c.partition_point-at.result =
    subst (λ (xs : List ℕ). IsPartitionPoint (λ other. ltb other c.args.bank ≡ true) (λ other. ltb other c.args.bank ≡ false) xs c.partition_point-at.result) c.deref.ensures.value
    (IsPartitionPoint-from_clause (λ other. ltb other c.args.bank) c.deref.result.now c.partition_point-at.result
    c.partition_point-at.ensures.partitioned (subst (IsPartitionedBy (λ other. ltb other c.args.bank)) (sym c.deref.ensures.value) c.requires.in_order) (λ a r f' called. search rules)) in
    c.insert.ensures.items
    ∙ ap (λ r. if is_ok r then insert banks c.partition_point-at.result c.args.bank else banks) c.unwrap.ensures
    ∙ inserts_bank c.args.bank banks c.partition_point-at.result (omega (arith, c.partition_point-at.ensures.bound, ap length c.deref.ensures.value)) parted
