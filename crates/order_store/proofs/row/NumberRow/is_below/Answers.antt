use Rattle.std.proofs.Common.{List, ◌≡◌, ◌<◌, ap, sym, subst, ◌∙◌}
use Rattle.std.proofs.lemmas.Bool.{lt-ltb, ltb-true}
use Rattle.std.specs.List.{All}
use Rattle.order_store.specs.declared.row.Numbered.{Numbered}
use Rattle.order_store.specs.inside.Rows.{Row, AreRising}
use Rattle.order_store.proofs.Numbering.{all_below, last_below}
use Rattle.order_store.proofs.row.NumberRow.is_below.Goals as goal

pub returns-in-Some : goal.returns-in-Some
returns-in-Some c =
    let entries : List Numbered = c.deref.result.now in
    let last : Numbered = c.in-Some.last.now in
    let item = c.in-Some.ensures.item in
    let seen : entries ≡ c.args.self.now.entries = c.deref.ensures.value ∙ ap (λ (r : Row). r.entries) c.self.view_is in
    record {
      below = (
        λ less. subst (All (λ entry. entry.number < c.args.number)) seen
            (all_below c.args.number entries last (subst AreRising (sym c.deref.ensures.value) c.self.invariant) item.3.0 item.1 (ltb-true last.number c.args.number less)),
        λ all. lt-ltb last.number c.args.number (last_below c.args.number entries last item.3.0 item.1 (subst (All (λ entry. entry.number < c.args.number)) (sym seen) all)),
      );
    }
