use Rattle.std.proofs.Common.{List, ◌≡◌, ap, sym, subst, ◌∙◌, if◌then◌else◌}
use Rattle.std.proofs.Math.ListN.{set}
use Rattle.std.specs.List.{insert}
use Rattle.std.specs.Result.{is_ok}
use Rattle.order_store.specs.declared.row.Numbered.{Numbered}
use Rattle.order_store.specs.inside.Rows.{Row, AreRising, with_key}
use Rattle.order_store.proofs.Numbering.{rising-with_key, with_key-insert, with_key-set}
use Rattle.order_store.proofs.row.NumberRow.put.Goals as goal

pub returns-then-is_at-clause-entries : goal.returns-then-is_at-clause-entries
returns-then-is_at-clause-entries c =
    ap (λ (es : List Numbered). set es c.place_of-at.result c.args.entry) (ap (λ (r : Row). r.entries) c.self.view_is)
    ∙ with_key-set c.args.entry.number c.args.entry.key c.args.self.now.entries c.place_of-at.result (sym c.is_at.ensures ∙ c.if-is_at.true) c.place_of-at.ensures.parted

pub invariant_of-self-else-is_at : goal.invariant_of-self-else-is_at
invariant_of-self-else-is_at c =
    let seen : c.self.inside.entries.items ≡ c.args.self.now.entries = ap (λ (r : Row). r.entries) c.self.view_is in
    let inserted : c.insert.new.self.items ≡ with_key c.args.entry.number c.args.entry.key c.args.self.now.entries =
    c.insert.ensures.items
    ∙ ap (λ r. if is_ok r then insert c.self.inside.entries.items c.place_of-at.result c.args.entry else c.self.inside.entries.items) c.unwrap.ensures
    ∙ ap (λ (es : List Numbered). insert es c.place_of-at.result c.args.entry) seen
    ∙ with_key-insert c.args.entry.number c.args.entry.key c.args.self.now.entries c.place_of-at.result c.place_of-at.ensures.within (sym c.is_at.ensures ∙ c.if-is_at.false) c.place_of-at.ensures.parted in
    subst AreRising (sym inserted) (rising-with_key c.args.entry.number c.args.entry.key c.args.self.now.entries (subst AreRising seen c.self.invariant))

pub returns-else-is_at-clause-entries : goal.returns-else-is_at-clause-entries
returns-else-is_at-clause-entries c =
    c.insert.ensures.items
    ∙ ap (λ r. if is_ok r then insert c.self.inside.entries.items c.place_of-at.result c.args.entry else c.self.inside.entries.items) c.unwrap.ensures
    ∙ ap (λ (es : List Numbered). insert es c.place_of-at.result c.args.entry) (ap (λ (r : Row). r.entries) c.self.view_is)
    ∙ with_key-insert c.args.entry.number c.args.entry.key c.args.self.now.entries c.place_of-at.result c.place_of-at.ensures.within (sym c.is_at.ensures ∙ c.if-is_at.false) c.place_of-at.ensures.parted
