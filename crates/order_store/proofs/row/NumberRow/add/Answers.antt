use Rattle.std.proofs.Common.{List, [], ◌∷◌, ◌++◌, ap, ◌∙◌}
use Rattle.order_store.specs.declared.row.Numbered.{Numbered}
use Rattle.order_store.specs.inside.Rows.{Row}
use Rattle.order_store.proofs.Numbering.{numbered, with_key-behind}
use Rattle.order_store.proofs.row.NumberRow.add.Goals as goal

pub returns-then-is_below-clause-entries : goal.returns-then-is_below-clause-entries
returns-then-is_below-clause-entries c =
    c.push_reserved.ensures.items ∙ ap (λ (es : List Numbered). es ++ numbered c.args.number c.args.key ∷ []) (ap (λ (r : Row). r.entries) c.self.view_is)
    ∙ with_key-behind c.args.number c.args.key c.args.self.now.entries (c.is_below.ensures.below.0 c.if-is_below.true)
