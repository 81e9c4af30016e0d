use Rattle.std.proofs.Common.{◌∙◌, ap, sym, lt-ltb, List, ℕ, slice_get}
use Rattle.std.proofs.lemmas.Bool.{cond-true}
use Rattle.fx_text.specs.Fields.{fields_of}
use Rattle.fx_text.proofs.FieldLemmas.{kept_field}
use Rattle.fx_text.proofs.field.Fields.get.Goals as goal

pub returns-then-at-self : goal.returns-then-at-self
returns-then-at-self c =
    sym (cond-true _ _ _ (lt-ltb c.args.at 8 c.if-at-lt-MOST_KEPT.true)
    ∙ ap (λ (fields : List (List ℕ)). slice_get fields c.args.at) (sym c.self.view_is)
    ∙ kept_field c.self.inside.kept.first (fields_of c.self.inside.line.now) c.self.inside.kept.count c.args.at _ c.self.invariant.counted c.self.invariant.eight c.if-at-lt-MOST_KEPT.true c.if-at-self.true)
