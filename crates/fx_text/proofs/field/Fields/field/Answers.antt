use Rattle.std.proofs.Common.{◌∙◌, ◌<◌, ap, List, ℕ, [], length, slice_index_or, arith}
use Rattle.fx_text.specs.Fields.{fields_of}
use Rattle.fx_text.proofs.FieldLemmas.{kept_field_or}
use Rattle.fx_text.proofs.field.Fields.field.Goals as goal

pub returns : goal.returns
returns c =
    let there : c.args.at < c.self.inside.kept.count = omega (arith, c.self.invariant.counted, ap (λ (fields : List (List ℕ)). length fields) c.self.view_is, c.requires.there) in
    kept_field_or c.self.inside.kept.first (fields_of c.self.inside.line.now) c.self.inside.kept.count c.args.at _ c.self.invariant.counted c.self.invariant.eight c.requires.kept there
    ∙ ap (λ (fields : List (List ℕ)). slice_index_or fields c.args.at []) c.self.view_is
