use Rattle.std.proofs.Common.{ap, map, sym, take, ◌∙◌}
use Rattle.std.proofs.lemmas.List.{take-map}
use Rattle.std.proofs.lemmas.Option.{MatchOption-at_some}
use Rattle.access_index.specs.inside.Words.{head_of}
use Rattle.access_index.proofs.words.FirstHeads.first.Goals as goal

pub returns-clause-first : goal.returns-clause-first
returns-clause-first g c =
    let words = MatchOption-at_some _ _ c.unwrap-2.result c.unwrap-2.ensures c.first_chunk-2.ensures.cases in
    ap (map head_of) words.same ∙ sym (take-map head_of g.row.M c.self.inside.words) ∙ ap (take g.row.M) c.self.view_is
