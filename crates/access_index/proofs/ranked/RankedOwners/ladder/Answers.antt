use Rattle.std.proofs.Common.{List, ℕ, ◌∙◌, ap, sym, nat_eq}
use Rattle.std.specs.Map.{lookup}
use Rattle.price_levels.specs.Rungs.{Rungs}
use Rattle.access_index.proofs.Numbering.{key_within, looked_up}
use Rattle.access_index.proofs.ranked.RankedOwners.ladder.Goals as goal

pub index-requires-2 : goal.index-requires-2
index-requires-2 c =
    key_within c.self.inside.numbers c.self.inside.ladders c.self.invariant.numbered c.index.result c.args.bank c.in_ok-number.number c.from.result c.index.ensures.value c.index.ensures.most c.in_ok-number.was c.from.ensures

pub returns : goal.returns
returns c =
    sym (looked_up c.self.inside.numbers c.self.inside.ladders c.self.invariant.numbered c.index.result c.args.bank c.in_ok-number.number c.from.result c.index.ensures.value c.index.ensures.most c.in_ok-number.was c.from.ensures
    c.index-2.result.now c.index-2.ensures)
    ∙ ap (λ (os : List (ℕ × Rungs)). lookup (nat_eq c.args.bank) os) c.self.view_is
