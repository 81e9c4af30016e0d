use Rattle.std.proofs.Common.{ap, arith}
use Rattle.credit_lines.specs.Credit.{Credit}
use Rattle.pair_shards.proofs.Keeping.{answers}
use Rattle.pair_shards.proofs.shard.Shard.answer.Goals as goal

pub answer-requires-clause-bank : goal.answer-requires-clause-bank
answer-requires-clause-bank g c =
    omega (arith, c.requires.sender, ap (λ (l : Credit). l.banks) c.lines.ensures.value, c.lines.ensures.kept.stands.lines.banks)

pub returns : goal.returns
returns g c = record {
  answers = answers _ _ _ _ _ _ _ _ _ _ c.self.view_is c.self.invariant c.requires.caught_up c.weight-weight.ensures.kept c.lines.ensures.value c.weight-weight.ensures.value c.pair.ensures.value c.requires.next c.answer.ensures.answers;
}
